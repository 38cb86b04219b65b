-- The stated pair encloses the exact value. Assumes nothing.
use Rattle.std.proofs.Common.{◌≡◌, ℕ, zero, suc, ◌+◌, ◌*◌, ◌/◌, ◌<◌, ◌≤◌, Bool, true, false, ltb, List, length, get_or, Option, Some, None, sym, refl, ap, ◌∙◌, subst, mul-le-mul_right, arith}
use Rattle.std.proofs.Math.Nat.{div-le_of_le-mul}
use Rattle.std.proofs.lemmas.Bool.{le-ltb, lt-ltb}
use Rattle.std.proofs.lemmas.Bool.Decides.{nat_tests}
use Rattle.basis.specs.declared.kind.Kind.{Kind}
use Rattle.basis.specs.declared.kind.Kind.TheVariants.{ActiveDeath, InvalidDeath, PopulationDeath, WidowDeath}
use Rattle.basis.specs.Figures.{Figures, Lawful}
use Rattle.valuation.specs.declared.benefit.Benefit.{Benefit}
use Rattle.valuation.specs.declared.benefit.Benefit.TheVariants.{Retired, Population, Invalid, Widow, RetiredWidow, PopulationWidow, InvalidWidow, Active, ActiveRetirement, ActiveInvalidity, ActiveInvalidityRetirement, ActiveDeathWidow, ActiveRetiredWidow, ActiveOrRetiredWidow, ActiveInvalidWidow, ActiveWidow}
use Rattle.valuation.specs.declared.pair.Pair.{Pair}
use Rattle.valuation.specs.Fraction.{Fraction, Proper, nought, whole, ◌⊕◌, ◌⊗◌, ◌≼◌}
use Rattle.valuation.specs.Terms.{discount, listed}
use Rattle.valuation.specs.Benefits.{span}
use Rattle.valuation.specs.Exact.{exact_cents, paid, lives, stays, survives, share, exact_value, pension, widowed, retiring, retiring_widow, turning_invalid, turning_invalid_widow}
use Rattle.valuation.specs.Fixed.{scale, product, Stands}
use Rattle.valuation.specs.Rates.{kept_number, loss_number, paid_number}
use Rattle.valuation.specs.Pair.{running, slack, weight, stays_on, goes_on, share_number, survival_number, level_number, pension_number, widowed_number, turning_invalid_number, turning_invalid_widow_number, low_units, high_units, lower_cents, upper_cents, lower, upper}
use Rattle.valuation.specs.declared.stream.Stream.{Stream}
use Rattle.valuation.specs.Streams.{stream_of}
use Rattle.valuation.specs.Columns.{Reads, WidowsFor, level_share}
use Rattle.valuation.specs.ActivePath.{active_share, below_number, final_number}
use Rattle.valuation.specs.Enclosure.{PairsEnclose}
use Rattle.valuation.specs.Valued.{Valued}
use Rattle.valuation.proofs.Enclosures.{stands_sum, stands_wider}
use Rattle.valuation.proofs.Backward.{remaining, backward, same_value}
use Rattle.valuation.proofs.Running.{Year, weighed, running_bound, running_low, running_encloses}
use Rattle.valuation.proofs.Cents.{cents_low, cents_high}
use Rattle.valuation.proofs.Propers.{backward_proper, value_proper, exact_proper}
use Rattle.valuation.proofs.Shares.{goes_stands, goes_small, goes_below, stays_stands, going_small, stays_below, pension_stands, pension_bound, widowed_stands, widowed_bound, pensions_stands, pensions_bound, widows_stands, widows_bound, active_stands, active_bound, turning_stands, turning_bound, turning_widow_stands, turning_widow_bound}

-- a number of at most B that stands for a fraction with an allowance
record Fact (n : ℕ) (x : Fraction) (e B : ℕ) : Type 0 where
  stands : Stands n x e
  bound : n ≤ B * scale

fact_wider : (n : ℕ) (x : Fraction) (e e' B B' : ℕ) → e ≤ e' → B ≤ B' → Fact n x e B → Fact n x e' B'
fact_wider n x e e' B B' he hB h = record { stands = stands_wider n x e e' he h.stands; bound = omega (arith, h.bound, mul-le-mul_right scale hB) }

fact_sum : (n m : ℕ) (x y : Fraction) (e e' B B' : ℕ) → Fact n x e B → Fact m y e' B' → Fact (n + m) (x ⊕ y) (e + e') (B + B')
fact_sum n m x y e e' B B' h k = record { stands = stands_sum n m x y e e' h.stands k.stands; bound = omega (arith, h.bound, k.bound) }

none : (e B : ℕ) → Fact 0 nought e B
none e B = record { stands = record { low = omega arith; high = omega arith }; bound = omega arith }

-- one of two, as a test says
abbrev pick : {X : Type 0} → Bool → X → X → X
pick t a b = elim t [ true ↦ a | false ↦ b ]

fact_pick : (t : Bool) (n m : ℕ) (x y : Fraction) (e B : ℕ) → Fact n x e B → Fact m y e B → Fact (pick t n m) (pick t x y) e B
fact_pick true n m x y e B h k = h
fact_pick false n m x y e B h k = k

-- before the final age an active dies as an active or as an invalid, from then on as a pensioner
any_death : (t : Bool) (a r w : ℕ) (A R W : Fraction) → Fact a A 44652 121 → Fact r R 5446936 121 → Fact w W 5492074 121
    → Fact ((pick t a 0 + pick t 0 r) + pick t w 0) ((pick t A nought ⊕ pick t nought R) ⊕ pick t W nought) 5600000 250
any_death true a r w A R W ha hr hw =
    fact_wider _ _ ((44652 + 0) + 5492074) 5600000 ((121 + 0) + 121) 250 (omega arith) (omega arith)
    (fact_sum (a + 0) w (A ⊕ nought) W (44652 + 0) 5492074 (121 + 0) 121 (fact_sum a 0 A nought 44652 0 121 0 ha (none 0 0)) hw)
any_death false a r w A R W ha hr hw =
    fact_wider _ _ ((0 + 5446936) + 0) 5600000 ((0 + 121) + 0) 250 (omega arith) (omega arith)
    (fact_sum (0 + r) 0 (nought ⊕ R) nought (0 + 5446936) 0 (0 + 121) 0 (fact_sum 0 r nought R 0 5446936 0 121 (none 0 0) hr) (none 0 0))

module _ (f : Figures) (lawful : Lawful f) (interest t : ℕ) (some : 0 < t) (few : t ≤ 12) where
  pension_fact : (b : Kind) (x : ℕ) → Fact (pension_number f interest t b x) (pension f interest t backward b x) 32 1
  pension_fact b x = record { stands = pension_stands f lawful interest t some few b x; bound = omega (arith, pension_bound f lawful interest t some few b x) }

  widowed_fact : (b : Kind) (x : ℕ) → Fact (widowed_number f interest t b x) (widowed f interest t backward b x) 44652 121
  widowed_fact b x = record { stands = widowed_stands f lawful interest t some few b x; bound = widowed_bound f lawful interest t some few b x }

  active_fact : (x : ℕ) → Fact (paid_number (kept_number interest t) (loss_number interest t) (stays_on f interest t x)) (paid interest t (stays f x)) 32 1
  active_fact x = record { stands = active_stands f lawful interest t some few x; bound = omega (arith, active_bound f lawful interest t some few x) }

  retiring_fact : Fact (level_number f interest t PopulationDeath (pension_number f interest t PopulationDeath) f.final_age) (retiring f interest t backward) 47916 121
  unfolding retiring
  retiring_fact = record { stands = pensions_stands f lawful interest t some few PopulationDeath f.final_age; bound = pensions_bound f lawful interest t some few PopulationDeath f.final_age }

  retiring_widow_fact : Fact (level_number f interest t PopulationDeath (widowed_number f interest t PopulationDeath) f.final_age) (retiring_widow f interest t backward) 5446936 121
  unfolding retiring_widow
  retiring_widow_fact = record { stands = widows_stands f lawful interest t some few PopulationDeath f.final_age; bound = widows_bound f lawful interest t some few PopulationDeath f.final_age }

  turning_fact : (x : ℕ) → Fact (turning_invalid_number f interest t x) (turning_invalid f interest t backward x) 44530 121
  turning_fact x = record { stands = turning_stands f lawful interest t some few x; bound = turning_bound f lawful interest t some few x }

  turning_widow_fact : (x : ℕ) → Fact (turning_invalid_widow_number f interest t x) (turning_invalid_widow f interest t backward x) 5492074 121
  turning_widow_fact x = record { stands = turning_widow_stands f lawful interest t some few x; bound = turning_widow_bound f lawful interest t some few x }

  -- every share of every benefit
  share_fact : (b : Benefit) (x : ℕ) → Fact (share_number f interest t b x) (share f interest t backward b x) 5600000 250
  share_fact Retired x = fact_wider _ _ 32 5600000 1 250 (omega arith) (omega arith) (pension_fact PopulationDeath x)
  share_fact Population x = fact_wider _ _ 32 5600000 1 250 (omega arith) (omega arith) (pension_fact PopulationDeath x)
  share_fact Invalid x = fact_wider _ _ 32 5600000 1 250 (omega arith) (omega arith) (pension_fact InvalidDeath x)
  share_fact Widow x = fact_wider _ _ 32 5600000 1 250 (omega arith) (omega arith) (pension_fact WidowDeath x)
  share_fact RetiredWidow x = fact_wider _ _ 44652 5600000 121 250 (omega arith) (omega arith) (widowed_fact PopulationDeath x)
  share_fact PopulationWidow x = fact_wider _ _ 44652 5600000 121 250 (omega arith) (omega arith) (widowed_fact PopulationDeath x)
  share_fact InvalidWidow x = fact_wider _ _ 44652 5600000 121 250 (omega arith) (omega arith) (widowed_fact InvalidDeath x)
  share_fact Active x = fact_wider _ _ 32 5600000 1 250 (omega arith) (omega arith) (fact_pick (ltb x f.final_age) _ 0 _ nought 32 1 (active_fact x) (none 32 1))
  share_fact ActiveRetirement x = fact_wider _ _ 47916 5600000 121 250 (omega arith) (omega arith) (fact_pick (ltb x f.final_age) 0 _ nought _ 47916 121 (none 47916 121) retiring_fact)
  share_fact ActiveInvalidity x = fact_wider _ _ 44530 5600000 121 250 (omega arith) (omega arith) (fact_pick (ltb x f.final_age) _ 0 _ nought 44530 121 (turning_fact x) (none 44530 121))
  share_fact ActiveInvalidityRetirement x =
      fact_wider _ _ (44530 + 47916) 5600000 (121 + 121) 250 (omega arith) (omega arith)
      (fact_sum _ _ _ _ 44530 47916 121 121
      (fact_pick (ltb x f.final_age) _ 0 _ nought 44530 121 (turning_fact x) (none 44530 121))
      (fact_pick (ltb x f.final_age) 0 _ nought _ 47916 121 (none 47916 121) retiring_fact))
  share_fact ActiveDeathWidow x = fact_wider _ _ 44652 5600000 121 250 (omega arith) (omega arith) (fact_pick (ltb x f.final_age) _ 0 _ nought 44652 121 (widowed_fact ActiveDeath x) (none 44652 121))
  share_fact ActiveRetiredWidow x = fact_wider _ _ 5446936 5600000 121 250 (omega arith) (omega arith) (fact_pick (ltb x f.final_age) 0 _ nought _ 5446936 121 (none 5446936 121) retiring_widow_fact)
  share_fact ActiveOrRetiredWidow x =
      fact_wider _ _ (44652 + 5446936) 5600000 (121 + 121) 250 (omega arith) (omega arith)
      (fact_sum _ _ _ _ 44652 5446936 121 121
      (fact_pick (ltb x f.final_age) _ 0 _ nought 44652 121 (widowed_fact ActiveDeath x) (none 44652 121))
      (fact_pick (ltb x f.final_age) 0 _ nought _ 5446936 121 (none 5446936 121) retiring_widow_fact))
  share_fact ActiveInvalidWidow x = fact_wider _ _ 5492074 5600000 121 250 (omega arith) (omega arith) (fact_pick (ltb x f.final_age) _ 0 _ nought 5492074 121 (turning_widow_fact x) (none 5492074 121))
  share_fact ActiveWidow x = any_death (ltb x f.final_age) _ _ _ _ _ _ (widowed_fact ActiveDeath x) retiring_widow_fact (turning_widow_fact x)

  -- every survival
  record Onward (n : ℕ) (p : Fraction) : Type 0 where
    stands : Stands n (discount interest ⊗ p) 3
    small : (discount interest ⊗ p).num ≤ (discount interest ⊗ p).den
    below : n ≤ scale

  lives_onward : (b : Kind) (x : ℕ) → Onward (goes_on f interest t b x) (lives f b x)
  lives_onward b x = record { stands = goes_stands f lawful interest t some few b x; small = goes_small f lawful interest t some few b x; below = goes_below f lawful interest t some few b x }

  stays_onward : (x : ℕ) → Onward (stays_on f interest t x) (stays f x)
  stays_onward x = record { stands = stays_stands f lawful interest t some few x; small = going_small f lawful interest t some few x; below = stays_below f lawful interest t some few x }

  onward : (b : Benefit) (x : ℕ) → Onward (survival_number f interest t b x) (survives f b x)
  onward Retired x = lives_onward PopulationDeath x
  onward Population x = lives_onward PopulationDeath x
  onward Invalid x = lives_onward InvalidDeath x
  onward Widow x = lives_onward WidowDeath x
  onward RetiredWidow x = lives_onward PopulationDeath x
  onward PopulationWidow x = lives_onward PopulationDeath x
  onward InvalidWidow x = lives_onward InvalidDeath x
  onward Active x = stays_onward x
  onward ActiveRetirement x = stays_onward x
  onward ActiveInvalidity x = stays_onward x
  onward ActiveInvalidityRetirement x = stays_onward x
  onward ActiveDeathWidow x = stays_onward x
  onward ActiveRetiredWidow x = stays_onward x
  onward ActiveOrRetiredWidow x = stays_onward x
  onward ActiveInvalidWidow x = stays_onward x
  onward ActiveWidow x = stays_onward x

  year : (b : Benefit) (x k : ℕ) → Year (survival_number f interest t b (x + k)) (share_number f interest t b (x + k)) (discount interest) (survives f b (x + k)) (share f interest t backward b (x + k)) 5600000
  year b x k = record { lives = (onward b (x + k)).stands; small = (onward b (x + k)).small; below = (onward b (x + k)).below; shares = (share_fact b (x + k)).stands; modest = (share_fact b (x + k)).bound }

-- no path has more than 121 years
pub span_few : (z : ℕ) → z ≤ 80 → (b : Benefit) (x : ℕ) → span z b x ≤ 121
span_few z h Retired x = omega arith
span_few z h Population x = omega arith
span_few z h Invalid x = omega arith
span_few z h Widow x = omega arith
span_few z h RetiredWidow x = omega arith
span_few z h PopulationWidow x = omega arith
span_few z h InvalidWidow x = omega arith
span_few z h Active x = omega arith
span_few z h ActiveRetirement x = omega arith
span_few z h ActiveInvalidity x = omega arith
span_few z h ActiveInvalidityRetirement x = omega arith
span_few z h ActiveDeathWidow x = omega arith
span_few z h ActiveRetiredWidow x = omega arith
span_few z h ActiveOrRetiredWidow x = omega arith
span_few z h ActiveInvalidWidow x = omega arith
span_few z h ActiveWidow x = omega arith

pub listed_some : (t : ℕ) → listed t ≡ true → 0 < t
listed_some t h = grind (arith, nat_tests)

pub listed_few : (t : ℕ) → listed t ≡ true → t ≤ 12
listed_few t h = grind (arith, nat_tests)

-- a year's part of the sum and of its slack, where the amount is at most a million
slack_few : (amount : ℕ → ℕ) → ((k : ℕ) → amount k ≤ 1000000) → (n k : ℕ) → slack (λ j. weight (amount j)) n k ≤ 12212 * n
unfolding slack
slack_few amount h zero k = omega arith
slack_few amount h (suc n) k =
    let one-year : weight (amount k) * 8388608 / scale ≤ 12208 = div-le_of_le-mul scale (omega (arith, h k)) in
    omega (arith, slack_few amount h n (suc k))

cents_gap : (low sl : ℕ) → sl ≤ 12212 * 121 → upper_cents (low + sl) ≤ lower_cents low + 3
cents_gap low sl h = omega arith

pub pairs_enclose : PairsEnclose
unfolding low_units high_units backward
pairs_enclose f lawful interest t usual b x amounts =
    let some = listed_some t usual in
    let few = listed_few t usual in
    let n = span f.final_age b x in
    let short : n ≤ 121 = span_few f.final_age lawful.aged.1 b x in
    let s : ℕ → ℕ = λ k. survival_number f interest t b (x + k) in
    let l : ℕ → ℕ = λ k. share_number f interest t b (x + k) in
    let p : ℕ → Fraction = λ k. survives f b (x + k) in
    let L : ℕ → Fraction = λ k. share f interest t backward b (x + k) in
    let R : ℕ → ℕ = λ k. get_or amounts k 0 in
    let y = remaining (discount interest) p L R n 0 in
    let proper : Proper y = value_proper f lawful interest t some backward backward_proper b x amounts in
    let same = same_value f interest t b x amounts in
    let years = year f lawful interest t some few b x in
    record {
      proper = exact_proper f lawful interest t some b x amounts;
      low = cents_low (exact_value f interest t b x amounts) y (running s l (λ k. weight (R k)) n 0) proper same (running_low s l (discount interest) p L R 104857600 5600000 years n 0);
      high = cents_high (exact_value f interest t b x amounts) y (running s l (λ k. weight (R k)) n 0 + slack (λ k. weight (R k)) n 0) proper same
          (running_encloses s l (discount interest) p L R 104857600 5600000 years n 0 (omega arith));
      gap = λ modest. cents_gap (running s l (λ k. weight (R k)) n 0) (slack (λ k. weight (R k)) n 0) (omega (arith, slack_few R modest n 0));
    }

weighed_few : (amount : ℕ → ℕ) → ((k : ℕ) → amount k ≤ 1000000) → (n k : ℕ) → weighed (λ j. weight (amount j)) n k ≤ 104857600000000 * n
unfolding weighed
weighed_few amount h zero k = omega arith
weighed_few amount h (suc n) k = omega (arith, h k, weighed_few amount h n (suc k))

-- how far the sum of a promise and its slack go
record Units (f : Figures) (interest t : ℕ) (b : Benefit) (x : ℕ) (amounts : List ℕ) : Type 0 where
  sum : low_units f interest t b x amounts ≤ 26214400000000000 * 121
  slack : high_units f interest t b x amounts ≤ low_units f interest t b x amounts + 12212 * 121
  more : low_units f interest t b x amounts ≤ high_units f interest t b x amounts

module _ (f : Figures) (lawful : Lawful f) (interest t : ℕ) (usual : listed t ≡ true) (b : Benefit) (x : ℕ) (amounts : List ℕ) (modest : (k : ℕ) → get_or amounts k 0 ≤ 1000000) where
  units : Units f interest t b x amounts
  unfolding low_units high_units
  units =
      let some = listed_some t usual in
      let few = listed_few t usual in
      let n = span f.final_age b x in
      let short : n ≤ 121 = span_few f.final_age lawful.aged.1 b x in
      let s : ℕ → ℕ = λ k. survival_number f interest t b (x + k) in
      let l : ℕ → ℕ = λ k. share_number f interest t b (x + k) in
      let R : ℕ → ℕ = λ k. get_or amounts k 0 in
      let years = year f lawful interest t some few b x in
      let bound = running_bound s l (λ k. weight (R k)) (λ k. (years k).below) (λ k. (years k).modest) n 0 in
      record {
        sum = omega (arith, bound, weighed_few R modest n 0);
        slack = omega (arith, slack_few R modest n 0);
        more = omega arith;
      }

  -- the sum and its slack have room in 62 bits
  pub units_small : high_units f interest t b x amounts ≤ 4000000000000000000
  units_small = omega (arith, units.sum, units.slack)

  cents_ordered : (low high : ℕ) → low ≤ high → lower_cents low ≤ upper_cents high
  cents_ordered low high h = omega arith

  cents_small : (high : ℕ) → high ≤ 4000000000000000000 → upper_cents high < 1125899906842624
  cents_small high h = omega arith

  -- and so does any pair that is the stated one
  pub valued : (pair : Pair) → pair.lower ≡ lower f interest t b x amounts → pair.upper ≡ upper f interest t b x amounts → Valued f interest t b x amounts pair
  valued pair el eu =
      let ordered : pair.lower ≤ pair.upper = omega (arith, el, eu, cents_ordered (low_units f interest t b x amounts) (high_units f interest t b x amounts) units.more) in
      let gap : pair.upper ≤ pair.lower + 3 = omega (arith, el, eu, (pairs_enclose f lawful interest t usual b x amounts).gap modest) in
      record {
        lower_is = el;
        upper_is = eu;
        proper = (pairs_enclose f lawful interest t usual b x amounts).proper;
        low = subst (λ n. whole n ≼ exact_cents f interest t b x amounts) (sym el) (pairs_enclose f lawful interest t usual b x amounts).low;
        high = subst (λ n. exact_cents f interest t b x amounts ≼ whole n) (sym eu) (pairs_enclose f lawful interest t usual b x amounts).high;
        ordered = ordered;
        gap = gap;
        promised = omega arith;
        small = omega (arith, eu, cents_small (high_units f interest t b x amounts) units_small);
      }

-- The same of a sum that was computed under numbers that are known to be the terms'.
module _ (f : Figures) (lawful : Lawful f) (interest t : ℕ) (usual : listed t ≡ true) (b : Benefit) (x : ℕ) (amounts : List ℕ) (modest : (k : ℕ) → get_or amounts k 0 ≤ 1000000) (i n low short : ℕ) (ei : i ≡ interest) (en : n ≡ t) where
  abbrev under : (Figures → ℕ → ℕ → Benefit → ℕ → List ℕ → ℕ) → Type 0
  under units = units f i n b x amounts ≡ units f interest t b x amounts

  high_under : under high_units
  high_under = ap (λ j. high_units f j n b x amounts) ei ∙ ap (λ m. high_units f interest m b x amounts) en

  pub sum_small : low + short ≡ high_units f i n b x amounts → low + short ≤ 4000000000000000000
  sum_small eh = omega (arith, eh ∙ high_under, units_small f lawful interest t usual b x amounts modest)

  pub valued_sum : low ≡ low_units f i n b x amounts → low + short ≡ high_units f i n b x amounts → Valued f interest t b x amounts (record { lower = low / 1048576; upper = (low + short + 1048575) / 1048576 })
  valued_sum el eh =
      valued f lawful interest t usual b x amounts modest _
      (ap lower_cents (el ∙ ap (λ j. low_units f j n b x amounts) ei ∙ ap (λ m. low_units f interest m b x amounts) en))
      (ap upper_cents (eh ∙ high_under))

-- The sums that the code computes are those of the stated pair.
-- what is added to nothing
picked : (b : Bool) (a r w : ℕ) → (pick b a 0 + pick b 0 r) + pick b w 0 ≡ pick b (a + w) r
picked true a r w = omega arith
picked false a r w = omega arith

picked_two : (b : Bool) (a r : ℕ) → pick b a 0 + pick b 0 r ≡ pick b a r
picked_two true a r = omega arith
picked_two false a r = omega arith

-- benefits of an active
abbrev pub IsActive : Benefit → Type 0
IsActive Retired = ⊥
IsActive Population = ⊥
IsActive Invalid = ⊥
IsActive Widow = ⊥
IsActive RetiredWidow = ⊥
IsActive PopulationWidow = ⊥
IsActive InvalidWidow = ⊥
IsActive Active = Unit {0}
IsActive ActiveRetirement = Unit {0}
IsActive ActiveInvalidity = Unit {0}
IsActive ActiveInvalidityRetirement = Unit {0}
IsActive ActiveDeathWidow = Unit {0}
IsActive ActiveRetiredWidow = Unit {0}
IsActive ActiveOrRetiredWidow = Unit {0}
IsActive ActiveInvalidWidow = Unit {0}
IsActive ActiveWidow = Unit {0}

pub active_share_is : (f : Figures) (interest t : ℕ) (b : Benefit) → IsActive b → (x : ℕ) → active_share f interest t b x ≡ share_number f interest t b x
active_share_is f interest t Retired h x = absurd h
active_share_is f interest t Population h x = absurd h
active_share_is f interest t Invalid h x = absurd h
active_share_is f interest t Widow h x = absurd h
active_share_is f interest t RetiredWidow h x = absurd h
active_share_is f interest t PopulationWidow h x = absurd h
active_share_is f interest t InvalidWidow h x = absurd h
active_share_is f interest t Active h x = refl
active_share_is f interest t ActiveRetirement h x = refl
active_share_is f interest t ActiveInvalidity h x = refl
active_share_is f interest t ActiveInvalidityRetirement h x = sym (picked_two (ltb x f.final_age) _ _)
active_share_is f interest t ActiveDeathWidow h x = refl
active_share_is f interest t ActiveRetiredWidow h x = refl
active_share_is f interest t ActiveOrRetiredWidow h x = sym (picked_two (ltb x f.final_age) _ _)
active_share_is f interest t ActiveInvalidWidow h x = refl
active_share_is f interest t ActiveWidow h x = sym (picked (ltb x f.final_age) _ _ _)

-- A benefit's survival and share are those of its stream, or of an active where it has none.
module _ (f : Figures) (interest t : ℕ) where
  abbrev At : Option Stream → Benefit → ℕ → Type 0
  At None b x = (stays_on f interest t x ≡ survival_number f interest t b x) × (active_share f interest t b x ≡ share_number f interest t b x)
  At (Some s) b x = (goes_on f interest t s.population x ≡ survival_number f interest t b x) × (level_share f interest t s.population s.level x ≡ share_number f interest t b x)

  at : (b : Benefit) (x : ℕ) → At (stream_of b) b x
  at Retired x = (refl, refl)
  at Population x = (refl, refl)
  at Invalid x = (refl, refl)
  at Widow x = (refl, refl)
  at RetiredWidow x = (refl, refl)
  at PopulationWidow x = (refl, refl)
  at InvalidWidow x = (refl, refl)
  at Active x = (refl, active_share_is f interest t Active tt x)
  at ActiveRetirement x = (refl, active_share_is f interest t ActiveRetirement tt x)
  at ActiveInvalidity x = (refl, active_share_is f interest t ActiveInvalidity tt x)
  at ActiveInvalidityRetirement x = (refl, active_share_is f interest t ActiveInvalidityRetirement tt x)
  at ActiveDeathWidow x = (refl, active_share_is f interest t ActiveDeathWidow tt x)
  at ActiveRetiredWidow x = (refl, active_share_is f interest t ActiveRetiredWidow tt x)
  at ActiveOrRetiredWidow x = (refl, active_share_is f interest t ActiveOrRetiredWidow tt x)
  at ActiveInvalidWidow x = (refl, active_share_is f interest t ActiveInvalidWidow tt x)
  at ActiveWidow x = (refl, active_share_is f interest t ActiveWidow tt x)

  at_stream : (b : Benefit) (o : Option Stream) → stream_of b ≡ o → (x : ℕ) → At o b x
  at_stream b o same x = subst (λ p. At p b x) same (at b x)

-- sums along equal paths are equal
same_running : (s s' l l' w : ℕ → ℕ) → ((k : ℕ) → (s k ≡ s' k) × (l k ≡ l' k)) → (n k : ℕ) → running s l w n k ≡ running s' l' w n k
unfolding running
same_running s s' l l' w h zero k = refl
same_running s s' l l' w h (suc n) k =
    ap (λ v. product (w k) v + product (s k) (running s l w n (suc k))) (h k).1
    ∙ ap (λ v. product (w k) (l' k) + product v (running s l w n (suc k))) (h k).0
    ∙ ap (λ v. product (w k) (l' k) + product (s' k) v) (same_running s s' l l' w h n (suc k))

module _ (f : Figures) (interest t x : ℕ) (amounts : List ℕ) (low short : ℕ) where
  abbrev pub Summed : Benefit → Type 0
  Summed b = (low ≡ low_units f interest t b x amounts) × (low + short ≡ high_units f interest t b x amounts)

  abbrev W : ℕ → ℕ
  W k = weight (get_or amounts k 0)

  -- a sum along the survival and the share of the benefit
  summed : (b : Benefit) (s l : ℕ → ℕ) → ((k : ℕ) → (s k ≡ survival_number f interest t b (x + k)) × (l k ≡ share_number f interest t b (x + k))) → length amounts ≡ span f.final_age b x → low ≡ running s l W (length amounts) 0 → short ≡ slack W (length amounts) 0 → Summed b
  unfolding low_units high_units
  summed b s l same years el es =
      let low-is = el ∙ same_running _ _ _ _ W same (length amounts) 0 ∙ ap (λ n. running (λ k. survival_number f interest t b (x + k)) (λ k. share_number f interest t b (x + k)) W n 0) years in
      (low-is, ap (λ n. n + short) low-is ∙ ap (λ n. low_units f interest t b x amounts + n) (es ∙ ap (λ n. slack W n 0) years))

  pub summed_life : (b : Benefit) (s : Stream) → stream_of b ≡ Some s → length amounts ≡ span f.final_age b x → low ≡ running (λ k. goes_on f interest t s.population (x + k)) (λ k. level_share f interest t s.population s.level (x + k)) W (length amounts) 0 → short ≡ slack W (length amounts) 0 → Summed b
  summed_life b s same years el es = summed b _ _ (λ k. at_stream f interest t b (Some s) same (x + k)) years el es

  pub summed_active : (b : Benefit) → stream_of b ≡ None → length amounts ≡ span f.final_age b x → low ≡ running (λ k. stays_on f interest t (x + k)) (λ k. active_share f interest t b (x + k)) W (length amounts) 0 → short ≡ slack W (length amounts) 0 → Summed b
  summed_active b none years el es = summed b _ _ (λ k. at_stream f interest t b None none (x + k)) years el es

-- what a benefit's streams read is there where the widows' annuities are
module _ (f : Figures) (interest t : ℕ) (widows : List ℕ) where
  abbrev ReadsOf : Option Stream → Type 0
  ReadsOf None = Unit {0}
  ReadsOf (Some s) = Reads f interest t s.level widows

  reads_of : (b : Benefit) → WidowsFor f interest t b widows → ReadsOf (stream_of b)
  reads_of Retired h = tt
  reads_of Population h = tt
  reads_of Invalid h = tt
  reads_of Widow h = tt
  reads_of RetiredWidow h = h refl
  reads_of PopulationWidow h = h refl
  reads_of InvalidWidow h = h refl
  reads_of Active h = tt
  reads_of ActiveRetirement h = tt
  reads_of ActiveInvalidity h = tt
  reads_of ActiveInvalidityRetirement h = tt
  reads_of ActiveDeathWidow h = tt
  reads_of ActiveRetiredWidow h = tt
  reads_of ActiveOrRetiredWidow h = tt
  reads_of ActiveInvalidWidow h = tt
  reads_of ActiveWidow h = tt

  pub reads_stream : (b : Benefit) (s : Stream) → stream_of b ≡ Some s → WidowsFor f interest t b widows → Reads f interest t s.level widows
  reads_stream b s same h = subst ReadsOf same (reads_of b h)

-- What an active's path reads is modest.
pub active_at : (f : Figures) (interest t : ℕ) (b : Benefit) (x : ℕ) → f.final_age ≤ x → active_share f interest t b x ≡ final_number f interest t b
active_at f interest t b x h = ap (λ v. pick v (below_number f interest t b x) (final_number f interest t b)) (le-ltb x f.final_age h)

pub active_below : (f : Figures) (interest t : ℕ) (b : Benefit) (x : ℕ) → x < f.final_age → active_share f interest t b x ≡ below_number f interest t b x
active_below f interest t b x h = ap (λ v. pick v (below_number f interest t b x) (final_number f interest t b)) (lt-ltb x f.final_age h)

module _ (f : Figures) (lawful : Lawful f) (interest t : ℕ) (some : 0 < t) (few : t ≤ 12) where
  pub final_bound : (b : Benefit) → final_number f interest t b ≤ 250 * scale
  final_bound Retired = omega arith
  final_bound Population = omega arith
  final_bound Invalid = omega arith
  final_bound Widow = omega arith
  final_bound RetiredWidow = omega arith
  final_bound PopulationWidow = omega arith
  final_bound InvalidWidow = omega arith
  final_bound Active = omega arith
  final_bound ActiveRetirement = omega (arith, pensions_bound f lawful interest t some few PopulationDeath f.final_age)
  final_bound ActiveInvalidity = omega arith
  final_bound ActiveInvalidityRetirement = omega (arith, pensions_bound f lawful interest t some few PopulationDeath f.final_age)
  final_bound ActiveDeathWidow = omega arith
  final_bound ActiveRetiredWidow = omega (arith, widows_bound f lawful interest t some few PopulationDeath f.final_age)
  final_bound ActiveOrRetiredWidow = omega (arith, widows_bound f lawful interest t some few PopulationDeath f.final_age)
  final_bound ActiveInvalidWidow = omega arith
  final_bound ActiveWidow = omega (arith, widows_bound f lawful interest t some few PopulationDeath f.final_age)

  pub below_bound : (b : Benefit) (x : ℕ) → below_number f interest t b x ≤ 250 * scale
  below_bound Retired x = omega arith
  below_bound Population x = omega arith
  below_bound Invalid x = omega arith
  below_bound Widow x = omega arith
  below_bound RetiredWidow x = omega arith
  below_bound PopulationWidow x = omega arith
  below_bound InvalidWidow x = omega arith
  below_bound Active x = omega (arith, active_bound f lawful interest t some few x)
  below_bound ActiveRetirement x = omega arith
  below_bound ActiveInvalidity x = omega (arith, turning_bound f lawful interest t some few x)
  below_bound ActiveInvalidityRetirement x = omega (arith, turning_bound f lawful interest t some few x)
  below_bound ActiveDeathWidow x = omega (arith, widowed_bound f lawful interest t some few ActiveDeath x)
  below_bound ActiveRetiredWidow x = omega arith
  below_bound ActiveOrRetiredWidow x = omega (arith, widowed_bound f lawful interest t some few ActiveDeath x)
  below_bound ActiveInvalidWidow x = omega (arith, turning_widow_bound f lawful interest t some few x)
  below_bound ActiveWidow x = omega (arith, widowed_bound f lawful interest t some few ActiveDeath x, turning_widow_bound f lawful interest t some few x)
