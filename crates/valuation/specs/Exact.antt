-- The exact present values of the sixteen benefits. Assumes nothing.
use Rattle.std.specs.Prelude.{ℕ, ◌+◌, ◌-◌, true, false, List, ◌==◌, nat_lt, slice_index}
use Rattle.basis.specs.declared.kind.Kind.{Kind}
use Rattle.basis.specs.declared.kind.Kind.TheVariants.{Invalidity, ActiveDeath, InvalidDeath, PopulationDeath, WidowDeath, Married, SpouseAge}
use Rattle.basis.specs.Figures.{Figures}
use Rattle.valuation.specs.declared.benefit.Benefit.{Benefit}
use Rattle.valuation.specs.declared.benefit.Benefit.TheVariants.{Retired, Population, Invalid, Widow, RetiredWidow, PopulationWidow, InvalidWidow, Active, ActiveRetirement, ActiveInvalidity, ActiveInvalidityRetirement, ActiveDeathWidow, ActiveRetiredWidow, ActiveOrRetiredWidow, ActiveInvalidWidow, ActiveWidow}
use Rattle.valuation.specs.Fraction.{Fraction, ratio, whole, nought, one, ◌⊕◌, ◌⊖◌, ◌⊗◌, ◌⊘◌}
use Rattle.valuation.specs.Sum.{Path, present_value}
use Rattle.valuation.specs.Terms.{discount, loss}
use Rattle.valuation.specs.Benefits.{span}

-- the chance of surviving from mid-year to the year's end, for one who dies within the year with chance q. Those who die do
-- so evenly over the year, so half of them are gone by mid-year: (1 − q) / (1 − q/2), and 0 where death is certain
abbrev pub half : Fraction → Fraction
half q = elim (q.num == q.den) [ true ↦ nought | false ↦ (one ⊖ q) ⊘ (one ⊖ (q ⊗ ratio 1 2)) ]

-- T, a year's pension of 1 as it is paid in instalments, for one who has the chance p to draw it for another year:
-- 1 − K·(1 − v·p)
abbrev pub paid : ℕ → ℕ → Fraction → Fraction
paid interest instalments p = one ⊖ (loss interest instalments ⊗ (one ⊖ (discount interest ⊗ p)))

-- What the figures f of a basis say of one year.
module _ (f : Figures) where
  -- a figure as a fraction of certainty; a population is named by the list of its deaths
  abbrev pub chance : Kind → ℕ → Fraction
  chance k x = ratio (f.figure k x) 1000000

  -- p, the chance to live for another year
  abbrev pub lives : Kind → ℕ → Fraction
  lives b x = one ⊖ chance b x

  -- the chance of an active to be an active for another year
  abbrev pub stays : ℕ → Fraction
  stays x = one ⊖ chance Invalidity x ⊖ chance ActiveDeath x

  -- who stays on the path of each benefit
  abbrev pub survives : Benefit → ℕ → Fraction
  survives Retired x = lives PopulationDeath x
  survives Population x = lives PopulationDeath x
  survives Invalid x = lives InvalidDeath x
  survives Widow x = lives WidowDeath x
  survives RetiredWidow x = lives PopulationDeath x
  survives PopulationWidow x = lives PopulationDeath x
  survives InvalidWidow x = lives InvalidDeath x
  survives Active x = stays x
  survives ActiveRetirement x = stays x
  survives ActiveInvalidity x = stays x
  survives ActiveInvalidityRetirement x = stays x
  survives ActiveDeathWidow x = stays x
  survives ActiveRetiredWidow x = stays x
  survives ActiveOrRetiredWidow x = stays x
  survives ActiveInvalidWidow x = stays x
  survives ActiveWidow x = stays x

  -- a life path of population b, from age x to the last age, with a share for each age
  abbrev pub life_path : Kind → (ℕ → Fraction) → ℕ → Path
  life_path b L x = record { years = 121 - x; survives = λ k. lives b (x + k); share = λ k. L (x + k) }

  -- a share of an active: one rule below the final age, and a value at it
  abbrev pub until : (ℕ → Fraction) → Fraction → ℕ → Fraction
  until below at x = elim (nat_lt x f.final_age) [ true ↦ below x | false ↦ at ]

-- What they say of the years to come, under an interest and a number of instalments a year. The present value of amounts
-- along a path is `sum`: the contracts read this with the plain sum, as `exact_value` below does, and the proofs also with
-- one that runs backward from the last year.
module _ (f : Figures) (interest instalments : ℕ) (sum : Fraction → Path → (ℕ → ℕ) → Fraction) where
  abbrev v : Fraction
  v = discount interest

  -- the value of amount 1 a year along a life path
  unfoldable pub level : Kind → (ℕ → Fraction) → ℕ → Fraction
  level b L x = sum v (life_path f b L x) (λ k. 1)

  -- A, a pension of 1 paid once a year, the first time at x: nothing is lost by instalments here. 0 past the last age
  abbrev pub annuity : Kind → ℕ → Fraction
  annuity b x = level b (λ y. one) x

  -- wid, a widow's pension of 1 a year, at a death in the year in which she is aged y: she has it if she lives to the
  -- year's end, and from then on yearly
  unfoldable pub wid : ℕ → Fraction
  wid y = v ⊗ half (chance f WidowDeath y) ⊗ annuity WidowDeath (y + 1)

  -- the widow's pension that a death at x leaves: h(x)·wid(y(x))
  abbrev pub left : ℕ → Fraction
  left x = chance f Married x ⊗ wid (f.figure SpouseAge x)

  -- The yearly shares of a life: its pension, and the widow's pension that its death leaves.
  abbrev pub pension : Kind → ℕ → Fraction
  pension b x = paid interest instalments (lives f b x)

  abbrev pub widowed : Kind → ℕ → Fraction
  widowed b x = chance f b x ⊗ left x

  -- What an active has of it. At the final age: the pension of a pensioner, and the widow's pension after a pensioner's death
  unfoldable pub retiring : Fraction
  retiring = level PopulationDeath (pension PopulationDeath) f.final_age

  unfoldable pub retiring_widow : Fraction
  retiring_widow = level PopulationDeath (widowed PopulationDeath) f.final_age

  -- in a year before: invalidity, with a yearly pension from the end of the year on for one who lives to see it
  unfoldable pub turning_invalid : ℕ → Fraction
  turning_invalid x = chance f Invalidity x ⊗ v ⊗ half (chance f InvalidDeath x) ⊗ annuity InvalidDeath (x + 1)

  -- invalidity, and the widow's pension if death comes in a later year, or in the same year, then with marriage at x
  unfoldable pub turning_invalid_widow : ℕ → Fraction
  turning_invalid_widow x = chance f Invalidity x
      ⊗ ((v ⊗ half (chance f InvalidDeath x) ⊗ level InvalidDeath (widowed InvalidDeath) (x + 1)) ⊕ ((one ⊖ half (chance f InvalidDeath x)) ⊗ left x))

  -- the yearly shares of an active, below the final age and at it
  abbrev pub retirement : ℕ → Fraction
  retirement x = until f (λ y. nought) retiring x

  abbrev pub invalidity : ℕ → Fraction
  invalidity x = until f turning_invalid nought x

  abbrev pub active_death : ℕ → Fraction
  active_death x = until f (widowed ActiveDeath) nought x

  abbrev pub retired_death : ℕ → Fraction
  retired_death x = until f (λ y. nought) retiring_widow x

  abbrev pub invalid_death : ℕ → Fraction
  invalid_death x = until f turning_invalid_widow nought x

  -- the share of each benefit at an age
  abbrev pub share : Benefit → ℕ → Fraction
  share Retired x = pension PopulationDeath x
  share Population x = pension PopulationDeath x
  share Invalid x = pension InvalidDeath x
  share Widow x = pension WidowDeath x
  share RetiredWidow x = widowed PopulationDeath x
  share PopulationWidow x = widowed PopulationDeath x
  share InvalidWidow x = widowed InvalidDeath x
  share Active x = until f (λ y. paid interest instalments (stays f y)) nought x
  share ActiveRetirement x = retirement x
  share ActiveInvalidity x = invalidity x
  share ActiveInvalidityRetirement x = invalidity x ⊕ retirement x
  share ActiveDeathWidow x = active_death x
  share ActiveRetiredWidow x = retired_death x
  share ActiveOrRetiredWidow x = active_death x ⊕ retired_death x
  share ActiveInvalidWidow x = invalid_death x
  share ActiveWidow x = (active_death x ⊕ retired_death x) ⊕ invalid_death x

  abbrev pub path : Benefit → ℕ → Path
  path b x = record { years = span f.final_age b x; survives = λ k. survives f b (x + k); share = λ k. share b (x + k) }

  -- the present value of a promise in euros: a benefit, an age and the yearly amounts
  abbrev pub value : Benefit → ℕ → List ℕ → Fraction
  value b x amounts = sum v (path b x) (λ k. slice_index amounts k)

-- the exact present value, in euros and in cents
unfoldable pub exact_value : Figures → ℕ → ℕ → Benefit → ℕ → List ℕ → Fraction
exact_value f interest instalments b x amounts = value f interest instalments present_value b x amounts

abbrev pub exact_cents : Figures → ℕ → ℕ → Benefit → ℕ → List ℕ → Fraction
exact_cents f interest instalments b x amounts = whole 100 ⊗ exact_value f interest instalments b x amounts
