-- What the numbers of the model stand for, up to the yearly shares. Assumes nothing.
use Rattle.std.proofs.Common.{◌≡◌, ℕ, ◌+◌, ◌-◌, ◌*◌, ◌<◌, ◌≤◌, sym, ap, ◌∙◌, mul-le-mul_right, mul_assoc, mul-le-mul, arith}
use Rattle.basis.specs.declared.kind.Kind.{Kind}
use Rattle.basis.specs.declared.kind.Kind.TheVariants.{Invalidity, ActiveDeath, InvalidDeath, WidowDeath, Married, SpouseAge}
use Rattle.basis.specs.Figures.{Figures, Lawful}
use Rattle.basis.specs.Layered.{million}
use Rattle.valuation.specs.Fraction.{Fraction, one, ◌⊕◌, ◌⊖◌, ◌⊗◌, ◌≈◌}
use Rattle.valuation.specs.Terms.{discount}
use Rattle.valuation.specs.Exact.{half, paid, chance, lives, stays, level, annuity, wid, left, pension, widowed, turning_invalid, turning_invalid_widow}
use Rattle.valuation.specs.Fixed.{scale, fixed, product, Stands}
use Rattle.valuation.specs.Rates.{discount_number, loss_number, kept_number, chance_number, lives_number, paid_number}
use Rattle.valuation.specs.Pair.{running, half_number, sooner_number, goes_on, stays_on, to_next_year, level_number, annuity_number, wid_number, left_number, pension_number, widowed_number, turning_invalid_number, turning_invalid_widow_number}
use Rattle.valuation.specs.declared.stream.Level.{Level}
use Rattle.valuation.specs.declared.stream.Level.TheVariants.{Annuities, Pensions, Widows}
use Rattle.valuation.specs.Columns.{level_of, level_share}
use Rattle.valuation.proofs.Fractions.{proper_mul}
use Rattle.valuation.proofs.Enclosures.{stands_fixed, stands_sum, stands_same, stands_wider, stands_product}
use Rattle.valuation.proofs.Rating.{stands_paid, stands_discounted}
use Rattle.valuation.proofs.Backward.{backward}
use Rattle.valuation.proofs.Levels.{shrinks, shares_year, stands_small, stands_running, running_ones, running_exits}
use Rattle.valuation.proofs.Propers.{discount_proper, paid_proper, backward_proper, lives_proper, stays_proper, next_proper, annuity_proper}
use Rattle.valuation.proofs.Years.{stands_opposite, stands_opposites, half_stands, half_proper, half_small, sooner_stands, half_sooner, chance_lives}

discount_small : (interest : ℕ) → (discount interest).num ≤ (discount interest).den
discount_small interest = omega arith

discount_stands : (interest : ℕ) → Stands (discount_number interest) (discount interest) 1
discount_stands interest = stands_fixed 10000 (10000 + interest) (omega arith)

pub discount_below : (interest : ℕ) → discount_number interest ≤ scale
discount_below interest = stands_small (discount_number interest) (discount interest) 1 (discount_proper interest) (discount_small interest) (discount_stands interest)

module _ (f : Figures) (lawful : Lawful f) (interest t : ℕ) (some : 0 < t) (few : t ≤ 12) where
  -- chances
  limited : (k : Kind) (x : ℕ) → f.figure k x ≤ 1000000
  limited k x = million f lawful k x

  chance_stands : (k : Kind) (x : ℕ) → Stands (chance_number (f.figure k x)) (chance f k x) 1
  chance_stands k x = stands_fixed (f.figure k x) 1000000 (omega arith)

  chance_below : (k : Kind) (x : ℕ) → chance_number (f.figure k x) ≤ scale
  chance_below k x = stands_small (chance_number (f.figure k x)) (chance f k x) 1 (omega arith) (limited k x) (chance_stands k x)

  -- survivals
  lives_small : (b : Kind) (x : ℕ) → (lives f b x).num ≤ (lives f b x).den
  lives_small b x = omega arith

  pub goes_stands : (b : Kind) (x : ℕ) → Stands (goes_on f interest t b x) (discount interest ⊗ lives f b x) 3
  goes_stands b x =
      let s = stands_opposite (f.figure b x) in
      stands_discounted interest (lives f b x) (lives_number (f.figure b x)) (lives_small b x) (stands_small (lives_number (f.figure b x)) (lives f b x) 1 (lives_proper f b x) (lives_small b x) s) s

  pub goes_small : (b : Kind) (x : ℕ) → (discount interest ⊗ lives f b x).num ≤ (discount interest ⊗ lives f b x).den
  goes_small b x = mul-le-mul (discount_small interest) (lives_small b x)

  pub goes_below : (b : Kind) (x : ℕ) → goes_on f interest t b x ≤ scale
  goes_below b x = stands_small (goes_on f interest t b x) (discount interest ⊗ lives f b x) 3 (proper_mul (discount interest) (lives f b x) (discount_proper interest) (lives_proper f b x)) (goes_small b x) (goes_stands b x)

  -- v·half
  next_stands : (b : Kind) (x : ℕ) → Stands (to_next_year f interest t b x) (discount interest ⊗ half (chance f b x)) 3
  next_stands b x =
      let s = half_stands (f.figure b x) (limited b x) in
      stands_discounted interest (half (chance f b x)) (half_number (f.figure b x)) (half_small (f.figure b x) (limited b x))
      (stands_small (half_number (f.figure b x)) (half (chance f b x)) 1 (half_proper (f.figure b x) (limited b x)) (half_small (f.figure b x) (limited b x)) s) s

  next_small : (b : Kind) (x : ℕ) → (discount interest ⊗ half (chance f b x)).num ≤ (discount interest ⊗ half (chance f b x)).den
  next_small b x = mul-le-mul (discount_small interest) (half_small (f.figure b x) (limited b x))

  next_below : (b : Kind) (x : ℕ) → to_next_year f interest t b x ≤ scale
  next_below b x = stands_small (to_next_year f interest t b x) (discount interest ⊗ half (chance f b x)) 3 (next_proper f lawful interest b x) (next_small b x) (next_stands b x)

  -- values of amount 1 a year
  level_stands : (b : Kind) (l : ℕ → ℕ) (L : ℕ → Fraction) (e : ℕ) → ((y : ℕ) → Stands (l y) (L y) e)
      → ((x n k : ℕ) → n ≤ 121 → running (λ j. goes_on f interest t b (x + j)) (λ j. l (x + j)) (λ _. scale) n k ≤ 121 * scale)
      → (x : ℕ) → Stands (level_number f interest t b l x) (level f interest t backward b L x) (121 * (e + 364))
  unfolding level level_number backward
  level_stands b l L e hl bound x =
      stands_wider _ _ ((121 - x) * (e + 364)) (121 * (e + 364)) (mul-le-mul_right (e + 364) (omega arith))
      (stands_running (λ j. goes_on f interest t b (x + j)) (λ j. l (x + j)) (discount interest) (λ j. lives f b (x + j)) (λ j. L (x + j)) e
      (λ j. goes_stands b (x + j)) (λ j. goes_small b (x + j)) (λ j. hl (x + j)) (bound x) (121 - x) 0 (omega arith))

  -- with shares of at most 1
  ones_bound : (b : Kind) (l : ℕ → ℕ) → ((y : ℕ) → l y ≤ scale) → (x n k : ℕ) → n ≤ 121 → running (λ j. goes_on f interest t b (x + j)) (λ j. l (x + j)) (λ _. scale) n k ≤ 121 * scale
  ones_bound b l h x n k m = omega (arith, running_ones (λ j. goes_on f interest t b (x + j)) (λ j. l (x + j)) (λ j. goes_below b (x + j)) (λ j. h (x + j)) n k, mul-le-mul_right scale m)

  annuity_stands : (b : Kind) (x : ℕ) → Stands (annuity_number f interest t b x) (annuity f interest t backward b x) 44044
  annuity_stands b x = level_stands b (λ y. scale) (λ y. one) 0 (λ y. record { low = omega arith; high = omega arith }) (ones_bound b (λ y. scale) (λ y. omega arith)) x

  pub annuity_bound : (b : Kind) (x : ℕ) → annuity_number f interest t b x ≤ 121 * scale
  unfolding level_number
  annuity_bound b x = ones_bound b (λ y. scale) (λ y. omega arith) x (121 - x) 0 (omega arith)

  -- widows
  wid_stands : (y : ℕ) → Stands (wid_number f interest t y) (wid f interest t backward y) 44408
  unfolding wid wid_number
  wid_stands y = stands_product (to_next_year f interest t WidowDeath y) (annuity_number f interest t WidowDeath (y + 1)) (discount interest ⊗ half (chance f WidowDeath y)) (annuity f interest t backward WidowDeath (y + 1)) 3 44044 121
      (next_small WidowDeath y) (annuity_bound WidowDeath (y + 1)) (next_stands WidowDeath y) (annuity_stands WidowDeath (y + 1))

  wid_bound : (y : ℕ) → wid_number f interest t y ≤ 121 * scale
  unfolding wid_number
  wid_bound y = omega (arith, shrinks (to_next_year f interest t WidowDeath y) (annuity_number f interest t WidowDeath (y + 1)) (next_below WidowDeath y), annuity_bound WidowDeath (y + 1))

  left_stands : (x : ℕ) → Stands (left_number f interest t x) (left f interest t backward x) 44530
  unfolding left_number
  left_stands x = stands_product (chance_number (f.figure Married x)) (wid_number f interest t (f.figure SpouseAge x)) (chance f Married x) (wid f interest t backward (f.figure SpouseAge x)) 1 44408 121
      (limited Married x) (wid_bound (f.figure SpouseAge x)) (chance_stands Married x) (wid_stands (f.figure SpouseAge x))

  pub left_bound : (x : ℕ) → left_number f interest t x ≤ 121 * scale
  unfolding left_number
  left_bound x = omega (arith, shrinks (chance_number (f.figure Married x)) (wid_number f interest t (f.figure SpouseAge x)) (chance_below Married x), wid_bound (f.figure SpouseAge x))

  pub widowed_stands : (b : Kind) (x : ℕ) → Stands (widowed_number f interest t b x) (widowed f interest t backward b x) 44652
  unfolding widowed_number
  widowed_stands b x = stands_product (chance_number (f.figure b x)) (left_number f interest t x) (chance f b x) (left f interest t backward x) 1 44530 121 (limited b x) (left_bound x) (chance_stands b x) (left_stands x)

  pub widowed_bound : (b : Kind) (x : ℕ) → widowed_number f interest t b x ≤ 121 * scale
  unfolding widowed_number
  widowed_bound b x = omega (arith, shrinks (chance_number (f.figure b x)) (left_number f interest t x) (chance_below b x), left_bound x)

  -- the widows' pensions that a population leaves, of amount 1 a year
  exits_bound : (b : Kind) (x n k : ℕ) → n ≤ 121 → running (λ j. goes_on f interest t b (x + j)) (λ j. widowed_number f interest t b (x + j)) (λ _. scale) n k ≤ 121 * scale
  unfolding widowed_number
  exits_bound b x n k m = running_exits (λ j. goes_on f interest t b (x + j)) (λ j. chance_number (f.figure b (x + j))) (λ j. left_number f interest t (x + j))
      (λ j. chance_lives (discount_number interest) (f.figure b (x + j)) (discount_below interest) (limited b (x + j))) (λ j. left_bound (x + j)) n k

  pub widows_stands : (b : Kind) (x : ℕ) → Stands (level_number f interest t b (widowed_number f interest t b) x) (level f interest t backward b (widowed f interest t backward b) x) 5446936
  widows_stands b x = level_stands b (widowed_number f interest t b) (widowed f interest t backward b) 44652 (widowed_stands b) (exits_bound b) x

  pub widows_bound : (b : Kind) (x : ℕ) → level_number f interest t b (widowed_number f interest t b) x ≤ 121 * scale
  unfolding level_number
  widows_bound b x = exits_bound b x (121 - x) 0 (omega arith)

  -- pensions
  pub pension_stands : (b : Kind) (x : ℕ) → Stands (pension_number f interest t b x) (pension f interest t backward b x) 32
  unfolding pension_number
  pension_stands b x = stands_paid interest t (lives f b x) (goes_on f interest t b x) some few (lives_proper f b x) (lives_small b x) (goes_below b x) (goes_stands b x)

  pub pension_bound : (b : Kind) (x : ℕ) → pension_number f interest t b x ≤ scale
  pension_bound b x = stands_small (pension_number f interest t b x) (pension f interest t backward b x) 32 (paid_proper interest t some (lives f b x) (lives_proper f b x)) (omega arith) (pension_stands b x)

  pub pensions_stands : (b : Kind) (x : ℕ) → Stands (level_number f interest t b (pension_number f interest t b) x) (level f interest t backward b (pension f interest t backward b) x) 47916
  pensions_stands b x = level_stands b (pension_number f interest t b) (pension f interest t backward b) 32 (pension_stands b) (ones_bound b (pension_number f interest t b) (pension_bound b)) x

  pub pensions_bound : (b : Kind) (x : ℕ) → level_number f interest t b (pension_number f interest t b) x ≤ 121 * scale
  unfolding level_number
  pensions_bound b x = ones_bound b (pension_number f interest t b) (pension_bound b) x (121 - x) 0 (omega arith)

  -- actives
  stays_small : (x : ℕ) → (stays f x).num ≤ (stays f x).den
  stays_small x = omega arith

  pub stays_stands : (x : ℕ) → Stands (stays_on f interest t x) (discount interest ⊗ stays f x) 3
  stays_stands x =
      let n = fixed (1000000 - f.figure Invalidity x - f.figure ActiveDeath x) 1000000 in
      let s = stands_opposites (f.figure Invalidity x) (f.figure ActiveDeath x) in
      stands_discounted interest (stays f x) n (stays_small x) (stands_small n (stays f x) 1 (stays_proper f x) (stays_small x) s) s

  pub going_small : (x : ℕ) → (discount interest ⊗ stays f x).num ≤ (discount interest ⊗ stays f x).den
  going_small x = mul-le-mul (discount_small interest) (stays_small x)

  pub stays_below : (x : ℕ) → stays_on f interest t x ≤ scale
  stays_below x = stands_small (stays_on f interest t x) (discount interest ⊗ stays f x) 3 (proper_mul (discount interest) (stays f x) (discount_proper interest) (stays_proper f x)) (going_small x) (stays_stands x)

  pub active_stands : (x : ℕ) → Stands (paid_number (kept_number interest t) (loss_number interest t) (stays_on f interest t x)) (paid interest t (stays f x)) 32
  active_stands x = stands_paid interest t (stays f x) (stays_on f interest t x) some few (stays_proper f x) (stays_small x) (stays_below x) (stays_stands x)

  pub active_bound : (x : ℕ) → paid_number (kept_number interest t) (loss_number interest t) (stays_on f interest t x) ≤ scale
  active_bound x = stands_small _ (paid interest t (stays f x)) 32 (paid_proper interest t some (stays f x) (stays_proper f x)) (omega arith) (active_stands x)

  -- invalidity
  reassociated : (c v h a : Fraction) → c ⊗ ((v ⊗ h) ⊗ a) ≈ ((c ⊗ v) ⊗ h) ⊗ a
  reassociated c v h a =
      let same : (x y z w : ℕ) → x * ((y * z) * w) ≡ ((x * y) * z) * w = λ x y z w. sym (mul_assoc x (y * z) w) ∙ ap (λ n. n * w) (sym (mul_assoc x y z)) in
      ap (λ n. n * (((c.den * v.den) * h.den) * a.den)) (same c.num v.num h.num a.num)
      ∙ ap (λ n. (((c.num * v.num) * h.num) * a.num) * n) (sym (same c.den v.den h.den a.den))

  pub turning_stands : (x : ℕ) → Stands (turning_invalid_number f interest t x) (turning_invalid f interest t backward x) 44530
  unfolding turning_invalid turning_invalid_number
  turning_stands x =
      let A = annuity f interest t backward InvalidDeath (x + 1) in
      let a = annuity_number f interest t InvalidDeath (x + 1) in
      let n = to_next_year f interest t InvalidDeath x in
      let inner = stands_product n a (discount interest ⊗ half (chance f InvalidDeath x)) A 3 44044 121 (next_small InvalidDeath x) (annuity_bound InvalidDeath (x + 1)) (next_stands InvalidDeath x) (annuity_stands InvalidDeath (x + 1)) in
      let bound : product n a ≤ 121 * scale = omega (arith, shrinks n a (next_below InvalidDeath x), annuity_bound InvalidDeath (x + 1)) in
      stands_same (turning_invalid_number f interest t x) (chance f Invalidity x ⊗ ((discount interest ⊗ half (chance f InvalidDeath x)) ⊗ A)) _ 44530
      (proper_mul (chance f Invalidity x) ((discount interest ⊗ half (chance f InvalidDeath x)) ⊗ A) (omega arith) (proper_mul (discount interest ⊗ half (chance f InvalidDeath x)) A (next_proper f lawful interest InvalidDeath x) (annuity_proper f lawful interest t some backward backward_proper InvalidDeath (x + 1))))
      (reassociated (chance f Invalidity x) (discount interest) (half (chance f InvalidDeath x)) A)
      (stands_product (chance_number (f.figure Invalidity x)) (product n a) (chance f Invalidity x) ((discount interest ⊗ half (chance f InvalidDeath x)) ⊗ A) 1 44408 121 (limited Invalidity x) bound (chance_stands Invalidity x) inner)

  pub turning_bound : (x : ℕ) → turning_invalid_number f interest t x ≤ 121 * scale
  unfolding turning_invalid_number
  turning_bound x =
      let a = annuity_number f interest t InvalidDeath (x + 1) in
      let n = to_next_year f interest t InvalidDeath x in
      omega (arith, shrinks (chance_number (f.figure Invalidity x)) (product n a) (chance_below Invalidity x), shrinks n a (next_below InvalidDeath x), annuity_bound InvalidDeath (x + 1))

  pub turning_widow_stands : (x : ℕ) → Stands (turning_invalid_widow_number f interest t x) (turning_invalid_widow f interest t backward x) 5492074
  unfolding turning_invalid_widow turning_invalid_widow_number
  turning_widow_stands x =
      let q = f.figure InvalidDeath x in
      let h = half (chance f InvalidDeath x) in
      let n = to_next_year f interest t InvalidDeath x in
      let W = level f interest t backward InvalidDeath (widowed f interest t backward InvalidDeath) (x + 1) in
      let w = level_number f interest t InvalidDeath (widowed_number f interest t InvalidDeath) (x + 1) in
      let later = stands_product n w (discount interest ⊗ h) W 3 5446936 121 (next_small InvalidDeath x) (widows_bound InvalidDeath (x + 1)) (next_stands InvalidDeath x) (widows_stands InvalidDeath (x + 1)) in
      let same-year = stands_product (sooner_number q) (left_number f interest t x) (one ⊖ h) (left f interest t backward x) 1 44530 121 (sooner_small x) (left_bound x) (sooner_stands q (limited InvalidDeath x)) (left_stands x) in
      stands_product (chance_number (f.figure Invalidity x)) (product n w + product (sooner_number q) (left_number f interest t x)) (chance f Invalidity x) ((discount interest ⊗ h ⊗ W) ⊕ ((one ⊖ h) ⊗ left f interest t backward x)) 1 5491952 121
      (limited Invalidity x) (two_bound x) (chance_stands Invalidity x) (stands_sum (product n w) (product (sooner_number q) (left_number f interest t x)) (discount interest ⊗ h ⊗ W) ((one ⊖ h) ⊗ left f interest t backward x) 5447300 44652 later same-year)
    where
      sooner_small : (x : ℕ) → (one ⊖ half (chance f InvalidDeath x)).num ≤ (one ⊖ half (chance f InvalidDeath x)).den
      sooner_small x = omega arith

      two_bound : (x : ℕ) → product (to_next_year f interest t InvalidDeath x) (level_number f interest t InvalidDeath (widowed_number f interest t InvalidDeath) (x + 1)) + product (sooner_number (f.figure InvalidDeath x)) (left_number f interest t x) ≤ 121 * scale
      two_bound x = shares_year (to_next_year f interest t InvalidDeath x) (sooner_number (f.figure InvalidDeath x)) (level_number f interest t InvalidDeath (widowed_number f interest t InvalidDeath) (x + 1)) (left_number f interest t x) (121 * scale)
          (omega (arith, shrinks (discount_number interest) (half_number (f.figure InvalidDeath x)) (discount_below interest), half_sooner (f.figure InvalidDeath x) (limited InvalidDeath x))) (widows_bound InvalidDeath (x + 1)) (left_bound x)

  pub turning_widow_bound : (x : ℕ) → turning_invalid_widow_number f interest t x ≤ 121 * scale
  unfolding turning_invalid_widow_number
  turning_widow_bound x =
      let q = f.figure InvalidDeath x in
      let n = to_next_year f interest t InvalidDeath x in
      let w = level_number f interest t InvalidDeath (widowed_number f interest t InvalidDeath) (x + 1) in
      let m = product n w + product (sooner_number q) (left_number f interest t x) in
      let both : m ≤ 121 * scale = shares_year n (sooner_number q) w (left_number f interest t x) (121 * scale)
      (omega (arith, shrinks (discount_number interest) (half_number q) (discount_below interest), half_sooner q (limited InvalidDeath x))) (widows_bound InvalidDeath (x + 1)) (left_bound x) in
      omega (arith, shrinks (chance_number (f.figure Invalidity x)) m (chance_below Invalidity x))

  -- no value of amount 1 a year is above 121
  pub levels_bound : (b : Kind) (level : Level) (x : ℕ) → level_of f interest t b level x ≤ 121 * scale
  levels_bound b Annuities x = annuity_bound b x
  levels_bound b Pensions x = pensions_bound b x
  levels_bound b Widows x = widows_bound b x

  pub level_shares_bound : (b : Kind) (level : Level) (x : ℕ) → level_share f interest t b level x ≤ 121 * scale
  level_shares_bound b Annuities x = omega arith
  level_shares_bound b Pensions x = omega (arith, pension_bound b x)
  level_shares_bound b Widows x = widowed_bound b x
