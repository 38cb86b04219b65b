-- The stated pair: what a valuation computes, in fixed-point numbers. Assumes nothing.
use Rattle.std.specs.Prelude.{ℕ, zero, suc, ◌+◌, ◌-◌, ◌*◌, ◌/◌, true, false, List, ◌==◌, nat_lt, slice_index}
use Rattle.basis.specs.declared.kind.Kind.{Kind}
use Rattle.basis.specs.declared.kind.Kind.TheVariants.{Invalidity, ActiveDeath, InvalidDeath, PopulationDeath, WidowDeath, Married, SpouseAge}
use Rattle.basis.specs.Figures.{Figures}
use Rattle.valuation.specs.declared.benefit.Benefit.{Benefit}
use Rattle.valuation.specs.declared.benefit.Benefit.TheVariants.{Retired, Population, Invalid, Widow, RetiredWidow, PopulationWidow, InvalidWidow, Active, ActiveRetirement, ActiveInvalidity, ActiveInvalidityRetirement, ActiveDeathWidow, ActiveRetiredWidow, ActiveOrRetiredWidow, ActiveInvalidWidow, ActiveWidow}
use Rattle.valuation.specs.Benefits.{span}
use Rattle.valuation.specs.Fixed.{scale, fixed, product}
use Rattle.valuation.specs.Rates.{discount_number, loss_number, kept_number, chance_number, lives_number, paid_number}

-- a promise is summed in units of 2^-20 cents
abbrev pub unit : ℕ
unit = 1048576

-- the weight of an amount of euros in that unit
abbrev pub weight : ℕ → ℕ
weight amount = amount * 104857600

-- what is left from year k on, n years: a weight times a share, and the discounted survival times what is left then
unfoldable pub running : (ℕ → ℕ) → (ℕ → ℕ) → (ℕ → ℕ) → ℕ → ℕ → ℕ
running survival share weights zero k = 0
running survival share weights (suc n) k = product (weights k) (share k) + product (survival k) (running survival share weights n (suc k))

-- by how much it may fall short: 2^23 of 2^56 parts of each weight, and 4 a year
unfoldable pub slack : (ℕ → ℕ) → ℕ → ℕ → ℕ
slack weights zero k = 0
slack weights (suc n) k = slack weights n (suc k) + weights k * 8388608 / scale + 4

-- of those who are alive at mid-year, the part that is alive at the year's end: (1 − q)/(1 − q/2), 0 where death is certain;
-- and 1 less that part
abbrev pub half_number : ℕ → ℕ
half_number q = elim (q == 1000000) [ true ↦ 0 | false ↦ fixed (2 * (1000000 - q)) (2000000 - q) ]

abbrev pub sooner_number : ℕ → ℕ
sooner_number q = fixed q (2000000 - q)

-- The model of the exact values, in numbers.
module _ (f : Figures) (interest instalments : ℕ) where
  -- the discounted chance to be on the path a year on: v·p
  abbrev pub goes_on : Kind → ℕ → ℕ
  goes_on b x = product (discount_number interest) (lives_number (f.figure b x))

  abbrev pub stays_on : ℕ → ℕ
  stays_on x = product (discount_number interest) (fixed (1000000 - f.figure Invalidity x - f.figure ActiveDeath x) 1000000)

  -- v·half
  abbrev pub to_next_year : Kind → ℕ → ℕ
  to_next_year b x = product (discount_number interest) (half_number (f.figure b x))

  unfoldable pub level_number : Kind → (ℕ → ℕ) → ℕ → ℕ
  level_number b L x = running (λ k. goes_on b (x + k)) (λ k. L (x + k)) (λ k. scale) (121 - x) 0

  abbrev pub annuity_number : Kind → ℕ → ℕ
  annuity_number b x = level_number b (λ y. scale) x

  unfoldable pub wid_number : ℕ → ℕ
  wid_number y = product (to_next_year WidowDeath y) (annuity_number WidowDeath (y + 1))

  unfoldable pub left_number : ℕ → ℕ
  left_number x = product (chance_number (f.figure Married x)) (wid_number (f.figure SpouseAge x))

  unfoldable pub pension_number : Kind → ℕ → ℕ
  pension_number b x = paid_number (kept_number interest instalments) (loss_number interest instalments) (goes_on b x)

  unfoldable pub widowed_number : Kind → ℕ → ℕ
  widowed_number b x = product (chance_number (f.figure b x)) (left_number x)

  unfoldable pub turning_invalid_number : ℕ → ℕ
  turning_invalid_number x = product (chance_number (f.figure Invalidity x)) (product (to_next_year InvalidDeath x) (annuity_number InvalidDeath (x + 1)))

  unfoldable pub turning_invalid_widow_number : ℕ → ℕ
  turning_invalid_widow_number x = product (chance_number (f.figure Invalidity x))
      (product (to_next_year InvalidDeath x) (level_number InvalidDeath (widowed_number InvalidDeath) (x + 1)) + product (sooner_number (f.figure InvalidDeath x)) (left_number x))

  -- a share of an active: a rule below the final age, and a value at it
  abbrev pub until_number : (ℕ → ℕ) → ℕ → ℕ → ℕ
  until_number below at x = elim (nat_lt x f.final_age) [ true ↦ below x | false ↦ at ]

  abbrev pub retirement_number : ℕ → ℕ
  retirement_number x = until_number (λ y. 0) (level_number PopulationDeath (pension_number PopulationDeath) f.final_age) x

  abbrev pub active_death_number : ℕ → ℕ
  active_death_number x = until_number (widowed_number ActiveDeath) 0 x

  abbrev pub retired_death_number : ℕ → ℕ
  retired_death_number x = until_number (λ y. 0) (level_number PopulationDeath (widowed_number PopulationDeath) f.final_age) x

  -- the share and the discounted survival of each benefit at an age
  abbrev pub share_number : Benefit → ℕ → ℕ
  share_number Retired x = pension_number PopulationDeath x
  share_number Population x = pension_number PopulationDeath x
  share_number Invalid x = pension_number InvalidDeath x
  share_number Widow x = pension_number WidowDeath x
  share_number RetiredWidow x = widowed_number PopulationDeath x
  share_number PopulationWidow x = widowed_number PopulationDeath x
  share_number InvalidWidow x = widowed_number InvalidDeath x
  share_number Active x = until_number (λ y. paid_number (kept_number interest instalments) (loss_number interest instalments) (stays_on y)) 0 x
  share_number ActiveRetirement x = retirement_number x
  share_number ActiveInvalidity x = until_number turning_invalid_number 0 x
  share_number ActiveInvalidityRetirement x = until_number turning_invalid_number 0 x + retirement_number x
  share_number ActiveDeathWidow x = active_death_number x
  share_number ActiveRetiredWidow x = retired_death_number x
  share_number ActiveOrRetiredWidow x = active_death_number x + retired_death_number x
  share_number ActiveInvalidWidow x = until_number turning_invalid_widow_number 0 x
  share_number ActiveWidow x = (active_death_number x + retired_death_number x) + until_number turning_invalid_widow_number 0 x

  abbrev pub survival_number : Benefit → ℕ → ℕ
  survival_number Retired x = goes_on PopulationDeath x
  survival_number Population x = goes_on PopulationDeath x
  survival_number Invalid x = goes_on InvalidDeath x
  survival_number Widow x = goes_on WidowDeath x
  survival_number RetiredWidow x = goes_on PopulationDeath x
  survival_number PopulationWidow x = goes_on PopulationDeath x
  survival_number InvalidWidow x = goes_on InvalidDeath x
  survival_number Active x = stays_on x
  survival_number ActiveRetirement x = stays_on x
  survival_number ActiveInvalidity x = stays_on x
  survival_number ActiveInvalidityRetirement x = stays_on x
  survival_number ActiveDeathWidow x = stays_on x
  survival_number ActiveRetiredWidow x = stays_on x
  survival_number ActiveOrRetiredWidow x = stays_on x
  survival_number ActiveInvalidWidow x = stays_on x
  survival_number ActiveWidow x = stays_on x

  -- a promise, in units: the sum, and the sum with its slack
  unfoldable pub low_units : Benefit → ℕ → List ℕ → ℕ
  low_units b x amounts = running (λ k. survival_number b (x + k)) (λ k. share_number b (x + k)) (λ k. weight (slice_index amounts k)) (span f.final_age b x) 0

  unfoldable pub high_units : Benefit → ℕ → List ℕ → ℕ
  high_units b x amounts = low_units b x amounts + slack (λ k. weight (slice_index amounts k)) (span f.final_age b x) 0

-- rounded to cents, down and up
abbrev pub lower_cents : ℕ → ℕ
lower_cents low = low / unit

abbrev pub upper_cents : ℕ → ℕ
upper_cents high = (high + (unit - 1)) / unit

-- the pair of a promise
abbrev pub lower : Figures → ℕ → ℕ → Benefit → ℕ → List ℕ → ℕ
lower f interest instalments b x amounts = lower_cents (low_units f interest instalments b x amounts)

abbrev pub upper : Figures → ℕ → ℕ → Benefit → ℕ → List ℕ → ℕ
upper f interest instalments b x amounts = upper_cents (high_units f interest instalments b x amounts)
