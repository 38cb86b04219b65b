-- Denominators are above 0, whichever sum the model is read with. Assumes nothing.
use Rattle.std.proofs.Common.{ℕ, zero, suc, ◌+◌, ◌<◌, true, false, ltb, List, get_or, mul-pos, arith}
use Rattle.basis.specs.declared.kind.Kind.{Kind}
use Rattle.basis.specs.declared.kind.Kind.TheVariants.{Invalidity, ActiveDeath, InvalidDeath, PopulationDeath, WidowDeath, Married, SpouseAge}
use Rattle.basis.specs.Figures.{Figures, Lawful}
use Rattle.basis.specs.Layered.{million}
use Rattle.valuation.specs.declared.benefit.Benefit.{Benefit}
use Rattle.valuation.specs.declared.benefit.Benefit.TheVariants.{Retired, Population, Invalid, Widow, RetiredWidow, PopulationWidow, InvalidWidow, Active, ActiveRetirement, ActiveInvalidity, ActiveInvalidityRetirement, ActiveDeathWidow, ActiveRetiredWidow, ActiveOrRetiredWidow, ActiveInvalidWidow, ActiveWidow}
use Rattle.valuation.specs.Fraction.{Fraction, Proper, whole, nought, one, ◌⊕◌, ◌⊖◌, ◌⊗◌}
use Rattle.valuation.specs.Terms.{discount}
use Rattle.valuation.specs.Sum.{Path, power, survival, present_value}
use Rattle.valuation.specs.Exact.{half, paid, chance, lives, stays, survives, until, level, annuity, wid, left, pension, widowed, retiring, retiring_widow, turning_invalid, turning_invalid_widow, retirement, invalidity, active_death, retired_death, invalid_death, share, value, exact_value, exact_cents}
use Rattle.valuation.proofs.Fractions.{proper_add, proper_mul}
use Rattle.valuation.proofs.Rating.{loss_proper, proper_total}
use Rattle.valuation.proofs.Years.{half_proper}
use Rattle.valuation.proofs.Backward.{backward}
use Rattle.valuation.proofs.Running.{proper_remaining}

pub discount_proper : (interest : ℕ) → Proper (discount interest)
discount_proper interest = omega arith

pub paid_proper : (interest t : ℕ) → 0 < t → (p : Fraction) → Proper p → Proper (paid interest t p)
paid_proper interest t some p h = mul-pos (omega arith) (mul-pos (loss_proper interest t some) (mul-pos (omega arith) (proper_mul (discount interest) p (discount_proper interest) h)))

-- Both sums keep it.
abbrev pub KeepsProper : (Fraction → Path → (ℕ → ℕ) → Fraction) → Type 0
KeepsProper sum = (v : Fraction) (path : Path) (amount : ℕ → ℕ) → Proper v → ((k : ℕ) → Proper (path.survives k)) → ((k : ℕ) → Proper (path.share k)) → Proper (sum v path amount)

power_proper : (v : Fraction) → Proper v → (k : ℕ) → Proper (power v k)
unfolding power
power_proper v h zero = omega arith
power_proper v h (suc k) = proper_mul (power v k) v (power_proper v h k) h

survival_proper : (p : ℕ → Fraction) → ((k : ℕ) → Proper (p k)) → (k : ℕ) → Proper (survival p k)
unfolding survival
survival_proper p h zero = omega arith
survival_proper p h (suc k) = proper_mul (survival p k) (p k) (survival_proper p h k) (h k)

plain_proper : KeepsProper present_value
plain_proper v path amount hv hs hl =
    let lived : ℕ → Fraction = λ k. power v k ⊗ survival path.survives k in
    proper_total path.years 0 (λ k. lived k ⊗ whole (amount k) ⊗ path.share k)
    (λ k. proper_mul (lived k ⊗ whole (amount k)) (path.share k)
    (proper_mul (lived k) (whole (amount k)) (proper_mul (power v k) (survival path.survives k) (power_proper v hv k) (survival_proper path.survives hs k)) (omega arith)) (hl k))

pub backward_proper : KeepsProper backward
unfolding backward
backward_proper v path amount hv hs hl = proper_remaining v path.survives path.share amount hv hs hl path.years 0

module _ (f : Figures) where
  pub lives_proper : (b : Kind) (x : ℕ) → Proper (lives f b x)
  lives_proper b x = omega arith

  pub stays_proper : (x : ℕ) → Proper (stays f x)
  stays_proper x = omega arith

  survives_proper : (b : Benefit) (x : ℕ) → Proper (survives f b x)
  survives_proper Retired x = lives_proper PopulationDeath x
  survives_proper Population x = lives_proper PopulationDeath x
  survives_proper Invalid x = lives_proper InvalidDeath x
  survives_proper Widow x = lives_proper WidowDeath x
  survives_proper RetiredWidow x = lives_proper PopulationDeath x
  survives_proper PopulationWidow x = lives_proper PopulationDeath x
  survives_proper InvalidWidow x = lives_proper InvalidDeath x
  survives_proper Active x = stays_proper x
  survives_proper ActiveRetirement x = stays_proper x
  survives_proper ActiveInvalidity x = stays_proper x
  survives_proper ActiveInvalidityRetirement x = stays_proper x
  survives_proper ActiveDeathWidow x = stays_proper x
  survives_proper ActiveRetiredWidow x = stays_proper x
  survives_proper ActiveOrRetiredWidow x = stays_proper x
  survives_proper ActiveInvalidWidow x = stays_proper x
  survives_proper ActiveWidow x = stays_proper x

  until_proper : (L : ℕ → Fraction) (a : Fraction) → ((y : ℕ) → Proper (L y)) → Proper a → (x : ℕ) → Proper (until f L a x)
  until_proper L a hl ha x = elim (ltb x f.final_age) as (λ t. Proper (elim t as (λ _. Fraction) [ true ↦ L x | false ↦ a ])) [ true ↦ hl x | false ↦ ha ]

module _ (f : Figures) (lawful : Lawful f) where
  chance_half_proper : (b : Kind) (x : ℕ) → Proper (half (chance f b x))
  chance_half_proper b x = half_proper (f.figure b x) (million f lawful b x)

  pub next_proper : (interest : ℕ) (b : Kind) (x : ℕ) → Proper (discount interest ⊗ half (chance f b x))
  next_proper interest b x = proper_mul (discount interest) (half (chance f b x)) (discount_proper interest) (chance_half_proper b x)

module _ (f : Figures) (lawful : Lawful f) (interest t : ℕ) (some : 0 < t) (sum : Fraction → Path → (ℕ → ℕ) → Fraction) (keeps : KeepsProper sum) where
  level_proper : (b : Kind) (L : ℕ → Fraction) → ((y : ℕ) → Proper (L y)) → (x : ℕ) → Proper (level f interest t sum b L x)
  unfolding level
  level_proper b L h x = keeps (discount interest) _ (λ _. 1) (discount_proper interest) (λ k. lives_proper f b (x + k)) (λ k. h (x + k))

  pub annuity_proper : (b : Kind) (x : ℕ) → Proper (annuity f interest t sum b x)
  annuity_proper b x = level_proper b (λ y. one) (λ y. omega arith) x

  wid_proper : (y : ℕ) → Proper (wid f interest t sum y)
  unfolding wid
  wid_proper y = proper_mul (discount interest ⊗ half (chance f WidowDeath y)) (annuity f interest t sum WidowDeath (y + 1)) (next_proper f lawful interest WidowDeath y) (annuity_proper WidowDeath (y + 1))

  left_proper : (x : ℕ) → Proper (left f interest t sum x)
  left_proper x = proper_mul (chance f Married x) (wid f interest t sum (f.figure SpouseAge x)) (omega arith) (wid_proper (f.figure SpouseAge x))

  pub pension_proper : (b : Kind) (x : ℕ) → Proper (pension f interest t sum b x)
  pension_proper b x = paid_proper interest t some (lives f b x) (lives_proper f b x)

  pub widowed_proper : (b : Kind) (x : ℕ) → Proper (widowed f interest t sum b x)
  widowed_proper b x = proper_mul (chance f b x) (left f interest t sum x) (omega arith) (left_proper x)

  retiring_proper : Proper (retiring f interest t sum)
  unfolding retiring
  retiring_proper = level_proper PopulationDeath (pension f interest t sum PopulationDeath) (pension_proper PopulationDeath) f.final_age

  retiring_widow_proper : Proper (retiring_widow f interest t sum)
  unfolding retiring_widow
  retiring_widow_proper = level_proper PopulationDeath (widowed f interest t sum PopulationDeath) (widowed_proper PopulationDeath) f.final_age

  pub turning_proper : (x : ℕ) → Proper (turning_invalid f interest t sum x)
  unfolding turning_invalid
  turning_proper x = proper_mul (chance f Invalidity x ⊗ discount interest ⊗ half (chance f InvalidDeath x)) (annuity f interest t sum InvalidDeath (x + 1))
      (proper_mul (chance f Invalidity x ⊗ discount interest) (half (chance f InvalidDeath x)) (proper_mul (chance f Invalidity x) (discount interest) (omega arith) (discount_proper interest)) (chance_half_proper f lawful InvalidDeath x))
      (annuity_proper InvalidDeath (x + 1))

  pub turning_widow_proper : (x : ℕ) → Proper (turning_invalid_widow f interest t sum x)
  unfolding turning_invalid_widow
  turning_widow_proper x =
      let h = half (chance f InvalidDeath x) in
      let W = level f interest t sum InvalidDeath (widowed f interest t sum InvalidDeath) (x + 1) in
      proper_mul (chance f Invalidity x) ((discount interest ⊗ h ⊗ W) ⊕ ((one ⊖ h) ⊗ left f interest t sum x)) (omega arith)
      (proper_add (discount interest ⊗ h ⊗ W) ((one ⊖ h) ⊗ left f interest t sum x)
      (proper_mul (discount interest ⊗ h) W (next_proper f lawful interest InvalidDeath x) (level_proper InvalidDeath (widowed f interest t sum InvalidDeath) (widowed_proper InvalidDeath) (x + 1)))
      (proper_mul (one ⊖ h) (left f interest t sum x) (mul-pos (omega arith) (chance_half_proper f lawful InvalidDeath x)) (left_proper x)))

  retirement_proper : (x : ℕ) → Proper (retirement f interest t sum x)
  retirement_proper x = until_proper f (λ y. nought) (retiring f interest t sum) (λ y. omega arith) retiring_proper x

  invalidity_proper : (x : ℕ) → Proper (invalidity f interest t sum x)
  invalidity_proper x = until_proper f (turning_invalid f interest t sum) nought turning_proper (omega arith) x

  active_death_proper : (x : ℕ) → Proper (active_death f interest t sum x)
  active_death_proper x = until_proper f (widowed f interest t sum ActiveDeath) nought (widowed_proper ActiveDeath) (omega arith) x

  retired_death_proper : (x : ℕ) → Proper (retired_death f interest t sum x)
  retired_death_proper x = until_proper f (λ y. nought) (retiring_widow f interest t sum) (λ y. omega arith) retiring_widow_proper x

  invalid_death_proper : (x : ℕ) → Proper (invalid_death f interest t sum x)
  invalid_death_proper x = until_proper f (turning_invalid_widow f interest t sum) nought turning_widow_proper (omega arith) x

  either_death_proper : (x : ℕ) → Proper (active_death f interest t sum x ⊕ retired_death f interest t sum x)
  either_death_proper x = proper_add (active_death f interest t sum x) (retired_death f interest t sum x) (active_death_proper x) (retired_death_proper x)

  share_proper : (b : Benefit) (x : ℕ) → Proper (share f interest t sum b x)
  share_proper Retired x = pension_proper PopulationDeath x
  share_proper Population x = pension_proper PopulationDeath x
  share_proper Invalid x = pension_proper InvalidDeath x
  share_proper Widow x = pension_proper WidowDeath x
  share_proper RetiredWidow x = widowed_proper PopulationDeath x
  share_proper PopulationWidow x = widowed_proper PopulationDeath x
  share_proper InvalidWidow x = widowed_proper InvalidDeath x
  share_proper Active x = until_proper f (λ y. paid interest t (stays f y)) nought (λ y. paid_proper interest t some (stays f y) (stays_proper f y)) (omega arith) x
  share_proper ActiveRetirement x = retirement_proper x
  share_proper ActiveInvalidity x = invalidity_proper x
  share_proper ActiveInvalidityRetirement x = proper_add (invalidity f interest t sum x) (retirement f interest t sum x) (invalidity_proper x) (retirement_proper x)
  share_proper ActiveDeathWidow x = active_death_proper x
  share_proper ActiveRetiredWidow x = retired_death_proper x
  share_proper ActiveOrRetiredWidow x = either_death_proper x
  share_proper ActiveInvalidWidow x = invalid_death_proper x
  share_proper ActiveWidow x = proper_add (active_death f interest t sum x ⊕ retired_death f interest t sum x) (invalid_death f interest t sum x) (either_death_proper x) (invalid_death_proper x)

  pub value_proper : (b : Benefit) (x : ℕ) (amounts : List ℕ) → Proper (value f interest t sum b x amounts)
  value_proper b x amounts = keeps (discount interest) _ (λ k. get_or amounts k 0) (discount_proper interest) (λ k. survives_proper f b (x + k)) (λ k. share_proper b (x + k))

pub exact_proper : (f : Figures) → Lawful f → (interest t : ℕ) → 0 < t → (b : Benefit) (x : ℕ) (amounts : List ℕ) → Proper (exact_cents f interest t b x amounts)
unfolding exact_value
exact_proper f lawful interest t some b x amounts = proper_mul (whole 100) (value f interest t present_value b x amounts) (omega arith) (value_proper f lawful interest t some present_value plain_proper b x amounts)
