-- The one sum run backward from the last year, and that it is the plain sum, with sums inside sums. Assumes nothing.
use Rattle.std.proofs.Common.{◌≡◌, ℕ, zero, suc, ◌+◌, ◌-◌, ◌*◌, true, false, ltb, List, get_or, sym, refl, ap, ◌∙◌, mul_assoc, arith}
use Rattle.basis.specs.declared.kind.Kind.{Kind}
use Rattle.basis.specs.declared.kind.Kind.TheVariants.{Invalidity, ActiveDeath, InvalidDeath, PopulationDeath, WidowDeath, Married, SpouseAge}
use Rattle.basis.specs.Figures.{Figures}
use Rattle.valuation.specs.declared.benefit.Benefit.{Benefit}
use Rattle.valuation.specs.declared.benefit.Benefit.TheVariants.{Retired, Population, Invalid, Widow, RetiredWidow, PopulationWidow, InvalidWidow, Active, ActiveRetirement, ActiveInvalidity, ActiveInvalidityRetirement, ActiveDeathWidow, ActiveRetiredWidow, ActiveOrRetiredWidow, ActiveInvalidWidow, ActiveWidow}
use Rattle.valuation.specs.Benefits.{span}
use Rattle.valuation.specs.Exact.{half, paid, chance, lives, survives, until, level, annuity, wid, left, widowed, retiring, retiring_widow, turning_invalid, turning_invalid_widow, retirement, invalidity, active_death, retired_death, invalid_death, share, value, exact_value}
use Rattle.valuation.specs.Terms.{discount}
use Rattle.valuation.specs.Fraction.{Fraction, whole, nought, one, ◌⊕◌, ◌⊖◌, ◌⊗◌, ◌≈◌}
use Rattle.valuation.specs.Sum.{Path, power, survival, total, present_value}
use Rattle.valuation.proofs.Fractions.{same_add, same_mul}

-- what is left from year k on, n years, for one who is on the path in year k
unfoldable pub remaining : Fraction → (ℕ → Fraction) → (ℕ → Fraction) → (ℕ → ℕ) → ℕ → ℕ → Fraction
remaining v p share amount zero k = nought
remaining v p share amount (suc n) k = (whole (amount k) ⊗ share k) ⊕ ((v ⊗ p k) ⊗ remaining v p share amount n (suc k))

unfoldable pub backward : Fraction → Path → (ℕ → ℕ) → Fraction
backward v path amount = remaining v path.survives path.share amount path.years 0

-- one year more of both, over the numbers of the fractions: A/B is what has been reached, l/m and l'/m' are the shares,
-- C/D is what is left by the backward sum, discounted to this year, and s/t by the plain one
year : (A B r l m l' m' C D s t : ℕ) → l * m' ≡ l' * m → s * (B * D) ≡ (A * C) * t
    → (A * r * l * t + s * (B * 1 * m)) * (B * (1 * m' * D)) ≡ (A * (r * l' * D + C * (1 * m'))) * (B * 1 * m * t)
year A B r l m l' m' C D s t share rest =
    let now : (A * r * l * t) * (B * (m' * D)) ≡ (A * (r * l' * D)) * (B * m * t) = omega (arith, ap (λ n. n * (A * r * t * B * D)) share) in
    let then : (s * (B * m)) * (B * (m' * D)) ≡ (A * (C * m')) * (B * m * t) = omega (arith, ap (λ n. n * (B * m * m')) rest) in
    omega arith

regroup : (a b c d : ℕ) → (a * b) * (c * d) ≡ (a * c) * (b * d)
regroup a b c d = omega arith

same_total : (v : Fraction) (p L L' : ℕ → Fraction) (amount : ℕ → ℕ) → ((k : ℕ) → L k ≈ L' k) → (n k : ℕ)
    → total n k (λ j. power v j ⊗ survival p j ⊗ whole (amount j) ⊗ L j) ≈ (power v k ⊗ survival p k) ⊗ remaining v p L' amount n k
unfolding total power survival remaining
same_total v p L L' amount same zero k = omega arith
same_total v p L L' amount same (suc n) k =
    let S = total n (suc k) (λ j. power v j ⊗ survival p j ⊗ whole (amount j) ⊗ L j) in
    let B = remaining v p L' amount n (suc k) in
    let later : S.num * (((power v k).den * (survival p k).den) * ((v.den * (p k).den) * B.den)) ≡ (((power v k).num * (survival p k).num) * ((v.num * (p k).num) * B.num)) * S.den =
    ap (λ n. S.num * n) (sym (mul_assoc ((power v k).den * (survival p k).den) (v.den * (p k).den) B.den) ∙ ap (λ n. n * B.den) (regroup (power v k).den (survival p k).den v.den (p k).den))
    ∙ same_total v p L L' amount same n (suc k)
    ∙ ap (λ n. n * S.den) (ap (λ n. n * B.num) (regroup (power v k).num v.num (survival p k).num (p k).num) ∙ mul_assoc ((power v k).num * (survival p k).num) (v.num * (p k).num) B.num) in
    year ((power v k).num * (survival p k).num) ((power v k).den * (survival p k).den) (amount k) (L k).num (L k).den (L' k).num (L' k).den ((v.num * (p k).num) * B.num) ((v.den * (p k).den) * B.den) S.num S.den (same k) later

-- two paths of one course with equal shares
pub same_sum : (v : Fraction) (years : ℕ) (p L L' : ℕ → Fraction) (amount : ℕ → ℕ) → ((k : ℕ) → L k ≈ L' k)
    → present_value v (record { years = years; survives = p; share = L }) amount ≈ backward v (record { years = years; survives = p; share = L' }) amount
unfolding power survival backward
same_sum v years p L L' amount same = omega (arith, same_total v p L L' amount same years 0)

-- The model read with both sums.
module _ (f : Figures) (interest instalments : ℕ) where
  same_level : (b : Kind) (L L' : ℕ → Fraction) → ((y : ℕ) → L y ≈ L' y) → (x : ℕ) → level f interest instalments present_value b L x ≈ level f interest instalments backward b L' x
  unfolding level
  same_level b L L' same x = same_sum (discount interest) (121 - x) (λ k. lives f b (x + k)) (λ k. L (x + k)) (λ k. L' (x + k)) (λ k. 1) (λ k. same (x + k))

  same_annuity : (b : Kind) (x : ℕ) → annuity f interest instalments present_value b x ≈ annuity f interest instalments backward b x
  same_annuity b x = same_level b (λ y. one) (λ y. one) (λ y. refl) x

  -- a factor in front of equal fractions
  times : (a x y : Fraction) → x ≈ y → a ⊗ x ≈ a ⊗ y
  times a x y h = same_mul a a x y refl h

  same_wid : (y : ℕ) → wid f interest instalments present_value y ≈ wid f interest instalments backward y
  unfolding wid
  same_wid y = times (discount interest ⊗ half (chance f WidowDeath y)) _ _ (same_annuity WidowDeath (y + 1))

  same_left : (x : ℕ) → left f interest instalments present_value x ≈ left f interest instalments backward x
  same_left x = times (chance f Married x) _ _ (same_wid (f.figure SpouseAge x))

  same_widowed : (b : Kind) (x : ℕ) → widowed f interest instalments present_value b x ≈ widowed f interest instalments backward b x
  same_widowed b x = times (chance f b x) _ _ (same_left x)

  same_retiring : retiring f interest instalments present_value ≈ retiring f interest instalments backward
  unfolding retiring
  same_retiring = same_level PopulationDeath (λ y. paid interest instalments (lives f PopulationDeath y)) (λ y. paid interest instalments (lives f PopulationDeath y)) (λ y. refl) f.final_age

  same_retiring_widow : retiring_widow f interest instalments present_value ≈ retiring_widow f interest instalments backward
  unfolding retiring_widow
  same_retiring_widow = same_level PopulationDeath _ _ (same_widowed PopulationDeath) f.final_age

  same_turning_invalid : (x : ℕ) → turning_invalid f interest instalments present_value x ≈ turning_invalid f interest instalments backward x
  unfolding turning_invalid
  same_turning_invalid x = times (chance f Invalidity x ⊗ discount interest ⊗ half (chance f InvalidDeath x)) _ _ (same_annuity InvalidDeath (x + 1))

  same_turning_invalid_widow : (x : ℕ) → turning_invalid_widow f interest instalments present_value x ≈ turning_invalid_widow f interest instalments backward x
  unfolding turning_invalid_widow
  same_turning_invalid_widow x =
      let h = half (chance f InvalidDeath x) in
      times (chance f Invalidity x) _ _ (same_add _ _ _ _
      (times (discount interest ⊗ h) _ _ (same_level InvalidDeath _ _ (same_widowed InvalidDeath) (x + 1)))
      (times (one ⊖ h) _ _ (same_left x)))

  same_until : (L L' : ℕ → Fraction) (a a' : Fraction) → ((y : ℕ) → L y ≈ L' y) → a ≈ a' → (x : ℕ) → until f L a x ≈ until f L' a' x
  same_until L L' a a' same at x =
      elim (ltb x f.final_age) as (λ t. (elim t as (λ _. Fraction) [ true ↦ L x | false ↦ a ]) ≈ (elim t as (λ _. Fraction) [ true ↦ L' x | false ↦ a' ]))
      [ true ↦ same x | false ↦ at ]

  same_retirement : (x : ℕ) → retirement f interest instalments present_value x ≈ retirement f interest instalments backward x
  same_retirement x = same_until (λ y. nought) (λ y. nought) _ _ (λ y. refl) same_retiring x

  same_invalidity : (x : ℕ) → invalidity f interest instalments present_value x ≈ invalidity f interest instalments backward x
  same_invalidity x = same_until _ _ nought nought same_turning_invalid refl x

  same_active_death : (x : ℕ) → active_death f interest instalments present_value x ≈ active_death f interest instalments backward x
  same_active_death x = same_until _ _ nought nought (same_widowed ActiveDeath) refl x

  same_retired_death : (x : ℕ) → retired_death f interest instalments present_value x ≈ retired_death f interest instalments backward x
  same_retired_death x = same_until (λ y. nought) (λ y. nought) _ _ (λ y. refl) same_retiring_widow x

  same_invalid_death : (x : ℕ) → invalid_death f interest instalments present_value x ≈ invalid_death f interest instalments backward x
  same_invalid_death x = same_until _ _ nought nought same_turning_invalid_widow refl x

  same_share : (b : Benefit) (x : ℕ) → share f interest instalments present_value b x ≈ share f interest instalments backward b x
  same_share Retired x = refl
  same_share Population x = refl
  same_share Invalid x = refl
  same_share Widow x = refl
  same_share RetiredWidow x = same_widowed PopulationDeath x
  same_share PopulationWidow x = same_widowed PopulationDeath x
  same_share InvalidWidow x = same_widowed InvalidDeath x
  same_share Active x = refl
  same_share ActiveRetirement x = same_retirement x
  same_share ActiveInvalidity x = same_invalidity x
  same_share ActiveInvalidityRetirement x = same_add _ _ _ _ (same_invalidity x) (same_retirement x)
  same_share ActiveDeathWidow x = same_active_death x
  same_share ActiveRetiredWidow x = same_retired_death x
  same_share ActiveOrRetiredWidow x = same_add _ _ _ _ (same_active_death x) (same_retired_death x)
  same_share ActiveInvalidWidow x = same_invalid_death x
  same_share ActiveWidow x = same_add _ _ _ _ (same_add _ _ _ _ (same_active_death x) (same_retired_death x)) (same_invalid_death x)

  -- the exact value of a promise, by the backward sum all the way down
  pub same_value : (b : Benefit) (x : ℕ) (amounts : List ℕ) → exact_value f interest instalments b x amounts ≈ value f interest instalments backward b x amounts
  unfolding exact_value
  same_value b x amounts = same_sum (discount interest) (span f.final_age b x) (λ k. survives f b (x + k)) _ _ (λ k. get_or amounts k 0) (λ k. same_share b (x + k))
