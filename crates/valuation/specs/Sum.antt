-- The one sum: the present value of amounts along any path. Assumes nothing.
use Rattle.std.specs.Prelude.{ℕ, zero, suc}
use Rattle.valuation.specs.Fraction.{Fraction, one, nought, whole, ◌⊕◌, ◌⊗◌}

-- A path is survivors from year to year and a year's figure. Years count from 0, the year of the valuation.
pub record Path : Type 0 where
  pub years : ℕ
  -- the chance to be on the path a year on, for one who is on it in the given year
  pub survives : ℕ → Fraction
  -- what an amount of 1 in the given year is worth then, for one who is on the path
  pub share : ℕ → Fraction

-- v to the power of k
unfoldable pub power : Fraction → ℕ → Fraction
power v zero = one
power v (suc k) = power v k ⊗ v

-- the chance to be on a path from year 0 up to year k
unfoldable pub survival : (ℕ → Fraction) → ℕ → Fraction
survival p zero = one
survival p (suc k) = survival p k ⊗ p k

-- f(k) + f(k + 1) + .., n terms
unfoldable pub total : ℕ → ℕ → (ℕ → Fraction) → Fraction
total zero k f = nought
total (suc n) k f = f k ⊕ total n (suc k) f

-- the sum over k of v^k times the survival up to year k times the amount of year k times the share of year k
abbrev pub present_value : Fraction → Path → (ℕ → ℕ) → Fraction
present_value v path amount = total path.years 0 (λ k. power v k ⊗ survival path.survives k ⊗ whole (amount k) ⊗ path.share k)
