-- The numbers that stand for what a valuation takes from its terms and from one figure. Assumes nothing.
use Rattle.std.specs.Prelude.{ℕ, zero, suc, ◌+◌, ◌-◌, ◌*◌}
use Rattle.valuation.specs.Fixed.{fixed, product}

-- g(k) + g(k + 1) + .., n terms
unfoldable pub added : ℕ → ℕ → (ℕ → ℕ) → ℕ
added zero k g = 0
added (suc n) k g = g k + added n (suc k) g

-- v
abbrev pub discount_number : ℕ → ℕ
discount_number interest = fixed 10000 (10000 + interest)

-- K and 1 − K, of the t parts of a year, each with a denominator of its own
abbrev pub part_den : ℕ → ℕ → ℕ → ℕ
part_den interest t m = t * (10000 * t + m * interest)

abbrev pub loss_number : ℕ → ℕ → ℕ
loss_number interest t = added t 0 (λ m. fixed (m * (10000 + interest)) (part_den interest t m))

abbrev pub kept_number : ℕ → ℕ → ℕ
kept_number interest t = added t 0 (λ m. fixed (10000 * (t - m)) (part_den interest t m))

-- a chance of q millionths, and the chance of its opposite
abbrev pub chance_number : ℕ → ℕ
chance_number q = fixed q 1000000

abbrev pub lives_number : ℕ → ℕ
lives_number q = fixed (1000000 - q) 1000000

-- T, for one whose discounted chance to draw the pension for another year is s: (1 − K) + K·s
abbrev pub paid_number : ℕ → ℕ → ℕ → ℕ
paid_number kept loss s = kept + product loss s
