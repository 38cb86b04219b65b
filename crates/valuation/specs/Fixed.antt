-- Fixed-point numbers: whole multiples of 2^-56, each a floor of what it stands for. Assumes nothing.
use Rattle.std.specs.Prelude.{ℕ, ◌+◌, ◌*◌, ◌/◌, ◌≤◌}
use Rattle.valuation.specs.Fraction.{Fraction}

-- the number that stands for 1
abbrev pub scale : ℕ
scale = 72057594037927936

-- n/d, and the product of two numbers, rounded down
abbrev pub fixed : ℕ → ℕ → ℕ
fixed n d = n * scale / d

abbrev pub product : ℕ → ℕ → ℕ
product a b = a * b / scale

-- the number n stands for the fraction x with an allowance e: n ≤ x·scale ≤ n + e
pub record Stands (n : ℕ) (x : Fraction) (e : ℕ) : Type 0 where
  pub low : n * x.den ≤ x.num * scale
  pub high : x.num * scale ≤ (n + e) * x.den
