-- Fractions of natural numbers, compared by multiplying across. Assumes nothing.
use Rattle.std.specs.Prelude.{◌≡◌, ℕ, ◌+◌, ◌-◌, ◌*◌, ◌<◌, ◌≤◌}

infixl 65 ◌⊕◌
infixl 65 ◌⊖◌
infixl 70 ◌⊗◌
infixl 70 ◌⊘◌
infix 50 ◌≈◌
infix 50 ◌≼◌
-- a numerator and a denominator
pub record Fraction : Type 0 where
  pub num : ℕ
  pub den : ℕ

-- a denominator is above 0
abbrev pub Proper : Fraction → Type 0
Proper x = 0 < x.den

abbrev pub ratio : ℕ → ℕ → Fraction
ratio n d = record { num = n; den = d }

abbrev pub whole : ℕ → Fraction
whole n = ratio n 1

abbrev pub nought : Fraction
nought = whole 0

abbrev pub one : Fraction
one = whole 1

abbrev pub ◌⊕◌ : Fraction → Fraction → Fraction
x ⊕ y = ratio (x.num * y.den + y.num * x.den) (x.den * y.den)

-- the difference, 0 where the second is the greater: no such difference is formed here
abbrev pub ◌⊖◌ : Fraction → Fraction → Fraction
x ⊖ y = ratio (x.num * y.den - y.num * x.den) (x.den * y.den)

abbrev pub ◌⊗◌ : Fraction → Fraction → Fraction
x ⊗ y = ratio (x.num * y.num) (x.den * y.den)

-- the quotient; the divisor is above 0
abbrev pub ◌⊘◌ : Fraction → Fraction → Fraction
x ⊘ y = ratio (x.num * y.den) (x.den * y.num)

-- equal, and at most
abbrev pub ◌≈◌ : Fraction → Fraction → Type 0
x ≈ y = x.num * y.den ≡ y.num * x.den

abbrev pub ◌≼◌ : Fraction → Fraction → Type 0
x ≼ y = x.num * y.den ≤ y.num * x.den
