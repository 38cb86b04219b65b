-- From the sum's units to cents. Assumes nothing.
use Rattle.std.proofs.Common.{ℕ, ◌+◌, ◌-◌, ◌*◌, ◌≤◌, ap, mul-le-mul_right, div-mul-le_self, le_of_mul-le-mul_right, arith}
use Rattle.std.proofs.Math.Nat.{lt-div-mul-add}
use Rattle.valuation.specs.Fraction.{Fraction, Proper, whole, ◌⊗◌, ◌≈◌, ◌≼◌}
use Rattle.valuation.specs.Pair.{unit, lower_cents, upper_cents}

-- x is the exact value in euros, y an equal fraction that the sum's low and high enclose in units
pub cents_low : (x y : Fraction) (low : ℕ) → Proper y → x ≈ y → low * y.den ≤ y.num * 104857600 → whole (lower_cents low) ≼ whole 100 ⊗ x
cents_low x y low proper same h =
    let floor : lower_cents low * unit ≤ low = div-mul-le_self low unit in
    let ours : lower_cents low * y.den ≤ y.num * 100 = le_of_mul-le-mul_right {k = unit} (omega (arith, mul-le-mul_right y.den floor)) (omega arith) in
    le_of_mul-le-mul_right {k = y.den} (omega (arith, mul-le-mul_right x.den ours, ap (λ n. n * 100) same)) proper

pub cents_high : (x y : Fraction) (high : ℕ) → Proper y → x ≈ y → y.num * 104857600 ≤ high * y.den → whole 100 ⊗ x ≼ whole (upper_cents high)
cents_high x y high proper same h =
    let ceiling : high ≤ upper_cents high * unit = omega (arith, lt-div-mul-add {a = high + (unit - 1)} {b = unit} (omega arith)) in
    let ours : y.num * 100 ≤ upper_cents high * y.den = le_of_mul-le-mul_right {k = unit} (omega (arith, mul-le-mul_right y.den ceiling)) (omega arith) in
    le_of_mul-le-mul_right {k = y.den} (omega (arith, mul-le-mul_right x.den ours, ap (λ n. n * 100) same)) proper
