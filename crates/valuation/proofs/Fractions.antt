-- The laws of fractions. Assumes nothing.
use Rattle.std.proofs.Common.{◌*◌, sym, ap, mul-pos, arith}
use Rattle.std.proofs.Math.Nat.{eq_of_mul-eq-mul_right}
use Rattle.valuation.specs.Fraction.{Fraction, Proper, ◌⊕◌, ◌⊗◌, ◌≈◌}

pub same_sym : (x y : Fraction) → x ≈ y → y ≈ x
same_sym x y h = sym h

pub same_trans : (x y z : Fraction) → Proper y → x ≈ y → y ≈ z → x ≈ z
same_trans x y z proper h k =
    eq_of_mul-eq-mul_right y.den proper (x.num * z.den) (z.num * x.den) (omega (arith, ap (λ n. n * z.den) h, ap (λ n. n * x.den) k))

pub same_add : (x x' y y' : Fraction) → x ≈ x' → y ≈ y' → x ⊕ y ≈ x' ⊕ y'
same_add x x' y y' h k =
    omega (arith, ap (λ n. n * (y.den * y'.den)) h, ap (λ n. n * (x.den * x'.den)) k)

pub same_mul : (x x' y y' : Fraction) → x ≈ x' → y ≈ y' → x ⊗ y ≈ x' ⊗ y'
same_mul x x' y y' h k = omega (arith, ap (λ n. n * (y.num * y'.den)) h, ap (λ n. (x'.num * x.den) * n) k)

-- Denominators stay above 0.
pub proper_add : (x y : Fraction) → Proper x → Proper y → Proper (x ⊕ y)
proper_add x y h k = mul-pos h k

pub proper_mul : (x y : Fraction) → Proper x → Proper y → Proper (x ⊗ y)
proper_mul x y h k = mul-pos h k
