-- What a fixed-point number that is computed from others stands for. Assumes nothing.
use Rattle.std.proofs.Common.{ℕ, ◌+◌, ◌*◌, ◌<◌, ◌≤◌, ap, mul-le-mul_right, mul-le-mul, mul-le-mul_left, div-mul-le_self, le_of_mul-le-mul_right, arith}
use Rattle.std.proofs.Math.Nat.{lt-div-mul-add}
use Rattle.valuation.specs.Fraction.{Fraction, Proper, ratio, ◌⊕◌, ◌⊗◌, ◌≈◌}
use Rattle.valuation.specs.Fixed.{scale, fixed, product, Stands}

-- a greater allowance will do
pub stands_wider : (n : ℕ) (x : Fraction) (e e' : ℕ) → e ≤ e' → Stands n x e → Stands n x e'
stands_wider n x e e' h s = record { low = s.low; high = omega (arith, s.high, mul-le-mul_right x.den h) }

-- a quotient
pub stands_fixed : (n d : ℕ) → 0 < d → Stands (fixed n d) (ratio n d) 1
stands_fixed n d h = record {
  low = div-mul-le_self (n * scale) d;
  high = omega (arith, lt-div-mul-add {a = n * scale} {b = d} h);
}

-- a sum
pub stands_sum : (a b : ℕ) (x y : Fraction) (e f : ℕ) → Stands a x e → Stands b y f → Stands (a + b) (x ⊕ y) (e + f)
stands_sum a b x y e f s t = record {
  low = omega (arith, mul-le-mul_right y.den s.low, mul-le-mul_right x.den t.low);
  high = omega (arith, mul-le-mul_right y.den s.high, mul-le-mul_right x.den t.high);
}

-- equal fractions
pub stands_same : (n : ℕ) (x y : Fraction) (e : ℕ) → Proper x → x ≈ y → Stands n x e → Stands n y e
stands_same n x y e proper same s = record {
  low = le_of_mul-le-mul_right {k = x.den} (omega (arith, mul-le-mul_right y.den s.low, ap (λ m. m * scale) same)) proper;
  high = le_of_mul-le-mul_right {k = x.den} (omega (arith, mul-le-mul_right y.den s.high, ap (λ m. m * scale) same)) proper;
}

-- the upper bound of a product, over the numbers
product_high : (xn xd yn yd a b e f β m : ℕ) → xn ≤ xd → b ≤ β * scale → xn * scale ≤ (a + e) * xd → yn * scale ≤ (b + f) * yd → a * b ≤ m * scale + scale
    → xn * yn * scale * scale ≤ (m + (1 + e * β + f)) * (xd * yd) * scale
product_high xn xd yn yd a b e f β m small bound hx hy above =
    let first : xn * yn * scale * scale ≤ (xn * scale) * (b * yd) + xn * (f * yd * scale) = omega (arith, mul-le-mul_left (xn * scale) hy) in
    let second : (xn * scale) * (b * yd) ≤ (a * b) * (xd * yd) + (e * b) * (xd * yd) = omega (arith, mul-le-mul_right (b * yd) hx) in
    let third : xn * (f * yd * scale) ≤ xd * (f * yd * scale) = mul-le-mul_right (f * yd * scale) small in
    let fourth : (a * b) * (xd * yd) ≤ (m * scale + scale) * (xd * yd) = mul-le-mul_right (xd * yd) above in
    let fifth : (e * b) * (xd * yd) ≤ (e * (β * scale)) * (xd * yd) = mul-le-mul_right (xd * yd) (mul-le-mul_left e bound) in
    omega arith

-- a product, where the first fraction is at most 1 and the second number at most β
pub stands_product : (a b : ℕ) (x y : Fraction) (e f β : ℕ) → x.num ≤ x.den → b ≤ β * scale → Stands a x e → Stands b y f → Stands (product a b) (x ⊗ y) (1 + e * β + f)
stands_product a b x y e f β small bound s t =
    let m = product a b in
    let below : m * scale ≤ a * b = div-mul-le_self (a * b) scale in
    let above : a * b ≤ m * scale + scale = omega (arith, lt-div-mul-add {a = a * b} {b = scale} (omega arith)) in
    record {
      low = le_of_mul-le-mul_right {k = scale} (omega (arith, mul-le-mul s.low t.low, mul-le-mul_right (x.den * y.den) below)) (omega arith);
      high = le_of_mul-le-mul_right {k = scale} (product_high x.num x.den y.num y.den a b e f β m small bound s.high t.high above) (omega arith);
    }
