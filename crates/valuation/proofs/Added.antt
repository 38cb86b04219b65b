-- A loop that adds up a sum's terms from the first on. Assumes nothing.
use Rattle.std.proofs.Common.{◌≡◌, ℕ, zero, suc, ◌+◌, ◌-◌, ◌*◌, ◌<◌, ◌≤◌, refl, ap, ◌∙◌, mul-le-mul_right, mul-pos, arith}
use Rattle.std.proofs.Math.Nat.{div-le_of_le-mul}
use Rattle.valuation.specs.Fixed.{scale, fixed, product}
use Rattle.valuation.specs.Rates.{added}

pub added_none : (k : ℕ) (g : ℕ → ℕ) → added 0 k g ≡ 0
unfolding added
added_none k g = refl

-- what is left begins with the next term
pub added_more : (t m : ℕ) (g : ℕ → ℕ) → m < t → added (t - m) m g ≡ g m + added (t - (m + 1)) (m + 1) g
unfolding added
added_more t m g l =
    let left : t - m ≡ suc (t - (m + 1)) = omega arith in
    let next : suc m ≡ m + 1 = omega arith in
    ap (λ n. added n m g) left ∙ ap (λ k. g m + added (t - (m + 1)) k g) next

pub added_bound : (n k b : ℕ) (g : ℕ → ℕ) → ((m : ℕ) → k ≤ m → m < k + n → g m ≤ b) → added n k g ≤ n * b
unfolding added
added_bound zero k b g h = omega arith
added_bound (suc n) k b g h = omega (arith, h k (omega arith) (omega arith), added_bound n (suc k) b g (λ m low high. h m (omega arith) (omega arith)))

-- the two parts of a year's instalment are at most the whole
pub whole_some : (interest t m : ℕ) → 0 < t → 0 < t * (10000 * t + m * interest)
whole_some interest t m h = mul-pos h (omega arith)

pub loss_small : (interest t m : ℕ) → 0 < t → m < t → m * (10000 + interest) ≤ t * (10000 * t + m * interest)
loss_small interest t m h l = omega (arith, mul-le-mul_right (10000 * t) h, mul-le-mul_right (m * interest) h)

pub kept_small : (interest t m : ℕ) → 0 < t → 10000 * (t - m) ≤ t * (10000 * t + m * interest)
kept_small interest t m h = omega (arith, mul-le-mul_right (10000 * t) h)

pub fixed_small : (n d : ℕ) → n ≤ d → fixed n d ≤ scale
fixed_small n d h = div-le_of_le-mul d (mul-le-mul_right scale h)

-- a loop's sum so far, one term on, and within the whole
pub added_step : (t m sum term : ℕ) (g : ℕ → ℕ) → m < t → term ≡ g m → sum + added (t - m) m g ≡ added t 0 g → (sum + term) + added (t - (m + 1)) (m + 1) g ≡ added t 0 g
added_step t m sum term g l same inv = omega (arith, same, inv, added_more t m g l)

pub added_end : (t m sum : ℕ) (g : ℕ → ℕ) → t ≤ m → sum + added (t - m) m g ≡ added t 0 g → sum ≡ added t 0 g
added_end t m sum g l inv = let none : t - m ≡ 0 = omega arith in omega (arith, inv, ap (λ n. added n m g) none, added_none m g)

pub added_fits : (t m sum term : ℕ) (g : ℕ → ℕ) → t ≤ 12 → m < t → term ≡ g m → ((k : ℕ) → k < t → g k ≤ scale) → sum + added (t - m) m g ≡ added t 0 g → sum + term ≤ 12 * scale
added_fits t m sum term g few l same small inv =
    omega (arith, same, inv, added_more t m g l, added_bound t 0 scale g (λ k low high. small k (omega arith)), mul-le-mul_right scale few)

-- equal factors, equal products
pub same_product : (n a b c d e : ℕ) → n ≡ product a b → a ≡ c → b ≡ d → product c d ≡ e → n ≡ e
same_product n a b c d e en ea eb ee = en ∙ ap (λ x. product x b) ea ∙ ap (product c) eb ∙ ee
