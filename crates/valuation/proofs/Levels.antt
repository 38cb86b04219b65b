-- The values of amount 1 a year: what their numbers stand for, and how large they grow. Assumes nothing.
use Rattle.std.proofs.Common.{◌≡◌, ℕ, zero, suc, ◌+◌, ◌*◌, ◌≤◌, sym, subst, mul-le-mul_right, mul-le-mul_left, one-mul, div-mul-le_self, le_of_mul-le-mul_right, arith}
use Rattle.std.proofs.Math.Nat.{mul-div_cancel_left}
use Rattle.valuation.specs.Fraction.{Fraction, Proper, whole, ◌⊗◌}
use Rattle.valuation.specs.Fixed.{scale, product, Stands}
use Rattle.valuation.specs.Pair.{running}
use Rattle.valuation.proofs.Enclosures.{stands_sum, stands_product, stands_wider}
use Rattle.valuation.proofs.Backward.{remaining}

-- a number that stands for at most 1 is at most the scale
pub stands_small : (n : ℕ) (x : Fraction) (e : ℕ) → Proper x → x.num ≤ x.den → Stands n x e → n ≤ scale
stands_small n x e proper small s = le_of_mul-le-mul_right {k = x.den} (omega (arith, s.low, mul-le-mul_right scale small)) proper

-- a product with a number of at most 1
pub shrinks : (a b : ℕ) → a ≤ scale → product a b ≤ b
shrinks a b h = le_of_mul-le-mul_right {k = scale} (omega (arith, div-mul-le_self (a * b) scale, mul-le-mul_right b h)) (omega arith)

-- two chances of one year, each with a number of at most c
pub shares_year : (a b x y c : ℕ) → a + b ≤ scale → x ≤ c → y ≤ c → product a x + product b y ≤ c
shares_year a b x y c h hx hy =
    le_of_mul-le-mul_right {k = scale} (omega (arith, div-mul-le_self (a * x) scale, div-mul-le_self (b * y) scale, mul-le-mul_left a hx, mul-le-mul_left b hy, mul-le-mul_right c h)) (omega arith)

whole_product : (b : ℕ) → product scale b ≡ b
whole_product b = mul-div_cancel_left b {n = scale} (omega arith)

stands_once : (n : ℕ) (x : Fraction) (e : ℕ) → Stands n x e → Stands n (whole 1 ⊗ x) e
stands_once n x e s = record { low = simp one-mul s.low; high = simp one-mul s.high }

-- one year adds the share's allowance, and 364 for the survival over numbers of at most 121
pub stands_running : (s l : ℕ → ℕ) (v : Fraction) (p L : ℕ → Fraction) (e : ℕ) → ((k : ℕ) → Stands (s k) (v ⊗ p k) 3) → ((k : ℕ) → (v ⊗ p k).num ≤ (v ⊗ p k).den) → ((k : ℕ) → Stands (l k) (L k) e)
    → ((n k : ℕ) → n ≤ 121 → running s l (λ _. scale) n k ≤ 121 * scale) → (n k : ℕ) → n ≤ 121 → Stands (running s l (λ _. scale) n k) (remaining v p L (λ _. 1) n k) (n * (e + 364))
unfolding running remaining
stands_running s l v p L e hs small hl bound zero k few = record { low = omega arith; high = omega arith }
stands_running s l v p L e hs small hl bound (suc n) k few =
    let r = running s l (λ _. scale) n (suc k) in
    let x = remaining v p L (λ _. 1) n (suc k) in
    let first : Stands (product scale (l k)) (whole 1 ⊗ L k) e = subst (λ m. Stands m (whole 1 ⊗ L k) e) (sym (whole_product (l k))) (stands_once (l k) (L k) e (hl k)) in
    let later = stands_product (s k) r (v ⊗ p k) x 3 (n * (e + 364)) 121 (small k) (bound n (suc k) (omega arith)) (hs k) (stands_running s l v p L e hs small hl bound n (suc k) (omega arith)) in
    stands_wider _ _ (e + (1 + 3 * 121 + n * (e + 364))) (suc n * (e + 364)) (omega arith)
    (stands_sum (product scale (l k)) (product (s k) r) (whole 1 ⊗ L k) ((v ⊗ p k) ⊗ x) e (1 + 3 * 121 + n * (e + 364)) first later)

-- with shares of at most 1 a sum of n years is at most n
pub running_ones : (s l : ℕ → ℕ) → ((k : ℕ) → s k ≤ scale) → ((k : ℕ) → l k ≤ scale) → (n k : ℕ) → running s l (λ _. scale) n k ≤ n * scale
unfolding running
running_ones s l hs hl zero k = omega arith
running_ones s l hs hl (suc n) k =
    let r = running s l (λ _. scale) n (suc k) in
    omega (arith, whole_product (l k), hl k, shrinks (s k) r (hs k), running_ones s l hs hl n (suc k))

-- with the share of an exit, whose chance and the survival are at most 1 together, it is at most what the exit leaves
pub running_exits : (s a u : ℕ → ℕ) → ((k : ℕ) → a k + s k ≤ scale) → ((k : ℕ) → u k ≤ 121 * scale) → (n k : ℕ) → running s (λ j. product (a j) (u j)) (λ _. scale) n k ≤ 121 * scale
unfolding running
running_exits s a u hs hu zero k = omega arith
running_exits s a u hs hu (suc n) k =
    let r = running s (λ j. product (a j) (u j)) (λ _. scale) n (suc k) in
    omega (arith, whole_product (product (a k) (u k)), shares_year (a k) (s k) (u k) r (121 * scale) (hs k) (hu k) (running_exits s a u hs hu n (suc k)))
