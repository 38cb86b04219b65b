-- The backward sum in fixed-point numbers encloses the backward sum in fractions. Assumes nothing.
use Rattle.std.proofs.Common.{◌≡◌, ℕ, zero, suc, ◌+◌, ◌*◌, ◌≤◌, sym, ap, mul-le-mul_right, mul-le-mul, mul-le-mul_left, one-mul, div-mul-le_self, le_of_mul-le-mul_right, arith}
use Rattle.std.proofs.Math.Nat.{lt-div-mul-add}
use Rattle.valuation.specs.Fraction.{Fraction, Proper, whole, ◌⊗◌}
use Rattle.valuation.specs.Fixed.{scale, product, Stands}
use Rattle.valuation.specs.Pair.{running, slack}
use Rattle.valuation.proofs.Fractions.{proper_add, proper_mul}
use Rattle.valuation.proofs.Backward.{remaining}

-- the weights from year k on
unfoldable pub weighed : (ℕ → ℕ) → ℕ → ℕ → ℕ
weighed w zero k = 0
weighed w (suc n) k = w k + weighed w n (suc k)

-- a year of the path: the discounted survival and the share in numbers, for the fractions that they stand for
pub record Year (survival share : ℕ) (v p L : Fraction) (e : ℕ) : Type 0 where
  pub lives : Stands survival (v ⊗ p) 3
  pub small : (v ⊗ p).num ≤ (v ⊗ p).den
  pub below : survival ≤ scale
  pub shares : Stands share L e
  pub modest : share ≤ 250 * scale

-- no number grows past 250 times the weights
pub running_bound : (s l w : ℕ → ℕ) → ((k : ℕ) → s k ≤ scale) → ((k : ℕ) → l k ≤ 250 * scale) → (n k : ℕ) → running s l w n k ≤ 250 * weighed w n k
unfolding running weighed
running_bound s l w hs hl zero k = omega arith
running_bound s l w hs hl (suc n) k =
    let r = running s l w n (suc k) in
    let first : product (w k) (l k) ≤ 250 * w k = product_bound (w k) (l k) (hl k) in
    let second : product (s k) r ≤ r = product_shrinks (s k) r (hs k) in
    omega (arith, running_bound s l w hs hl n (suc k))
  where
    product_bound : (a b : ℕ) → b ≤ 250 * scale → product a b ≤ 250 * a
    product_bound a b h = le_of_mul-le-mul_right {k = scale} (omega (arith, div-mul-le_self (a * b) scale, mul-le-mul_left a h)) (omega arith)

    product_shrinks : (a b : ℕ) → a ≤ scale → product a b ≤ b
    product_shrinks a b h = le_of_mul-le-mul_right {k = scale} (omega (arith, div-mul-le_self (a * b) scale, mul-le-mul_right b h)) (omega arith)

-- one year more of the lower bound: wn and ln/ld are the amount in units and the share, vn/vd the survival, xn/xd what is left
low_year : (w share s r m q ln ld vn vd xn xd c : ℕ) → m * scale ≤ w * share → q * scale ≤ s * r → share * ld ≤ ln * scale → s * vd ≤ vn * scale → r * xd ≤ xn * c
    → (m + q) * (1 * ld * (vd * xd)) ≤ (w * ln) * (vd * xd) + (vn * xn * c) * ld
low_year w share s r m q ln ld vn vd xn xd c hm hq hl hv hx =
    let one-year : m * ld ≤ w * ln = le_of_mul-le-mul_right {k = scale} (omega (arith, mul-le-mul_right ld hm, mul-le-mul_left w hl)) (omega arith) in
    let later : q * (vd * xd) ≤ vn * xn * c = le_of_mul-le-mul_right {k = scale} (omega (arith, mul-le-mul_right (vd * xd) hq, mul-le-mul hv hx)) (omega arith) in
    omega (arith, mul-le-mul_right (vd * xd) one-year, mul-le-mul_right ld later)

-- the same of the upper bound: d is the error of what is left, in parts of the scale
high_year : (w share s r m q e ln ld vn vd xn xd c d : ℕ) → w * share ≤ m * scale + scale → s * r ≤ q * scale + scale → ln * scale ≤ (share + e) * ld → vn * scale ≤ (s + 3) * vd → vn ≤ vd → xn * c * scale ≤ (r * scale + d) * xd
    → (w * ln) * scale * (vd * xd) + (vn * xn * c) * scale * ld ≤ ((m + q) * scale + 2 * scale + w * e + 3 * r + d) * (ld * (vd * xd))
high_year w share s r m q e ln ld vn vd xn xd c d hm hq hl hv small hx =
    let one-year : (w * ln) * scale ≤ (m * scale + scale + w * e) * ld = omega (arith, mul-le-mul_left w hl, mul-le-mul_right ld hm) in
    let left : vn * xn * c * scale ≤ (vn * scale) * (r * xd) + vn * (d * xd) = omega (arith, mul-le-mul_left vn hx) in
    let lived : (vn * scale) * (r * xd) ≤ (s * r + 3 * r) * (vd * xd) = omega (arith, mul-le-mul_right (r * xd) hv) in
    let rounded : (s * r) * (vd * xd) ≤ (q * scale + scale) * (vd * xd) = mul-le-mul_right (vd * xd) hq in
    let kept : vn * (d * xd) ≤ vd * (d * xd) = mul-le-mul_right (d * xd) small in
    let later : vn * xn * c * scale ≤ (q * scale + scale + 3 * r + d) * (vd * xd) = omega arith in
    omega (arith, mul-le-mul_right (vd * xd) one-year, mul-le-mul_right ld later)

floor_low : (a b : ℕ) → product a b * scale ≤ a * b
floor_low a b = div-mul-le_self (a * b) scale

floor_high : (a b : ℕ) → a * b ≤ product a b * scale + scale
floor_high a b = omega (arith, lt-div-mul-add {a = a * b} {b = scale} (omega arith))

close : (g t a b den den' : ℕ) → g ≡ t → den ≡ den' → t ≤ a * den → a ≤ b → g ≤ b * den'
close g t a b den den' eg ed h room = rw (eg, ← ed) (omega (arith, mul-le-mul_right den room))

same_num : (r ln d y ld c : ℕ) → ((r * ln) * d + y * (1 * ld)) * c * scale ≡ (r * c * ln) * scale * d + (y * c) * scale * ld
same_num r ln d y ld c = omega arith

module _ (s l : ℕ → ℕ) (v : Fraction) (p L : ℕ → Fraction) (amount : ℕ → ℕ) (c e : ℕ) (year : (k : ℕ) → Year (s k) (l k) v (p k) (L k) e) where
  abbrev w : ℕ → ℕ
  w k = amount k * c

  pub running_low : (n k : ℕ) → running s l w n k * (remaining v p L amount n k).den ≤ (remaining v p L amount n k).num * c
  unfolding running remaining
  running_low zero k = omega arith
  running_low (suc n) k =
      let x = remaining v p L amount n (suc k) in
      let r = running s l w n (suc k) in
      omega (
        arith,
        low_year (w k) (l k) (s k) r (product (w k) (l k)) (product (s k) r) (L k).num (L k).den (v ⊗ p k).num (v ⊗ p k).den x.num x.den c
            (floor_low (w k) (l k)) (floor_low (s k) r) (year k).shares.low (year k).lives.low (running_low n (suc k)),
      )

  running_high : (n k : ℕ) → (remaining v p L amount n k).num * c * scale ≤ (running s l w n k * scale + (weighed w n k * (e + 750 * n) + 2 * n * scale)) * (remaining v p L amount n k).den
  unfolding running remaining weighed
  running_high zero k = omega arith
  running_high (suc n) k =
      let x = remaining v p L amount n (suc k) in
      let r = running s l w n (suc k) in
      let d = weighed w n (suc k) * (e + 750 * n) + 2 * n * scale in
      let m = product (w k) (l k) in
      let q = product (s k) r in
      let den = (L k).den * ((v ⊗ p k).den * x.den) in
      let step = high_year (w k) (l k) (s k) r m q e (L k).num (L k).den (v ⊗ p k).num (v ⊗ p k).den x.num x.den c d
      (floor_high (w k) (l k)) (floor_high (s k) r) (year k).shares.high (year k).lives.high (year k).small (running_high n (suc k)) in
      let room : (m + q) * scale + 2 * scale + w k * e + 3 * r + d ≤ (m + q) * scale + ((w k + weighed w n (suc k)) * (e + 750 * suc n) + 2 * suc n * scale) =
      omega (arith, running_bound s l w (λ j. (year j).below) (λ j. (year j).modest) n (suc k)) in
      let whole-num : ((amount k * (L k).num) * ((v ⊗ p k).den * x.den) + ((v ⊗ p k).num * x.num) * (1 * (L k).den)) * c * scale
      ≡ (w k * (L k).num) * scale * ((v ⊗ p k).den * x.den) + ((v ⊗ p k).num * x.num * c) * scale * (L k).den =
      same_num (amount k) (L k).num ((v ⊗ p k).den * x.den) ((v ⊗ p k).num * x.num) (L k).den c in
      let whole-den : den ≡ (1 * (L k).den) * ((v ⊗ p k).den * x.den) = ap (λ n. n * ((v ⊗ p k).den * x.den)) (sym (one-mul (L k).den)) in
      close _ _ _ _ den _ whole-num whole-den step room

-- the slack covers that error
slack_covers : (w : ℕ → ℕ) (n k : ℕ) → weighed w n k * 8388608 + 3 * n * scale ≤ slack w n k * scale
unfolding weighed slack
slack_covers w zero k = omega arith
slack_covers w (suc n) k = omega (arith, slack_covers w n (suc k), lt-div-mul-add {a = w k * 8388608} {b = scale} (omega arith))

covered : (xc r w e n sl d : ℕ) → xc * scale ≤ (r * scale + (w * e + 2 * n * scale)) * d → e ≤ 8388608 → w * 8388608 + 3 * n * scale ≤ sl * scale → xc ≤ (r + sl) * d
covered xc r w e n sl d h few cover =
    let room : r * scale + (w * e + 2 * n * scale) ≤ (r + sl) * scale = omega (arith, mul-le-mul_left w few) in
    le_of_mul-le-mul_right {k = scale} (omega (arith, mul-le-mul_right d room)) (omega arith)

module _ (s l : ℕ → ℕ) (v : Fraction) (p L : ℕ → Fraction) (amount : ℕ → ℕ) (c e : ℕ) (year : (k : ℕ) → Year (s k) (l k) v (p k) (L k) e) where
  pub running_encloses : (n k : ℕ) → e + 750 * n ≤ 8388608
      → (remaining v p L amount n k).num * c ≤ (running s l (λ j. amount j * c) n k + slack (λ j. amount j * c) n k) * (remaining v p L amount n k).den
  running_encloses n k few =
      covered ((remaining v p L amount n k).num * c) (running s l (λ j. amount j * c) n k) (weighed (λ j. amount j * c) n k) (e + 750 * n) n (slack (λ j. amount j * c) n k) (remaining v p L amount n k).den
      (running_high s l v p L amount c e year n k) few (slack_covers (λ j. amount j * c) n k)

pub proper_remaining : (v : Fraction) (p L : ℕ → Fraction) (amount : ℕ → ℕ) → Proper v → ((k : ℕ) → Proper (p k)) → ((k : ℕ) → Proper (L k)) → (n k : ℕ) → Proper (remaining v p L amount n k)
unfolding remaining
proper_remaining v p L amount hv hp hl zero k = omega arith
proper_remaining v p L amount hv hp hl (suc n) k =
    proper_add (whole (amount k) ⊗ L k) ((v ⊗ p k) ⊗ remaining v p L amount n (suc k)) (proper_mul (whole (amount k)) (L k) (omega arith) (hl k))
    (proper_mul (v ⊗ p k) (remaining v p L amount n (suc k)) (proper_mul v (p k) hv (hp k)) (proper_remaining v p L amount hv hp hl n (suc k)))
