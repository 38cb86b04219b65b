-- What the numbers of the terms and of one figure stand for. Assumes nothing.
use Rattle.std.proofs.Common.{◌≡◌, ℕ, zero, suc, ◌+◌, ◌-◌, ◌*◌, ◌<◌, ◌≤◌, refl, ap, mul-le-mul, mul-le-mul_left, mul-pos, one-mul, mul-one, le_of_mul-le-mul_right, arith}
use Rattle.std.proofs.Math.Nat.{eq_of_mul-eq-mul_left}
use Rattle.valuation.specs.Fraction.{Fraction, Proper, ratio, whole, one, ◌⊕◌, ◌⊖◌, ◌⊗◌, ◌⊘◌, ◌≈◌}
use Rattle.valuation.specs.Sum.{total}
use Rattle.valuation.specs.Terms.{discount, loss, yearly}
use Rattle.valuation.specs.Exact.{paid}
use Rattle.valuation.specs.Fixed.{scale, fixed, product, Stands}
use Rattle.valuation.specs.Rates.{added, discount_number, part_den, loss_number, kept_number, paid_number}
use Rattle.valuation.proofs.Fractions.{same_sym, same_add, same_trans, proper_add, proper_mul}
use Rattle.valuation.proofs.Levels.{stands_small}
use Rattle.valuation.proofs.Enclosures.{stands_fixed, stands_sum, stands_same, stands_wider, stands_product}

-- a sum of quotients
stands_added : (n k : ℕ) (num den : ℕ → ℕ) → ((m : ℕ) → 0 < den m) → Stands (added n k (λ m. fixed (num m) (den m))) (total n k (λ m. ratio (num m) (den m))) n
unfolding added total
stands_added zero k num den h = record { low = omega arith; high = omega arith }
stands_added (suc n) k num den h =
    stands_wider _ _ (1 + n) (suc n) (omega arith)
    (stands_sum (fixed (num k) (den k)) (added n (suc k) (λ m. fixed (num m) (den m))) (ratio (num k) (den k)) (total n (suc k) (λ m. ratio (num m) (den m))) 1 n
    (stands_fixed (num k) (den k) (h k)) (stands_added n (suc k) num den h))

pub proper_total : (n k : ℕ) (g : ℕ → Fraction) → ((m : ℕ) → Proper (g m)) → Proper (total n k g)
unfolding total
proper_total zero k g h = omega arith
proper_total (suc n) k g h = proper_add (g k) (total n (suc k) g) (h k) (proper_total n (suc k) g h)

-- a factor before a sum is a factor of each term
scaled : (cn cd fn fd Fn Fd gn gd Gn Gd : ℕ) → (cn * fn) * gd ≡ gn * (cd * fd) → (cn * Fn) * Gd ≡ Gn * (cd * Fd) → (cn * (fn * Fd + Fn * fd)) * (gd * Gd) ≡ (gn * Gd + Gn * gd) * (cd * (fd * Fd))
scaled cn cd fn fd Fn Fd gn gd Gn Gd h k = omega (arith, ap (λ n. n * (Fd * Gd)) h, ap (λ n. n * (fd * gd)) k)

scaled_total : (c : Fraction) (f g : ℕ → Fraction) → ((m : ℕ) → c ⊗ f m ≈ g m) → (n k : ℕ) → c ⊗ total n k f ≈ total n k g
unfolding total
scaled_total c f g h zero k = omega arith
scaled_total c f g h (suc n) k =
    let F = total n (suc k) f in
    let G = total n (suc k) g in
    scaled c.num c.den (f k).num (f k).den F.num F.den (g k).num (g k).den G.num G.den (h k) (scaled_total c f g h n (suc k))

-- two sums whose terms add up to 1/t
paired : (an ad bn bd An Ad Bn Bd n t : ℕ) → (an * bd + bn * ad) * t ≡ 1 * (ad * bd) → (An * Bd + Bn * Ad) * t ≡ n * (Ad * Bd)
    → ((an * Ad + An * ad) * (bd * Bd) + (bn * Bd + Bn * bd) * (ad * Ad)) * t ≡ suc n * ((ad * Ad) * (bd * Bd))
paired an ad bn bd An Ad Bn Bd n t h k =
    let first : (an * bd + bn * ad) * t * (Ad * Bd) ≡ (ad * bd) * (Ad * Bd) = omega (arith, ap (λ m. m * (Ad * Bd)) h) in
    let later : (An * Bd + Bn * Ad) * t * (ad * bd) ≡ n * (Ad * Bd) * (ad * bd) = omega (arith, ap (λ m. m * (ad * bd)) k) in
    omega arith

paired_total : (t : ℕ) (a b : ℕ → Fraction) → ((m : ℕ) → m < t → a m ⊕ b m ≈ ratio 1 t) → (n k : ℕ) → k + n ≤ t → total n k a ⊕ total n k b ≈ ratio n t
unfolding total
paired_total t a b h zero k l = omega arith
paired_total t a b h (suc n) k l =
    let A = total n (suc k) a in
    let B = total n (suc k) b in
    paired (a k).num (a k).den (b k).num (b k).den A.num A.den B.num B.den n t (h k (omega arith)) (paired_total t a b h n (suc k) (omega arith))

-- the parts of K and of 1 − K
abbrev loss_part : ℕ → ℕ → ℕ → Fraction
loss_part interest t m = ratio (m * (10000 + interest)) (part_den interest t m)

abbrev kept_part : ℕ → ℕ → ℕ → Fraction
kept_part interest t m = ratio (10000 * (t - m)) (part_den interest t m)

parts : (interest t m : ℕ) → m < t → loss_part interest t m ⊕ kept_part interest t m ≈ ratio 1 t
parts interest t m l =
    let d = t * (10000 * t + m * interest) in
    let s : m * (10000 + interest) + 10000 * (t - m) ≡ 10000 * t + m * interest = omega arith in
    omega (arith, ap (λ n. n * (d * t)) s)

loss_part_is : (interest t m : ℕ) → ((one ⊕ yearly interest) ⊘ whole t) ⊗ (whole m ⊘ (whole t ⊕ (whole m ⊗ yearly interest))) ≈ loss_part interest t m
loss_part_is interest t m = omega arith

part_proper : (interest t m : ℕ) → 0 < t → 0 < part_den interest t m
part_proper interest t m h = mul-pos h (omega arith)

abbrev pub lost : ℕ → ℕ → Fraction
lost interest t = total t 0 (loss_part interest t)

abbrev pub kept : ℕ → ℕ → Fraction
kept interest t = total t 0 (kept_part interest t)

pub loss_is : (interest t : ℕ) → loss interest t ≈ lost interest t
loss_is interest t = scaled_total ((one ⊕ yearly interest) ⊘ whole t) (λ m. whole m ⊘ (whole t ⊕ (whole m ⊗ yearly interest))) (loss_part interest t) (loss_part_is interest t) t 0

lost_proper : (interest t : ℕ) → 0 < t → Proper (lost interest t)
lost_proper interest t h = proper_total t 0 (loss_part interest t) (λ m. part_proper interest t m h)

kept_proper : (interest t : ℕ) → 0 < t → Proper (kept interest t)
kept_proper interest t h = proper_total t 0 (kept_part interest t) (λ m. part_proper interest t m h)

pub stands_loss : (interest t : ℕ) → 0 < t → Stands (loss_number interest t) (loss interest t) t
stands_loss interest t h =
    stands_same (loss_number interest t) (lost interest t) (loss interest t) t (lost_proper interest t h) (same_sym (loss interest t) (lost interest t) (loss_is interest t))
    (stands_added t 0 (λ m. m * (10000 + interest)) (part_den interest t) (λ m. part_proper interest t m h))

pub stands_kept : (interest t : ℕ) → 0 < t → Stands (kept_number interest t) (kept interest t) t
stands_kept interest t h = stands_added t 0 (λ m. 10000 * (t - m)) (part_den interest t) (λ m. part_proper interest t m h)

-- K and 1 − K are 1
pub lost_kept : (interest t : ℕ) → 0 < t → loss interest t ⊕ kept interest t ≈ one
lost_kept interest t h =
    let whole-year : lost interest t ⊕ kept interest t ≈ ratio t t = paired_total t (loss_part interest t) (kept_part interest t) (parts interest t) t 0 (omega arith) in
    let one-year : lost interest t ⊕ kept interest t ≈ one =
    eq_of_mul-eq-mul_left t h ((lost interest t ⊕ kept interest t).num * 1) (1 * (lost interest t ⊕ kept interest t).den) (omega (arith, whole-year)) in
    same_trans (loss interest t ⊕ kept interest t) (lost interest t ⊕ kept interest t) one (proper_add (lost interest t) (kept interest t) (lost_proper interest t h) (kept_proper interest t h))
    (same_add (loss interest t) (lost interest t) (kept interest t) (kept interest t) (loss_is interest t) refl) one-year

-- 1 − K·(1 − s) is (1 − K) + K·s, over the numbers
paid_numbers : (kn kd rn rd sn sd : ℕ) → 0 < rd → kn * rd + rn * kd ≡ kd * rd → sn ≤ sd
    → (1 * (kd * (1 * sd)) - (kn * (1 * sd - sn * 1)) * 1) * (rd * (kd * sd)) ≡ (rn * (kd * sd) + (kn * sn) * rd) * (1 * (kd * (1 * sd)))
paid_numbers kn kd rn rd sn sd proper year small =
    let u = sd - sn in
    let parted : u + sn ≡ sd = omega arith in
    let part : kn ≤ kd = le_of_mul-le-mul_right {k = rd} (omega arith) proper in
    let fits : kn * u ≤ kd * sd = mul-le-mul part (omega arith) in
    let w = kd * sd - kn * u in
    let rest : w + kn * u ≡ kd * sd = omega arith in
    let q = rd * (kd * sd) in
    let goal : w * q ≡ (rn * (kd * sd) + (kn * sn) * rd) * (kd * sd) =
    omega (arith, ap (λ n. n * q) rest, ap (λ n. n * (sd * (kd * sd))) year, ap (λ n. n * (kn * rd * (kd * sd))) parted) in
    simp (one-mul, mul-one) goal

-- T: a sum of 1 − K and K times the discounted chance s
paid_is : (K R s : Fraction) → Proper R → K ⊕ R ≈ one → s.num ≤ s.den → one ⊖ (K ⊗ (one ⊖ s)) ≈ R ⊕ (K ⊗ s)
paid_is K R s proper year small = paid_numbers K.num K.den R.num R.den s.num s.den proper (simp (one-mul, mul-one) at year) small

at_most_one : (K R : Fraction) → Proper R → K ⊕ R ≈ one → K.num ≤ K.den
at_most_one K R proper year = le_of_mul-le-mul_right {k = R.den} (omega (arith, simp (one-mul, mul-one) at year)) proper

other_at_most_one : (K R : Fraction) → Proper K → K ⊕ R ≈ one → R.num ≤ R.den
other_at_most_one K R proper year = le_of_mul-le-mul_right {k = K.den} (omega (arith, simp (one-mul, mul-one) at year)) proper

pub loss_proper : (interest t : ℕ) → 0 < t → Proper (loss interest t)
loss_proper interest t h =
    mul-pos (mul-pos (omega arith) h) (proper_total t 0 (λ m. whole m ⊘ (whole t ⊕ (whole m ⊗ yearly interest))) (λ m. omega (arith, mul-le-mul_left 10000 h)))

-- the discounted chance s of a year is at most 1, and its number too
pub stands_paid : (interest t : ℕ) (p : Fraction) (n : ℕ) → 0 < t → t ≤ 12 → Proper p → p.num ≤ p.den → n ≤ scale → Stands n (discount interest ⊗ p) 3
    → Stands (paid_number (kept_number interest t) (loss_number interest t) n) (paid interest t p) 32
stands_paid interest t p n h few proper small bound s =
    let K = loss interest t in
    let R = kept interest t in
    let d = discount interest ⊗ p in
    let d_small : d.num ≤ d.den = mul-le-mul (omega arith) small in
    let year = lost_kept interest t h in
    let R-proper = kept_proper interest t h in
    let K-small = at_most_one K R R-proper year in
    let sum-proper = proper_add R (K ⊗ d) R-proper (proper_mul K d (loss_proper interest t h) (proper_mul (discount interest) p (omega arith) proper)) in
    let e = t + (1 + t * 1 + 3) in
    stands_wider (paid_number (kept_number interest t) (loss_number interest t) n) (paid interest t p) e 32 (omega arith)
    (stands_same (paid_number (kept_number interest t) (loss_number interest t) n) (R ⊕ (K ⊗ d)) (paid interest t p) e sum-proper (same_sym (paid interest t p) (R ⊕ (K ⊗ d)) (paid_is K R d R-proper year d_small))
    (stands_sum (kept_number interest t) (product (loss_number interest t) n) R (K ⊗ d) t (1 + t * 1 + 3) (stands_kept interest t h)
    (stands_product (loss_number interest t) n K d t 3 1 K-small (omega arith) (stands_loss interest t h) s)))

-- the discounted chance to live: v·p
pub stands_discounted : (interest : ℕ) (p : Fraction) (n : ℕ) → p.num ≤ p.den → n ≤ scale → Stands n p 1 → Stands (product (discount_number interest) n) (discount interest ⊗ p) 3
stands_discounted interest p n small bound s =
    stands_product (discount_number interest) n (discount interest) p 1 1 1 (omega arith) (omega arith) (stands_fixed 10000 (10000 + interest) (omega arith)) s

-- the numbers of K and of 1 − K are at most the scale
pub loss_below : (interest t : ℕ) → 0 < t → loss_number interest t ≤ scale
loss_below interest t h =
    stands_small (loss_number interest t) (loss interest t) t (loss_proper interest t h) (at_most_one (loss interest t) (kept interest t) (kept_proper interest t h) (lost_kept interest t h)) (stands_loss interest t h)

pub kept_below : (interest t : ℕ) → 0 < t → kept_number interest t ≤ scale
kept_below interest t h =
    let small = other_at_most_one (loss interest t) (kept interest t) (loss_proper interest t h) (lost_kept interest t h) in
    stands_small (kept_number interest t) (kept interest t) t (kept_proper interest t h) small (stands_kept interest t h)
