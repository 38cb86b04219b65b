-- One year's numbers: chances, survivals and the half-year factor, and what they stand for. Assumes nothing.
use Rattle.std.proofs.Common.{◌≡◌, ℕ, ◌+◌, ◌-◌, ◌*◌, ◌<◌, ◌≤◌, Bool, true, false, eqb, sym, refl, subst, mul-le-mul_right, one-mul, mul-one, div-mul-le_self, le_of_mul-le-mul_right, arith}
use Rattle.std.proofs.lemmas.Bool.{eqb-true}
use Rattle.valuation.specs.Fraction.{Fraction, Proper, ratio, nought, one, ◌⊖◌, ◌⊗◌, ◌⊘◌, ◌≈◌}
use Rattle.valuation.specs.Exact.{half}
use Rattle.valuation.specs.Fixed.{scale, fixed, product, Stands}
use Rattle.valuation.specs.Pair.{half_number, sooner_number}
use Rattle.valuation.proofs.Enclosures.{stands_fixed, stands_same}
use Rattle.valuation.proofs.Levels.{shrinks}

abbrev part : ℕ → Fraction
part q = ratio q 1000000

-- 1 − q
pub stands_opposite : (q : ℕ) → Stands (fixed (1000000 - q) 1000000) (one ⊖ part q) 1
stands_opposite q = subst (λ n. Stands (fixed (1000000 - q) 1000000) (ratio (1000000 - n) 1000000) 1) (sym (mul-one q)) (stands_fixed (1000000 - q) 1000000 (omega arith))

-- 1 − q − r
pub stands_opposites : (q r : ℕ) → Stands (fixed (1000000 - q - r) 1000000) (one ⊖ part q ⊖ part r) 1
stands_opposites q r =
    let s = stands_fixed (1000000 - q - r) 1000000 (omega arith) in
    stands_same (fixed (1000000 - q - r) 1000000) (ratio (1000000 - q - r) 1000000) (one ⊖ part q ⊖ part r) 1 (omega arith) (omega arith) s

-- half, where q is not certain
open_half : ℕ → Fraction
open_half q = (one ⊖ part q) ⊘ (one ⊖ (part q ⊗ ratio 1 2))

open_half_is : (q : ℕ) → q ≤ 1000000 → open_half q ≈ ratio (2 * (1000000 - q)) (2000000 - q)
unfolding open_half
open_half_is q h = let g : ((1000000 - q) * 2000000) * (2000000 - q) ≡ (2 * (1000000 - q)) * (1000000 * (2000000 - q)) = omega arith in simp mul-one g

pub half_stands : (q : ℕ) → q ≤ 1000000 → Stands (half_number q) (half (part q)) 1
unfolding open_half
half_stands q h =
    elim (eqb q 1000000) as (λ t. Stands (elim t as (λ _. ℕ) [ true ↦ 0 | false ↦ fixed (2 * (1000000 - q)) (2000000 - q) ]) (elim t as (λ _. Fraction) [ true ↦ nought | false ↦ open_half q ]) 1) [
      | true ↦ record { low = omega arith; high = omega arith }
      | false ↦ stands_same (fixed (2 * (1000000 - q)) (2000000 - q)) (ratio (2 * (1000000 - q)) (2000000 - q)) (open_half q) 1 (omega arith) (sym (open_half_is q h))
          (stands_fixed (2 * (1000000 - q)) (2000000 - q) (omega arith))
    ]

open_half_proper : (q : ℕ) → q ≤ 1000000 → Proper (open_half q)
unfolding open_half
open_half_proper q h = let g : 0 < 1000000 * (2000000 - q) = omega arith in simp mul-one g

open_half_small : (q : ℕ) → q ≤ 1000000 → (open_half q).num ≤ (open_half q).den
unfolding open_half
open_half_small q h = let g : (1000000 - q) * 2000000 ≤ 1000000 * (2000000 - q) = omega arith in simp mul-one g

pub half_proper : (q : ℕ) → q ≤ 1000000 → Proper (half (part q))
unfolding open_half
half_proper q h = elim (eqb q 1000000) as (λ t. Proper (elim t as (λ _. Fraction) [ true ↦ nought | false ↦ open_half q ])) [ true ↦ omega arith | false ↦ open_half_proper q h ]

pub half_small : (q : ℕ) → q ≤ 1000000 → (half (part q)).num ≤ (half (part q)).den
unfolding open_half
half_small q h =
    elim (eqb q 1000000) as (λ t. (elim t as (λ _. Fraction) [ true ↦ nought | false ↦ open_half q ]).num ≤ (elim t as (λ _. Fraction) [ true ↦ nought | false ↦ open_half q ]).den)
    [ true ↦ omega arith | false ↦ open_half_small q h ]

-- 1 − half
sooner_is : (q : ℕ) → q ≤ 1000000 → one ⊖ open_half q ≈ ratio q (2000000 - q)
unfolding open_half
sooner_is q h =
    let difference : 1000000 * (2000000 - q) - (1000000 - q) * 2000000 ≡ 1000000 * q = omega arith in
    let g : (1000000 * (2000000 - q) - (1000000 - q) * 2000000) * (2000000 - q) ≡ q * (1000000 * (2000000 - q)) = rw difference (omega arith) in
    simp (mul-one, one-mul) g

pub sooner_stands : (q : ℕ) → q ≤ 1000000 → Stands (sooner_number q) (one ⊖ half (part q)) 1
unfolding open_half
sooner_stands q h =
    let s = stands_fixed q (2000000 - q) (omega arith) in
    let by : (t : Bool) → eqb q 1000000 ≡ t → Stands (sooner_number q) (one ⊖ (elim t as (λ _. Fraction) [ true ↦ nought | false ↦ open_half q ])) 1 =
    elim [
      | true ↦ (λ e. stands_same (sooner_number q) (ratio q (2000000 - q)) (one ⊖ nought) 1 (omega arith) (omega (arith, eqb-true q 1000000 e)) s)
      | false ↦ (λ e. stands_same (sooner_number q) (ratio q (2000000 - q)) (one ⊖ open_half q) 1 (omega arith) (sym (sooner_is q h)) s)
    ] in
    by (eqb q 1000000) refl

-- together they are at most 1
quotients : (a b d : ℕ) → 0 < d → a + b ≤ d → fixed a d + fixed b d ≤ scale
quotients a b d h l = le_of_mul-le-mul_right {k = d} (omega (arith, div-mul-le_self (a * scale) d, div-mul-le_self (b * scale) d, mul-le-mul_right scale l)) h

pub half_sooner : (q : ℕ) → q ≤ 1000000 → half_number q + sooner_number q ≤ scale
half_sooner q h =
    elim (eqb q 1000000) as (λ t. (elim t as (λ _. ℕ) [ true ↦ 0 | false ↦ fixed (2 * (1000000 - q)) (2000000 - q) ]) + sooner_number q ≤ scale)
    [ true ↦ omega (arith, quotients 0 q (2000000 - q) (omega arith) (omega arith)) | false ↦ quotients (2 * (1000000 - q)) q (2000000 - q) (omega arith) (omega arith) ]

-- a chance and the discounted survival are at most 1 together
pub chance_lives : (v q : ℕ) → v ≤ scale → q ≤ 1000000 → fixed q 1000000 + product v (fixed (1000000 - q) 1000000) ≤ scale
chance_lives v q hv h = omega (arith, quotients q (1000000 - q) 1000000 (omega arith) (omega arith), shrinks v (fixed (1000000 - q) 1000000) hv)
