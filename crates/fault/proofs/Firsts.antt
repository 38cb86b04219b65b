-- The first fault of many checks: a loop's start, step and end, and what it tells of each check. Assumes nothing.
use Rattle.std.proofs.Common.{◌≡◌, ℕ, zero, suc, ◌+◌, ◌<◌, Bool, true, false, Some, None, Option, sym, refl, ap, ◌∙◌, ⊎_elim, add-one, arith}
use Rattle.std.proofs.lemmas.Bool.{cases_eq}
use Rattle.fault.specs.declared.Fault.{Fault}
use Rattle.fault.specs.Faults.{refuse_if, first_of, first_below}

pub first_none : (check : ℕ → Option Fault) → first_below 0 check ≡ None
unfolding first_below
first_none check = refl

pub first_more : (n : ℕ) (check : ℕ → Option Fault) → first_below n check ≡ None → check n ≡ None → first_below (n + 1) check ≡ None
unfolding first_below
first_more n check before here = rw add-one (ap (λ o. first_of o (check n)) before ∙ here)

-- every check passes: no fault
pub first_passed : (n : ℕ) (check : ℕ → Option Fault) → ((k : ℕ) → k < n → check k ≡ None) → first_below n check ≡ None
unfolding first_below
first_passed zero check passed = refl
first_passed (suc n) check passed = ap (λ o. first_of o (check n)) (first_passed n check (λ k l. passed k (omega arith))) ∙ passed n (omega arith)

-- two checks in order
pub passed_on : (a b : Option Fault) → a ≡ None → first_of a b ≡ b
passed_on a b e = ap (λ o. first_of o b) e

pub first_of_none : (a b : Option Fault) → first_of a b ≡ None → (a ≡ None) × (b ≡ None)
first_of_none None b e = (refl, e)
first_of_none (Some x) b e = let z : ◌≡◌ {A = ℕ} 0 1 = cc in absurd (omega arith)

-- no fault: every check passes
pub first_passes : (n : ℕ) (check : ℕ → Option Fault) → first_below n check ≡ None → (k : ℕ) → k < n → check k ≡ None
unfolding first_below
first_passes zero check e k l = absurd (omega arith)
first_passes (suc n) check e k l =
    let parts = first_of_none (first_below n check) (check n) e in
    ⊎_elim (λ same. ap check same ∙ parts.1) (λ other. first_passes n check parts.0 k (omega (arith, other))) (cases_eq k n)

-- the first fault that a loop meets is the first fault of all
pub first_found : (n m : ℕ) (check : ℕ → Option Fault) (e : Fault) → first_below n check ≡ None → check n ≡ Some e → n < m → first_below m check ≡ Some e
unfolding first_below
first_found n zero check e before here l = absurd (omega arith)
first_found n (suc m) check e before here l =
    ⊎_elim (λ same. ap (λ o. first_of o (check m)) (ap (λ k. first_below k check) (sym same) ∙ before) ∙ ap check (sym same) ∙ here)
    (λ other. ap (λ o. first_of o (check m)) (first_found n m check e before here (omega (arith, other))))
    (cases_eq n m)

pub refuse_none : (b : Bool) (e : Fault) → refuse_if b e ≡ None → b ≡ false
refuse_none false e h = refl
refuse_none true e h = let z : ◌≡◌ {A = ℕ} 0 1 = cc in absurd (omega arith)

pub none_refuse : (b : Bool) (e : Fault) → b ≡ false → refuse_if b e ≡ None
none_refuse b e h = ap (λ t. refuse_if t e) h

pub refuse_some : (b : Bool) (e met : Fault) → b ≡ true → met ≡ e → refuse_if b e ≡ Some met
refuse_some b e met h same = ap (λ t. refuse_if t e) h ∙ ap Some (sym same)
