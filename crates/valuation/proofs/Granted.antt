-- What is known of a promise that passes the checks. Assumes nothing.
use Rattle.std.proofs.Common.{◌≡◌, ℕ, ◌≤◌, not, ◌||◌, eqb, ltb, List, length, get_or, None, ⊎_elim, arith}
use Rattle.std.proofs.lemmas.List.{get_or_past}
use Rattle.std.proofs.lemmas.Bool.{cases_lt, ltb-false, eqb-true, not-false, or_parts}
use Rattle.fault.specs.declared.Refusal.TheVariants.{Age, Span, Column}
use Rattle.fault.specs.Faults.{fault, refuse_if}
use Rattle.fault.proofs.Firsts.{first_of_none, first_passes, refuse_none}
use Rattle.valuation.specs.declared.benefit.Benefit.{Benefit}
use Rattle.valuation.specs.Benefits.{first_age, last_age, span}
use Rattle.valuation.specs.Admission.{amount_fault_at, amounts_fault, valuation_fault}

pub record Granted (z : ℕ) (b : Benefit) (x : ℕ) (amounts : List ℕ) (column : ℕ) : Type 0 where
  pub aged : x ≤ last_age z b
  pub spanned : length amounts ≡ span z b x
  pub modest : (k : ℕ) → get_or amounts k 0 ≤ 1000000
  pub room : 512 ≤ column

amounts_modest : (amounts : List ℕ) → amounts_fault amounts ≡ None → (k : ℕ) → get_or amounts k 0 ≤ 1000000
amounts_modest amounts h k =
    ⊎_elim (λ inside. ltb-false 1000000 (get_or amounts k 0) (refuse_none _ _ (first_passes (length amounts) (amount_fault_at amounts) h k inside)))
    (λ past. omega (arith, get_or_past amounts k 0 past))
    (cases_lt k (length amounts))

pub granted : (z : ℕ) (b : Benefit) (x : ℕ) (amounts : List ℕ) (column : ℕ) → valuation_fault z b x amounts column ≡ None → Granted z b x amounts column
granted z b x amounts column h =
    let after-age = first_of_none (refuse_if (ltb x (first_age z b) || ltb (last_age z b) x) (fault Age 0 0)) _ h in
    let after-span = first_of_none (refuse_if (not (eqb (length amounts) (span z b x))) (fault Span 0 0)) _ after-age.1 in
    let after-amounts = first_of_none (amounts_fault amounts) (refuse_if (ltb column 512) (fault Column 0 0)) after-span.1 in
    let ages = or_parts (ltb x (first_age z b)) (ltb (last_age z b) x) (refuse_none _ (fault Age 0 0) after-age.0) in
    record {
      aged = ltb-false (last_age z b) x ages.1;
      spanned = eqb-true (length amounts) (span z b x) (not-false (eqb (length amounts) (span z b x)) (refuse_none _ (fault Span 0 0) after-span.0));
      modest = amounts_modest amounts after-amounts.0;
      room = ltb-false column 512 (refuse_none _ (fault Column 0 0) after-amounts.1);
    }
