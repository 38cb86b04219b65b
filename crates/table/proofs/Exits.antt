-- What leaves a loop of checks at its first fault. Assumes nothing.
use Rattle.std.proofs.Common.{◌≡◌, Some, Option, Result}
use Rattle.std.specs.Result.{IsErrAnd}
use Rattle.std.proofs.lemmas.Result.{err_from_is_err_and}
use Rattle.fault.specs.declared.Fault.{Fault}
use Rattle.fault.specs.Faults.{Outcome}

-- the fault that a `?` passes on
pub passed_up : {X : Type 0} (r : Result X Fault) (e : Fault) (found : Option Fault) (P : X → Type 0) → IsErrAnd r (λ y. y ≡ e) → found ≡ Some e → Outcome r found P
passed_up r e found P exit met =
    let p = err_from_is_err_and r exit in
    rw (p.1, p.2) met
