use Rattle.std.proofs.Common.{◌≡◌, None}
use Rattle.fault.specs.Faults.{first_below}
use Rattle.valuation.specs.Admission.{amount_fault_at}
use Rattle.valuation.proofs.admission.check_amounts.Given as goal

abbrev pub invariant-loop-k : goal.invariant-loop-k
invariant-loop-k l = first_below l.k (amount_fault_at l.amounts) ≡ None
