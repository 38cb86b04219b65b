use Rattle.std.proofs.Common.{◌≡◌, None}
use Rattle.fault.specs.Faults.{first_below}
use Rattle.table.specs.Book.{list_fault, kind_at}
use Rattle.table.specs.Table.{tabled}
use Rattle.table.proofs.laws.check_limits.Given as goal

abbrev pub invariant-loop-kind : goal.invariant-loop-kind
invariant-loop-kind l = first_below l.kind-index (λ i. list_fault (tabled l.rows) (kind_at i)) ≡ None
