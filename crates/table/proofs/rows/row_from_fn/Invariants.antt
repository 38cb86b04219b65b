use Rattle.table.proofs.Filled.{IsFilled}
use Rattle.table.proofs.rows.row_from_fn.Given as goal

abbrev pub invariant-loop-age : goal.invariant-loop-age
invariant-loop-age g l = IsFilled (goal.F-post g l.figure l.kind) l.row l.age
