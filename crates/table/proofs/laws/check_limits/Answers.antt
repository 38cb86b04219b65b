use Rattle.fault.proofs.Firsts.{first_none, first_more, first_found}
use Rattle.table.proofs.Exits.{passed_up}
use Rattle.table.proofs.laws.check_limits.Goals as goal

pub loop-kind-init : goal.loop-kind-init
loop-kind-init c = first_none _

pub loop-kind-preserved : goal.loop-kind-preserved
loop-kind-preserved c = first_more c.loop-kind.kind-index _ c.loop-kind.invariant c.in_ok-check_list.ensures.0

pub returns-in_err-check_list : goal.returns-in_err-check_list
returns-in_err-check_list c = passed_up _ _ _ _ c.from_residual.ensures.1 (first_found c.loop-kind.kind-index 7 _ _ c.loop-kind.invariant c.in_err-check_list.ensures c.loop-kind-test.true)
