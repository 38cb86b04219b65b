use Rattle.fault.proofs.Firsts.{first_none, first_more, first_found}
use Rattle.table.proofs.Exits.{passed_up}
use Rattle.table.proofs.book_reader.Opened.check_contents.Goals as goal

pub loop-kind-init : goal.loop-kind-init
loop-kind-init c = first_none _

pub loop-kind-preserved : goal.loop-kind-preserved
loop-kind-preserved c = first_more c.loop-kind.kind-index _ c.loop-kind.invariant c.in_ok-check_entry.ensures.0

pub returns-in_err-check_entry : goal.returns-in_err-check_entry
returns-in_err-check_entry c = passed_up _ _ _ _ c.from_residual.ensures.1 (first_found c.loop-kind.kind-index 7 _ _ c.loop-kind.invariant c.in_err-check_entry.ensures c.loop-kind-test.true)
