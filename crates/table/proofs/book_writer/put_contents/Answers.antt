use Rattle.std.proofs.Common.{◌∙◌, arith}
use Rattle.table.specs.Book.{entry_bytes, entry_place, kind_at}
use Rattle.table.proofs.Placed.{placed_order_none, placed_order_more, length_contents, entry_place_is, entry_within}
use Rattle.table.proofs.book_writer.put_contents.Goals as goal

pub loop-kind-init : goal.loop-kind-init
loop-kind-init c = placed_order_none c.args.buffer.now 2 (λ i. entry_bytes c.args.rows.now.final_age (kind_at i))

pub loop-kind-preserved : goal.loop-kind-preserved
loop-kind-preserved c =
    let i = c.loop-kind.kind-index in
    let z = c.args.rows.now.final_age in
    c.put_entry.ensures
    ∙ placed_order_more c.args.buffer.now c.loop-kind.buffer 2 i (entry_place (kind_at i)) (λ j. entry_bytes z (kind_at j)) c.loop-kind.invariant
    (omega (arith, length_contents z i, entry_place_is i c.loop-kind-test.true)) (omega (arith, entry_within (kind_at i)))
