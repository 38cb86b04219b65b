use Rattle.std.proofs.Common.{◌∙◌, arith}
use Rattle.table.specs.Book.{body_bytes, body_place, kind_at}
use Rattle.table.specs.Table.{tabled}
use Rattle.table.proofs.Placed.{body_within, placed_order_none, placed_order_more, bodies_before}
use Rattle.table.proofs.book_writer.put_bodies.Goals as goal

pub loop-kind-init : goal.loop-kind-init
loop-kind-init c = placed_order_none c.args.buffer.now 37 (λ i. body_bytes (tabled c.args.rows.now) (kind_at i))

pub loop-kind-preserved : goal.loop-kind-preserved
loop-kind-preserved c =
    let i = c.loop-kind.kind-index in
    let f = tabled c.args.rows.now in
    c.put_body.ensures
    ∙ placed_order_more c.args.buffer.now c.loop-kind.buffer 37 i (body_place f.final_age (kind_at i)) (λ j. body_bytes f (kind_at j)) c.loop-kind.invariant
    (bodies_before f i c.loop-kind-test.true) (omega (arith, body_within f.final_age (kind_at i)))
