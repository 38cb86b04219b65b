use Rattle.std.proofs.Common.{ℕ, ◌+◌, ◌*◌, List, refl, ap, ◌∙◌, arith}
use Rattle.table.specs.Book.{placed, bytes32}
use Rattle.table.specs.Table.{tabled}
use Rattle.table.proofs.Placed.{body_within, placed_order_none, placed_order_more, length_order}
use Rattle.table.proofs.book_writer.put_body.Goals as goal

pub loop-age-init : goal.loop-age-init
loop-age-init c = placed_order_none c.args.buffer.now c.body_place-place.result (λ x. bytes32 ((tabled c.args.rows.now).figure c.args.kind x))

pub loop-age-preserved : goal.loop-age-preserved
loop-age-preserved c =
    let n = c.loop-age.age in
    let at = c.body_place-place.result + 4 * n in
    let text : ℕ → List ℕ = λ x. bytes32 ((tabled c.args.rows.now).figure c.args.kind x) in
    c.put.ensures
    ∙ ap (placed c.loop-age.buffer at) (c.to_be_bytes.ensures ∙ ap bytes32 c.figure.ensures)
    ∙ placed_order_more c.args.buffer.now c.loop-age.buffer c.body_place-place.result n at text c.loop-age.invariant (omega (arith, length_order n 4 text (λ x. refl)))
    (omega (arith, body_within c.args.rows.now.final_age c.args.kind))
