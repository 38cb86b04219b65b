use Rattle.std.proofs.Common.{◌<◌, length, None, sym, ap, ◌∙◌, arith}
use Rattle.std.proofs.lemmas.List.{get_or_default}
use Rattle.stock.specs.Slots.{has_key}
use Rattle.stock.proofs.Places.{first_at, first_nowhere}
use Rattle.stock.proofs.slots.Slots.place_of.Goals as goal

pub returns-then-has_key : goal.returns-then-has_key
returns-then-has_key c =
    let rs = c.args.self.now.records in
    let inside : c.loop-i.i < length rs = omega (arith, c.args.self.now.full) in
    first_at (has_key c.args.key) rs c.loop-i.i inside (ap (has_key c.args.key) (get_or_default rs c.loop-i.i None c.place-item.result inside) ∙ sym c.if-has_key.ensures) c.loop-i.invariant

pub returns : goal.returns
returns c = first_nowhere (has_key c.args.key) c.args.self.now.records (λ k l. c.loop-i.invariant k (omega (arith, c.args.self.now.full)))
