use Rattle.stock.proofs.Places.{held_is}
use Rattle.stock.proofs.slots.Slots.held.Goals as goal

pub returns : goal.returns
returns c = rw (c.ok_or.ensures.value, c.into.ensures) (held_is c.args.self.now.records c.args.key c.place_of.result c.args.self.now.full c.place_of.ensures)
