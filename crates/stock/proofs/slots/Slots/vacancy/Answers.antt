use Rattle.std.proofs.Common.{sym, ◌∙◌}
use Rattle.stock.proofs.Places.{known_is, vacancy_of}
use Rattle.stock.proofs.slots.Slots.vacancy.Goals as goal

pub returns-then-is_some : goal.returns-then-is_some
returns-then-is_some c = rw c.into.ensures (known_is c.args.self.now.records c.args.key c.place_of.result c.args.self.now.full c.place_of.ensures (sym c.is_some.ensures ∙ c.if-is_some.true))

pub returns : goal.returns
returns c = rw (c.ok_or.ensures.value, c.into-2.ensures) (vacancy_of c.args.self.now.records c.args.key c.place_of.result c.free.result c.args.self.now.full c.place_of.ensures (sym c.is_some.ensures ∙ c.if-is_some.false) c.free.ensures)
