use Rattle.std.proofs.Common.{arith}
use Rattle.stock.specs.Slots.{low_of, high_of}
use Rattle.stock.proofs.Places.{fits, low_modest, high_modest}
use Rattle.stock.proofs.slots.Slots.put.Goals as goal

pub overflow_add-self : goal.overflow_add-self
overflow_add-self c = omega (arith, c.adds-removed.ensures, c.adds-added.ensures, c.args.self.now.lows, fits low_of 1125899906842624 low_modest c.args.self.now.records c.args.place c.args.new c.index-self-place.result c.args.self.now.full c.requires)

pub overflow_add-self-2 : goal.overflow_add-self-2
overflow_add-self-2 c = omega (arith, c.adds-removed.ensures, c.adds-added.ensures, c.args.self.now.highs, fits high_of 1125899906842624 high_modest c.args.self.now.records c.args.place c.args.new c.index-self-place.result c.args.self.now.full c.requires)
