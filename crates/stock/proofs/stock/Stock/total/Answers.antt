use Rattle.std.proofs.Common.{refl}
use Rattle.stock.specs.Register.{Total}
use Rattle.stock.proofs.Heeding.{had_asked, total_is}
use Rattle.stock.proofs.stock.Stock.total.Goals as goal

pub returns : goal.returns
returns g c = λ h had. (total_is _ _ _ _ _ _ had c.args.self.now.slots.lows c.args.self.now.slots.highs, had_asked _ _ _ h Total _ refl had)
