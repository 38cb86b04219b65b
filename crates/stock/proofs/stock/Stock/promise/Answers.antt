use Rattle.std.proofs.Common.{refl}
use Rattle.stock.specs.Register.{Ask}
use Rattle.stock.proofs.Heeding.{had_asked, ask_heeds}
use Rattle.stock.proofs.stock.Stock.promise.Goals as goal

pub returns : goal.returns
returns g c = λ h had. (ask_heeds _ _ _ _ _ c.args.key c.pair_of.result had c.pair_of.ensures, had_asked _ _ _ h (Ask c.args.key) _ refl had)
