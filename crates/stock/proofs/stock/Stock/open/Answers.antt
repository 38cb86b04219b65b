use Rattle.std.proofs.Common.{sym, refl, subst}
use Rattle.stock.specs.Told.{Shows}
use Rattle.stock.proofs.Showing.{shows_nothing}
use Rattle.stock.proofs.stock.Stock.open.Goals as goal

pub returns : goal.returns
returns g c = record {
  kept = (refl, refl);
  had = subst (Shows _ _ _ _) (sym c.empty.ensures) (shows_nothing _ _ _ 512);
}
