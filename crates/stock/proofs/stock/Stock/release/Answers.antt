use Rattle.std.proofs.Common.{Err, sym, refl, ap, ◌∙◌, subst}
use Rattle.std.proofs.lemmas.Result.{err_from_is_err_and}
use Rattle.stock.specs.Register.{Release}
use Rattle.stock.specs.Told.{Shows}
use Rattle.stock.proofs.Answering.{refused, grants}
use Rattle.stock.proofs.Showing.{shows_release}
use Rattle.stock.proofs.Heeding.{missing_is}
use Rattle.stock.proofs.stock.Stock.release.Goals as goal

pub returns-in_err-freed : goal.returns-in_err-freed
returns-in_err-freed g c =
    let p = err_from_is_err_and c.from_residual.result c.from_residual.ensures.1 in
    refused g.B.Basis.figures c.args.self.now (Release c.args.key) _ _ _ (p.1 ∙ ap Err p.2) (λ h had. missing_is _ _ _ _ _ c.args.key had ∙ c.in_err-freed.ensures)

pub returns : goal.returns
returns g c = grants g.B.Basis.figures c.args.self.now _ (Release c.args.key) _ _ (refl, refl) (λ h had. (
  missing_is _ _ _ _ _ c.args.key had ∙ c.in_ok-freed.ensures.0,
  tt,
  subst (Shows _ _ _ _) (sym c.put.ensures) (shows_release _ _ _ _ _ c.args.key c.in_ok-freed.freed had c.args.self.now.slots.full c.in_ok-freed.ensures.1),
))
