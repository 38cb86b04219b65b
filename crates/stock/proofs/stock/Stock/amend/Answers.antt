use Rattle.std.proofs.Common.{Err, sym, refl, ap, ◌∙◌, subst}
use Rattle.std.proofs.lemmas.Result.{err_from_is_err_and}
use Rattle.fault.proofs.Firsts.{passed_on}
use Rattle.stock.specs.Handed.{promised}
use Rattle.stock.specs.Register.{Amend}
use Rattle.stock.specs.Told.{Shows}
use Rattle.stock.proofs.Answering.{refused, grants}
use Rattle.stock.proofs.Showing.{shows_amend}
use Rattle.stock.proofs.Heeding.{missing_is}
use Rattle.stock.proofs.stock.Stock.amend.Goals as goal

pub returns-in_err-place : goal.returns-in_err-place
returns-in_err-place g c =
    let p = err_from_is_err_and c.from_residual-in_err-place.result c.from_residual-in_err-place.ensures.1 in
    refused g.B.Basis.figures c.args.self.now (Amend c.args.key (promised c.args.promise) _) _ _ _ (p.1 ∙ ap Err p.2) (λ h had. passed_on _ _ c.in_ok-changed.ensures.0 ∙ missing_is _ _ _ _ _ c.args.key had ∙ c.in_err-place.ensures)

pub returns : goal.returns
returns g c = grants g.B.Basis.figures c.args.self.now _ (Amend c.args.key (promised c.args.promise) _) _ _ (refl, refl) (λ h had. (
  passed_on _ _ c.in_ok-changed.ensures.0 ∙ missing_is _ _ _ _ _ c.args.key had ∙ c.in_ok-place.ensures.0,
  tt,
  subst (Shows _ _ _ _) (sym c.put.ensures)
      (shows_amend _ _ _ _ _ c.args.key c.in_ok-place.place _ c.in_ok-changed.changed had c.args.self.now.slots.full c.in_ok-place.ensures.1 c.in_ok-changed.ensures.1.0 c.in_ok-changed.ensures.1.1),
))
