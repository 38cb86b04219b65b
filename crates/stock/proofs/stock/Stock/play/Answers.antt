use Rattle.std.proofs.Common.{replicate, Err, sym, refl, ap, ◌∙◌}
use Rattle.std.proofs.lemmas.Result.{err_from_is_err_and}
use Rattle.stock.specs.Handed.{promised}
use Rattle.stock.proofs.Answering.{lent, done, played}
use Rattle.stock.proofs.Heeding.{admit_column, amend_column}
use Rattle.stock.proofs.stock.Stock.play.Goals as goal

pub returns-in_err-admit-in-Admit : goal.returns-in_err-admit-in-Admit
returns-in_err-admit-in-Admit g c =
    let p = err_from_is_err_and c.from_residual-in_err-admit-in-Admit.result c.from_residual-in_err-admit-in-Admit.ensures.1 in
    played g.B.Basis.figures _ _ _ _ _ c.admit.result _ c.admit.ensures (p.1 ∙ ap Err p.2 ∙ sym (ap done c.in_err-admit-in-Admit.was)) c.in-Admit.is
    (admit_column c.in-Admit.key (promised c.in-Admit.promise) _ c.in-Admit.column (lent (replicate 512 0) _ c.in-Admit.column refl c.min.ensures)) (λ es. refl) (λ es. refl)

pub returns-in_ok-admit-in-Admit : goal.returns-in_ok-admit-in-Admit
returns-in_ok-admit-in-Admit g c =
    played g.B.Basis.figures _ _ _ _ _ c.admit.result _ c.admit.ensures (sym (ap done c.in_ok-admit-in-Admit.was)) c.in-Admit.is
    (admit_column c.in-Admit.key (promised c.in-Admit.promise) _ c.in-Admit.column (lent (replicate 512 0) _ c.in-Admit.column refl c.min.ensures)) (λ es. refl) (λ es. refl)

pub returns-in_err-amend-in-Amend : goal.returns-in_err-amend-in-Amend
returns-in_err-amend-in-Amend g c =
    let p = err_from_is_err_and c.from_residual-in_err-amend-in-Amend.result c.from_residual-in_err-amend-in-Amend.ensures.1 in
    played g.B.Basis.figures _ _ _ _ _ c.amend.result _ c.amend.ensures (p.1 ∙ ap Err p.2 ∙ sym (ap done c.in_err-amend-in-Amend.was)) c.in-Amend.is
    (amend_column c.in-Amend.key (promised c.in-Amend.promise) _ c.in-Amend.column (lent (replicate 512 0) _ c.in-Amend.column refl c.min-in-Amend.ensures)) (λ es. refl) (λ es. refl)
