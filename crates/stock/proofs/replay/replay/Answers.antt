use Rattle.std.proofs.Common.{[], map, sym, ◌∙◌}
use Rattle.stock.specs.Handed.{told}
use Rattle.stock.specs.Register.{register}
use Rattle.stock.specs.Told.{TotalOf}
use Rattle.stock.proofs.Answering.{moved}
use Rattle.stock.proofs.replay.replay.Goals as goal

pub returns : goal.returns
returns g c =
    let opened = c.open-stock.ensures in
    let ran = c.run.ensures in
    let h = map told c.args.run.calls.now in
    moved g.B.Basis.figures (λ f i t. TotalOf f i t (register f.final_age h) c.total.result) c.run.new.self.basis c.args.run.basis c.run.new.self.terms c.args.run.terms (sym (ran.kept.0 ∙ opened.kept.0)) (sym (ran.kept.1 ∙ opened.kept.1))
    (c.total.ensures h (ran.had [] opened.had)).0
