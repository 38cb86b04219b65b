use Rattle.std.proofs.Common.{◌∙◌}
use Rattle.stock.specs.declared.call.Call.TheVariants.{Total}
use Rattle.stock.proofs.Answering.{had_more}
use Rattle.stock.proofs.stock.Stock.run.Goals as goal

pub loop-call-preserved : goal.loop-call-preserved
loop-call-preserved g c = record {
  had = λ h had. had_more g.B.Basis.figures c.loop-call.self c.play.new.self h c.args.calls.now c.loop-call.call-index Total c.play.result _ c.loop-call-test.true c.play.ensures (c.loop-call.invariant.had h had);
  kept = (c.play.ensures.kept.0 ∙ c.loop-call.invariant.kept.0, c.play.ensures.kept.1 ∙ c.loop-call.invariant.kept.1);
}
