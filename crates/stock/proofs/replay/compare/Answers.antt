use Rattle.std.proofs.Common.{sym, ◌∙◌}
use Rattle.stock.specs.Runs.{in_force_after}
use Rattle.stock.proofs.Running.{equal_totals}
use Rattle.stock.proofs.replay.compare.Goals as goal

pub returns : goal.returns
returns g c = record {
  one = c.replay.ensures.1;
  other = c.replay-2.ensures.1;
  equal = λ figures interest instalments equally. c.replay.ensures.0
      ∙ equal_totals _ _ _ _ _ _ (in_force_after g.A.Basis.figures c.args.one) (in_force_after g.B.Basis.figures c.args.other) figures interest instalments equally
      ∙ sym c.replay-2.ensures.0;
}
