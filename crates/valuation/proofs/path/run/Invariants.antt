use Rattle.std.proofs.Common.{◌≡◌}
use Rattle.valuation.proofs.Runs.{Ahead}
use Rattle.valuation.proofs.path.run.Given as goal

abbrev pub invariant-loop-k : goal.invariant-loop-k
invariant-loop-k g l = (l.k-iterator.iter.count ≡ 0) × Ahead (g.P.Path.survivals l.path l.basis) (g.P.Path.shares l.path l.basis) l.amounts l.k-iterator.iter.iter.rest.now l.low l.short
