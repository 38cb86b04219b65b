use Rattle.std.proofs.Common.{◌≡◌}
use Rattle.speed.specs.Repeated.{repeated}
use Rattle.speed.proofs.repeat.Given as goal

abbrev pub invariant-loop : goal.invariant-loop
invariant-loop g l = l.sum ≡ repeated (g.B.Basis.figures l.basis) l.terms.interest l.terms.instalments l.promise.benefit l.promise.age l.counter
