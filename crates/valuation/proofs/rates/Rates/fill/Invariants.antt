use Rattle.valuation.specs.Columns.{level_of}
use Rattle.valuation.proofs.Descents.{Down}
use Rattle.valuation.proofs.rates.Rates.fill.Given as goal

abbrev pub invariant-loop-age : goal.invariant-loop-age
invariant-loop-age g l = Down (level_of (g.B.Basis.figures l.basis) l.self.interest l.self.instalments l.stream.population l.stream.level) l.part l.age l.later
