use Rattle.std.proofs.Common.{◌+◌, arith}
use Rattle.valuation.proofs.Shares.{level_shares_bound}
use Rattle.valuation.proofs.life.LifePathPath.share.Goals as goal

pub returns-clause-modest : goal.returns-clause-modest
returns-clause-modest g c =
    let basis = c.args.basis.now in
    let p = c.args.self.now in
    omega (arith, c.level_share.ensures, level_shares_bound (g.B.Basis.figures basis) (g.met.B.Basis.lawful basis) p.rates.interest p.rates.instalments p.rates.some p.rates.few p.stream.population p.stream.level (p.age + c.args.year))
