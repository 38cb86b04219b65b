use Rattle.std.proofs.Common.{◌+◌, arith}
use Rattle.valuation.proofs.Pairing.{final_bound, below_bound}
use Rattle.valuation.proofs.active.ActivePathPath.share.Goals as goal

pub returns-then-age-self-clause-modest : goal.returns-then-age-self-clause-modest
returns-then-age-self-clause-modest g c =
    let basis = c.args.basis.now in
    let p = c.args.self.now in
    omega (arith, c.requires.ready.1, final_bound (g.B.Basis.figures basis) (g.met.B.Basis.lawful basis) p.rates.interest p.rates.instalments p.rates.some p.rates.few p.benefit)

pub returns-clause-modest : goal.returns-clause-modest
returns-clause-modest g c =
    let basis = c.args.basis.now in
    let p = c.args.self.now in
    omega (arith, c.share_below.ensures, below_bound (g.B.Basis.figures basis) (g.met.B.Basis.lawful basis) p.rates.interest p.rates.instalments p.rates.some p.rates.few p.benefit (p.age + c.args.year))
