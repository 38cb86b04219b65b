use Rattle.std.proofs.Common.{arith}
use Rattle.basis.specs.declared.kind.Kind.TheVariants.{ActiveDeath}
use Rattle.valuation.proofs.Shares.{widowed_bound, turning_widow_bound}
use Rattle.valuation.proofs.rates.Rates.share_below.Goals as goal

pub overflow_add-result : goal.overflow_add-result
overflow_add-result g c =
    let f = g.B.Basis.figures c.args.basis.now in
    let lawful = g.met.B.Basis.lawful c.args.basis.now in
    let rates = c.args.self.now in
    omega (
      arith,
      c.widowed-as_active.ensures,
      c.turning_invalid_widow-in-ActiveWidow.ensures,
      widowed_bound f lawful rates.interest rates.instalments rates.some rates.few ActiveDeath c.args.age,
      turning_widow_bound f lawful rates.interest rates.instalments rates.some rates.few c.args.age,
    )
