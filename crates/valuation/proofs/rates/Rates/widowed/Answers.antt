use Rattle.std.proofs.Common.{refl, ap, ◌∙◌}
use Rattle.valuation.specs.Rates.{chance_number}
use Rattle.valuation.specs.Pair.{left_number, widowed_number}
use Rattle.valuation.proofs.Added.{same_product}
use Rattle.valuation.proofs.rates.Rates.widowed.Goals as goal

pub returns : goal.returns
unfolding widowed_number
returns g c =
    let f = g.B.Basis.figures c.args.basis.now in
    same_product c.of-2.result c.part.result.number c.left-left.result (chance_number (f.figure c.args.kind c.args.age)) (left_number f c.args.self.now.interest c.args.self.now.instalments c.args.age) _ c.of-2.ensures.value (◌∙◌ {b = chance_number c.of.result.millionths} c.part.ensures (ap chance_number c.of.ensures)) c.left-left.ensures refl
