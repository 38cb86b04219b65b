use Rattle.std.proofs.Common.{refl, ap, ◌∙◌}
use Rattle.basis.specs.declared.kind.Kind.TheVariants.{Married, SpouseAge}
use Rattle.valuation.specs.Rates.{chance_number}
use Rattle.valuation.specs.Pair.{left_number, wid_number}
use Rattle.valuation.proofs.Added.{same_product}
use Rattle.valuation.proofs.rates.Rates.left.Goals as goal

pub returns : goal.returns
unfolding left_number
returns g c =
    let f = g.B.Basis.figures c.args.basis.now in
    same_product c.of-2.result c.part.result.number c.wid-wid.result (chance_number (f.figure Married c.args.age)) (wid_number f c.args.self.now.interest c.args.self.now.instalments (f.figure SpouseAge c.args.age)) _ c.of-2.ensures.value (◌∙◌ {b = chance_number c.of.result.millionths} c.part.ensures (ap chance_number c.of.ensures))
    (◌∙◌ {b = wid_number f c.args.self.now.interest c.args.self.now.instalments c.figure.result} c.wid-wid.ensures (ap (wid_number f c.args.self.now.interest c.args.self.now.instalments) c.figure.ensures)) refl
