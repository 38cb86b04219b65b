use Rattle.std.proofs.Common.{◌+◌, refl}
use Rattle.basis.specs.declared.kind.Kind.TheVariants.{WidowDeath}
use Rattle.valuation.specs.Fixed.{scale}
use Rattle.valuation.specs.Pair.{annuity_number, to_next_year, wid_number}
use Rattle.valuation.proofs.Added.{same_product}
use Rattle.valuation.proofs.Descents.{level_end}
use Rattle.valuation.proofs.rates.Rates.wid.Goals as goal

pub returns : goal.returns
unfolding wid_number
returns g c =
    let f = g.B.Basis.figures c.args.basis.now in
    let i = c.args.self.now.interest in
    let t = c.args.self.now.instalments in
    let y = c.args.y in
    same_product c.of.result _ _ (to_next_year f i t WidowDeath y) (annuity_number f i t WidowDeath (y + 1)) _ c.of.ensures.value c.to_next_year.ensures
    (c.value_at-next.ensures (annuity_number f i t WidowDeath) c.requires (level_end f i t WidowDeath (λ x. scale))) refl
