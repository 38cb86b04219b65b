use Rattle.std.proofs.Common.{◌+◌, refl, ap, ◌∙◌}
use Rattle.basis.specs.declared.kind.Kind.TheVariants.{Invalidity, InvalidDeath}
use Rattle.valuation.specs.Fixed.{scale}
use Rattle.valuation.specs.Rates.{chance_number}
use Rattle.valuation.specs.Pair.{annuity_number, turning_invalid_number, to_next_year}
use Rattle.valuation.proofs.Added.{same_product}
use Rattle.valuation.proofs.Descents.{level_end}
use Rattle.valuation.proofs.rates.Rates.turning_invalid.Goals as goal

pub returns : goal.returns
unfolding turning_invalid_number
returns g c =
    let f = g.B.Basis.figures c.args.basis.now in
    let i = c.args.self.now.interest in
    let t = c.args.self.now.instalments in
    let x = c.args.age in
    let next = c.value_at-next.ensures (annuity_number f i t InvalidDeath) c.requires (level_end f i t InvalidDeath (λ y. scale)) in
    let pension = same_product c.of-pension.result _ _ (to_next_year f i t InvalidDeath x) (annuity_number f i t InvalidDeath (x + 1)) _ c.of-pension.ensures.value c.to_next_year.ensures next refl in
    same_product c.of-2.result _ _ (chance_number (f.figure Invalidity x)) _ _ c.of-2.ensures.value (◌∙◌ {b = chance_number c.of.result.millionths} c.part.ensures (ap chance_number c.of.ensures)) pension refl
