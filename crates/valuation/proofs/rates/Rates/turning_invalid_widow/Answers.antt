use Rattle.std.proofs.Common.{◌+◌, refl, ap, ◌∙◌, arith}
use Rattle.basis.specs.declared.kind.Kind.TheVariants.{Invalidity, InvalidDeath}
use Rattle.valuation.specs.declared.stream.Level.TheVariants.{Widows}
use Rattle.valuation.specs.Fixed.{product}
use Rattle.valuation.specs.Rates.{chance_number}
use Rattle.valuation.specs.Columns.{level_of, level_share}
use Rattle.valuation.specs.Pair.{left_number, sooner_number, turning_invalid_widow_number, to_next_year}
use Rattle.valuation.proofs.Added.{same_product}
use Rattle.valuation.proofs.Descents.{level_end}
use Rattle.valuation.proofs.Shares.{levels_bound, left_bound}
use Rattle.valuation.proofs.rates.Rates.turning_invalid_widow.Goals as goal

pub overflow_add-later : goal.overflow_add-later
overflow_add-later g c =
    let f = g.B.Basis.figures c.args.basis.now in
    let lawful = g.met.B.Basis.lawful c.args.basis.now in
    let rates = c.args.self.now in
    let next = c.value_at-next.ensures (level_of f rates.interest rates.instalments InvalidDeath Widows) c.requires.later (level_end f rates.interest rates.instalments InvalidDeath (level_share f rates.interest rates.instalments InvalidDeath Widows)) in
    omega (
      arith,
      c.of-later.ensures.below,
      c.of-same_year.ensures.below,
      next,
      c.left-left.ensures,
      levels_bound f lawful rates.interest rates.instalments rates.some rates.few InvalidDeath Widows (c.args.age + 1),
      left_bound f lawful rates.interest rates.instalments rates.some rates.few c.args.age,
    )

pub returns : goal.returns
unfolding turning_invalid_widow_number
returns g c =
    let f = g.B.Basis.figures c.args.basis.now in
    let i = c.args.self.now.interest in
    let t = c.args.self.now.instalments in
    let x = c.args.age in
    let next = c.value_at-next.ensures (level_of f i t InvalidDeath Widows) c.requires.later (level_end f i t InvalidDeath (level_share f i t InvalidDeath Widows)) in
    let later = same_product c.of-later.result _ _ (to_next_year f i t InvalidDeath x) (level_of f i t InvalidDeath Widows (x + 1)) _ c.of-later.ensures.value c.to_next_year.ensures next refl in
    let same-year = same_product c.of-same_year.result _ _ (sooner_number (f.figure InvalidDeath x)) (left_number f i t x) _ c.of-same_year.ensures.value (◌∙◌ {b = sooner_number c.of.result.millionths} c.sooner.ensures (ap sooner_number c.of.ensures)) c.left-left.ensures refl in
    same_product c.of-3.result _ _ (chance_number (f.figure Invalidity x)) _ _ c.of-3.ensures.value (◌∙◌ {b = chance_number c.of-2.result.millionths} c.part.ensures (ap chance_number c.of-2.ensures))
    (ap (λ n. n + c.of-same_year.result) later ∙ ap (λ n. product (to_next_year f i t InvalidDeath x) (level_of f i t InvalidDeath Widows (x + 1)) + n) same-year) refl
