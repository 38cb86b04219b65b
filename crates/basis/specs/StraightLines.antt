-- The straight-line figures obey the laws. Assumes nothing.
use Rattle.std.specs.Prelude.{ℕ, ◌-◌, ◌*◌, ◌<◌, ◌≤◌, refl}
use Rattle.std.proofs.Math.Nat.{div-le_of_le-mul}
use Rattle.std.proofs.Common.{div-le_self, arith}
use Rattle.basis.specs.declared.kind.Kind.{Kind}
use Rattle.basis.specs.declared.kind.Kind.TheVariants.{Invalidity, ActiveDeath, InvalidDeath, PopulationDeath, WidowDeath, Married, SpouseAge}
use Rattle.basis.specs.Figures.{Lawful, count, limit}
use Rattle.basis.specs.StraightLine.{straight_line, line_figure, even_death}
use Rattle.basis.specs.Listed.{listed_lawful}

even_limited : (x : ℕ) → even_death x ≤ 1000000
even_limited x = div-le_self 1000000 (121 - x)

-- before the last year but one at most every second dies
even_halved : (x : ℕ) → x < 120 → even_death x ≤ 500000
even_halved x h =
    let d : 2 ≤ 121 - x = omega arith in
    let m : 1000000 ≤ (121 - x) * 500000 = omega arith in
    div-le_of_le-mul (121 - x) m

line_limited : (z c : ℕ) → c ≤ 100000 → (k : Kind) (x : ℕ) → x < count z k → line_figure c k x ≤ limit k
line_limited z c h Invalidity x l = omega arith
line_limited z c h ActiveDeath x l = even_limited x
line_limited z c h InvalidDeath x l = even_limited x
line_limited z c h PopulationDeath x l = even_limited x
line_limited z c h WidowDeath x l = even_limited x
line_limited z c h Married x l = omega arith
line_limited z c h SpouseAge x l = omega arith

pub straight_line_lawful : (z c : ℕ) → 20 ≤ z → z ≤ 80 → c ≤ 100000 → Lawful (straight_line z c)
straight_line_lawful z c low high modest = listed_lawful z (line_figure c) (record {
  from = low;
  to = high;
  limited = line_limited z c modest;
  exits = λ x l. omega (arith, even_halved x (omega arith));
  seamless = λ x l m. refl;
  invalid_end = refl;
  population_end = refl;
  widow_end = refl;
})
