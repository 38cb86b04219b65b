-- The straight-line basis, made from a final age z and a number c. Assumes nothing.
use Rattle.std.specs.Prelude.{ℕ, ◌-◌, ◌/◌, ◌||◌, Option, nat_lt}
use Rattle.fault.specs.declared.Fault.{Fault}
use Rattle.fault.specs.declared.Refusal.TheVariants.{FinalAge, Figure}
use Rattle.fault.specs.declared.Part.TheVariants.{Basis}
use Rattle.basis.specs.declared.kind.Kind.{Kind}
use Rattle.basis.specs.declared.kind.Kind.TheVariants.{Invalidity, ActiveDeath, InvalidDeath, PopulationDeath, WidowDeath, Married, SpouseAge}
use Rattle.fault.specs.Faults.{fault_in, refuse_if, first_of}
use Rattle.basis.specs.Figures.{Figures, listed}

-- a death in each of the years left up to the last age is equally likely
abbrev pub even_death : ℕ → ℕ
even_death x = 1000000 / (121 - x)

abbrev pub line_figure : ℕ → Kind → ℕ → ℕ
line_figure c Invalidity x = c
line_figure c ActiveDeath x = even_death x
line_figure c InvalidDeath x = even_death x
line_figure c PopulationDeath x = even_death x
line_figure c WidowDeath x = even_death x
line_figure c Married x = 800000
line_figure c SpouseAge x = x - 3

abbrev pub straight_line : ℕ → ℕ → Figures
straight_line z c = listed z (line_figure c)

-- a straight-line basis is refused for its final age, then for its chance of invalidity
abbrev pub straight_line_fault : ℕ → ℕ → Option Fault
straight_line_fault z c = first_of (refuse_if (nat_lt z 20 || nat_lt 80 z) (fault_in Basis FinalAge 0 0)) (refuse_if (nat_lt 100000 c) (fault_in Basis Figure 1 0))
