-- The figures of the layers, over any figures below, and what their settings are refused for. Assumes nothing.
use Rattle.std.specs.Prelude.{ℕ, ◌-◌, ◌*◌, ◌/◌, min, cond, ◌||◌, ℤ, pos, negsuc, ◌+ℤ◌, Option, ◌==◌, int_lt, nat_lt, unsigned_abs}
use Rattle.std.specs.Int.{int_min, int_max}
use Rattle.fault.specs.declared.Fault.{Fault}
use Rattle.fault.specs.declared.Refusal.TheVariants.{Shift, Loading}
use Rattle.basis.specs.declared.kind.Kind.{Kind}
use Rattle.basis.specs.declared.kind.Kind.TheVariants.{Invalidity, ActiveDeath, InvalidDeath, PopulationDeath, WidowDeath, Married, SpouseAge}
use Rattle.fault.specs.Faults.{fault, refuse_if}
use Rattle.basis.specs.Figures.{Figures, listed}

-- an age that was added to, brought up or down into low .. high
abbrev pub brought : ℕ → ℕ → ℤ → ℕ
brought low high a = unsigned_abs (int_max (pos low) (int_min a (pos high)))

-- the age at which a member's chances are read: it stays on its side of the final age, and the last age stays
abbrev pub moved_age : ℕ → ℤ → ℕ → ℕ
moved_age z s x = cond (x == 120) 120 (cond (nat_lt x z) (brought 0 (z - 1) (pos x +ℤ s)) (brought z 120 (pos x +ℤ s)))

-- the age at which a widow's chances are read
abbrev pub moved_widow : ℤ → ℕ → ℕ
moved_widow s y = cond (y == 120) 120 (brought 0 120 (pos y +ℤ s))

-- the age at which each list is read; marriage is not shifted
abbrev pub read_age : ℕ → ℤ → Kind → ℕ → ℕ
read_age z s Invalidity x = moved_age z s x
read_age z s ActiveDeath x = moved_age z s x
read_age z s InvalidDeath x = moved_age z s x
read_age z s PopulationDeath x = moved_age z s x
read_age z s WidowDeath y = moved_widow s y
read_age z s Married x = x
read_age z s SpouseAge x = x

-- the figures f under an age shift of s years
abbrev pub shifted : ℤ → Figures → Figures
shifted s f = listed f.final_age (λ k x. f.figure k (read_age f.final_age s k x))

-- a shift is from −10 to 10
abbrev pub shift_fault : ℤ → Option Fault
shift_fault s = refuse_if (int_lt s (negsuc 9) || int_lt (pos 10) s) (fault Shift 0 0)

-- a chance times t thousandths, whole part, at most a given chance
abbrev pub raised : ℕ → ℕ → ℕ → ℕ
raised t chance most = min (chance * t / 1000) most

-- a death chance under a loading: at the last age death stays certain
abbrev pub raised_death : ℕ → ℕ → ℕ → ℕ
raised_death t x chance = cond (x == 120) 1000000 (raised t chance 1000000)

abbrev pub loaded_figure : ℕ → Figures → Kind → ℕ → ℕ
loaded_figure t f Invalidity x = f.figure Invalidity x
loaded_figure t f ActiveDeath x = raised t (f.figure ActiveDeath x) (1000000 - f.figure Invalidity x)
loaded_figure t f InvalidDeath x = raised_death t x (f.figure InvalidDeath x)
loaded_figure t f PopulationDeath x = raised_death t x (f.figure PopulationDeath x)
loaded_figure t f WidowDeath x = raised_death t x (f.figure WidowDeath x)
loaded_figure t f Married x = f.figure Married x
loaded_figure t f SpouseAge x = f.figure SpouseAge x

-- the figures f under a loading of t thousandths
abbrev pub loaded : ℕ → Figures → Figures
loaded t f = listed f.final_age (loaded_figure t f)

-- a loading is from 500 to 2,000 thousandths
abbrev pub loading_fault : ℕ → Option Fault
loading_fault t = refuse_if (nat_lt t 500 || nat_lt 2000 t) (fault Loading 0 0)
