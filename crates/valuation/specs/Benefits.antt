-- The sixteen benefits: their names, their ages and their spans, under a final age z. Assumes nothing.
use Rattle.std.specs.Prelude.{ℕ, ◌+◌, ◌-◌, List, codes}
use Rattle.valuation.specs.declared.benefit.Benefit.{Benefit}
use Rattle.valuation.specs.declared.benefit.Benefit.TheVariants.{Retired, Population, Invalid, Widow, RetiredWidow, PopulationWidow, InvalidWidow, Active, ActiveRetirement, ActiveInvalidity, ActiveInvalidityRetirement, ActiveDeathWidow, ActiveRetiredWidow, ActiveOrRetiredWidow, ActiveInvalidWidow, ActiveWidow}

-- a benefit's name, its first and its last age
pub record Scope : Type 0 where
  pub name : List ℕ
  pub first : ℕ
  pub last : ℕ

-- a life path goes to the last age, from the final age on or from birth; an active path goes to the final age
abbrev retired : ℕ → List ℕ → Scope
retired z n = record { name = n; first = z; last = 120 }

abbrev life : ℕ → List ℕ → Scope
life z n = record { name = n; first = 0; last = 120 }

abbrev active : ℕ → List ℕ → Scope
active z n = record { name = n; first = 0; last = z }

abbrev pub scope : ℕ → Benefit → Scope
scope z Retired = retired z (codes "r")
scope z Population = life z (codes "g")
scope z Invalid = life z (codes "i")
scope z Widow = life z (codes "w")
scope z RetiredWidow = retired z (codes "rw")
scope z PopulationWidow = life z (codes "gw")
scope z InvalidWidow = life z (codes "iw")
scope z Active = active z (codes "a")
scope z ActiveRetirement = active z (codes "aA")
scope z ActiveInvalidity = active z (codes "ai")
scope z ActiveInvalidityRetirement = active z (codes "aiA")
scope z ActiveDeathWidow = active z (codes "caaw")
scope z ActiveRetiredWidow = active z (codes "aAw")
scope z ActiveOrRetiredWidow = active z (codes "aaw")
scope z ActiveInvalidWidow = active z (codes "aiw")
scope z ActiveWidow = active z (codes "aw")

abbrev pub name : Benefit → List ℕ
name b = (scope 0 b).name

abbrev pub first_age : ℕ → Benefit → ℕ
first_age z b = (scope z b).first

abbrev pub last_age : ℕ → Benefit → ℕ
last_age z b = (scope z b).last

-- how many years a path has from an age x on: 121 − x for a life, z − x + 1 for an active
abbrev pub span : ℕ → Benefit → ℕ → ℕ
span z b x = last_age z b + 1 - x
