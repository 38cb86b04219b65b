-- How a pile answers a question: the age goes down the layers, and the figure read there comes up again. Assumes nothing.
use Rattle.std.specs.Prelude.{ℕ, ◌-◌, Bool, true, false, cond, List, [], ◌∷◌}
use Rattle.basis.specs.declared.kind.Kind.{Kind}
use Rattle.basis.specs.declared.kind.Kind.TheVariants.{Invalidity, ActiveDeath, InvalidDeath, PopulationDeath, WidowDeath, Married, SpouseAge}
use Rattle.pile.specs.declared.layer.Layer.{Layer}
use Rattle.pile.specs.declared.layer.Layer.TheVariants.{Shift, Loading}
use Rattle.basis.specs.Figures.{Figures}
use Rattle.basis.specs.Layers.{read_age, raised}

-- only a shift alters the age
abbrev pub age_below : ℕ → Layer → Kind → ℕ → ℕ
age_below z (Shift shift) k x = read_age z shift.years k x
age_below z (Loading loading) k x = x

-- only a loading alters a chance of death
abbrev pub chance_above : Layer → ℕ → ℕ → ℕ
chance_above (Shift shift) q most = q
chance_above (Loading loading) q most = raised loading.thousandths q most

-- a chance of death above layers, the lowest first
unfoldable pub risen : List Layer → ℕ → ℕ → ℕ
risen [] q most = q
risen (layer ∷ above) q most = risen above (chance_above layer q most) most

-- the greatest chance of death that a loading leaves: an active may become invalid besides
abbrev pub greatest : Figures → Kind → ℕ → ℕ
greatest f Invalidity x = 1000000
greatest f ActiveDeath x = 1000000 - f.figure Invalidity x
greatest f InvalidDeath x = 1000000
greatest f PopulationDeath x = 1000000
greatest f WidowDeath x = 1000000
greatest f Married x = 1000000
greatest f SpouseAge x = 1000000

-- the lists of deaths, which alone are loaded
abbrev pub deadly : Kind → Bool
deadly Invalidity = false
deadly ActiveDeath = true
deadly InvalidDeath = true
deadly PopulationDeath = true
deadly WidowDeath = true
deadly Married = false
deadly SpouseAge = false

-- any figure above layers
abbrev pub carried : Kind → ℕ → List Layer → ℕ → ℕ
carried k most above q = cond (deadly k) (risen above q most) q
