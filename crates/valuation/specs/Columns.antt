-- What the two parts of the working column hold: a value at each age. Assumes nothing.
use Rattle.std.specs.Prelude.{◌≡◌, ℕ, ◌<◌, true, List, length, slice_index}
use Rattle.basis.specs.declared.kind.Kind.{Kind}
use Rattle.basis.specs.declared.kind.Kind.TheVariants.{WidowDeath}
use Rattle.basis.specs.Figures.{Figures}
use Rattle.valuation.specs.declared.stream.Level.{Level}
use Rattle.valuation.specs.declared.stream.Level.TheVariants.{Annuities, Pensions, Widows}
use Rattle.valuation.specs.declared.benefit.Benefit.{Benefit}
use Rattle.valuation.specs.Fixed.{scale}
use Rattle.valuation.specs.Streams.{leaves_widow}
use Rattle.valuation.specs.Pair.{level_number, annuity_number, pension_number, widowed_number}

-- the yearly share of each value of amount 1 a year
abbrev pub level_share : Figures → ℕ → ℕ → Kind → Level → ℕ → ℕ
level_share f interest t b Annuities x = scale
level_share f interest t b Pensions x = pension_number f interest t b x
level_share f interest t b Widows x = widowed_number f interest t b x

abbrev pub level_of : Figures → ℕ → ℕ → Kind → Level → ℕ → ℕ
level_of f interest t b level x = level_number f interest t b (level_share f interest t b level) x

-- a column has a value for each age
abbrev pub Filled : (ℕ → ℕ) → List ℕ → Type 0
Filled value column = (length column ≡ 121) × ((x : ℕ) → x < 121 → slice_index column x ≡ value x)

-- it has the widows' annuities
abbrev pub WidowsFilled : Figures → ℕ → ℕ → List ℕ → Type 0
WidowsFilled f interest t widows = Filled (annuity_number f interest t WidowDeath) widows

-- what a value of amount 1 a year reads of them
abbrev pub Reads : Figures → ℕ → ℕ → Level → List ℕ → Type 0
Reads f interest t Annuities widows = Unit {0}
Reads f interest t Pensions widows = Unit {0}
Reads f interest t Widows widows = WidowsFilled f interest t widows

-- what a benefit reads of them
abbrev pub WidowsFor : Figures → ℕ → ℕ → Benefit → List ℕ → Type 0
WidowsFor f interest t b widows = leaves_widow b ≡ true → WidowsFilled f interest t widows
