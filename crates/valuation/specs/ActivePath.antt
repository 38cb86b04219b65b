-- The path of an active as it is run along: what it reads, its share below the final age and its value at it. Assumes nothing.
use Rattle.std.specs.Prelude.{ℕ, ◌+◌, true, false, List, Some, None, Option, nat_lt}
use Rattle.basis.specs.declared.kind.Kind.TheVariants.{ActiveDeath, InvalidDeath, PopulationDeath}
use Rattle.basis.specs.Figures.{Figures}
use Rattle.valuation.specs.declared.benefit.Benefit.{Benefit}
use Rattle.valuation.specs.declared.benefit.Benefit.TheVariants.{Retired, Population, Invalid, Widow, RetiredWidow, PopulationWidow, InvalidWidow, Active, ActiveRetirement, ActiveInvalidity, ActiveInvalidityRetirement, ActiveDeathWidow, ActiveRetiredWidow, ActiveOrRetiredWidow, ActiveInvalidWidow, ActiveWidow}
use Rattle.valuation.specs.declared.stream.Level.{Level}
use Rattle.valuation.specs.Streams.{retires_to, turns_to}
use Rattle.valuation.specs.Columns.{Filled, WidowsFor, level_of}
use Rattle.valuation.specs.Rates.{kept_number, loss_number, paid_number}
use Rattle.valuation.specs.Pair.{stays_on, widowed_number, turning_invalid_number, turning_invalid_widow_number}

module _ (f : Figures) (interest t : ℕ) where
  -- the widows' annuities where a death leaves one, and what invalids have of amount 1 a year where invalidity pays
  abbrev pub Invalids : Option Level → List ℕ → Type 0
  Invalids None later = Unit {0}
  Invalids (Some level) later = Filled (level_of f interest t InvalidDeath level) later

  abbrev pub ActiveReads : Benefit → List ℕ → List ℕ → Type 0
  ActiveReads b widows later = WidowsFor f interest t b widows × Invalids (turns_to b) later

  abbrev pub below_number : Benefit → ℕ → ℕ
  below_number Retired x = 0
  below_number Population x = 0
  below_number Invalid x = 0
  below_number Widow x = 0
  below_number RetiredWidow x = 0
  below_number PopulationWidow x = 0
  below_number InvalidWidow x = 0
  below_number Active x = paid_number (kept_number interest t) (loss_number interest t) (stays_on f interest t x)
  below_number ActiveRetirement x = 0
  below_number ActiveInvalidity x = turning_invalid_number f interest t x
  below_number ActiveInvalidityRetirement x = turning_invalid_number f interest t x
  below_number ActiveDeathWidow x = widowed_number f interest t ActiveDeath x
  below_number ActiveRetiredWidow x = 0
  below_number ActiveOrRetiredWidow x = widowed_number f interest t ActiveDeath x
  below_number ActiveInvalidWidow x = turning_invalid_widow_number f interest t x
  below_number ActiveWidow x = widowed_number f interest t ActiveDeath x + turning_invalid_widow_number f interest t x

  -- what retirement is worth at the final age
  abbrev pub retired_number : Option Level → ℕ
  retired_number None = 0
  retired_number (Some level) = level_of f interest t PopulationDeath level f.final_age

  abbrev pub final_number : Benefit → ℕ
  final_number b = retired_number (retires_to b)

  abbrev pub active_share : Benefit → ℕ → ℕ
  active_share b x = elim (nat_lt x f.final_age) [ true ↦ below_number b x | false ↦ final_number b ]
