-- What each benefit is made of: yearly payments along a population, and what follows an active's retirement, invalidity or
-- death. Assumes nothing.
use Rattle.std.specs.Prelude.{Bool, true, false, Some, None, Option}
use Rattle.basis.specs.declared.kind.Kind.{Kind}
use Rattle.basis.specs.declared.kind.Kind.TheVariants.{InvalidDeath, PopulationDeath, WidowDeath}
use Rattle.valuation.specs.declared.benefit.Benefit.{Benefit}
use Rattle.valuation.specs.declared.benefit.Benefit.TheVariants.{Retired, Population, Invalid, Widow, RetiredWidow, PopulationWidow, InvalidWidow, Active, ActiveRetirement, ActiveInvalidity, ActiveInvalidityRetirement, ActiveDeathWidow, ActiveRetiredWidow, ActiveOrRetiredWidow, ActiveInvalidWidow, ActiveWidow}
use Rattle.valuation.specs.declared.stream.Level.{Level}
use Rattle.valuation.specs.declared.stream.Level.TheVariants.{Pensions, Widows, Annuities}
use Rattle.valuation.specs.declared.stream.Stream.{Stream}

abbrev along : Kind → Level → Option Stream
along b level = Some (record { population = b; level = level })

-- the stream of a life's benefit; an active's has none
abbrev pub stream_of : Benefit → Option Stream
stream_of Retired = along PopulationDeath Pensions
stream_of Population = along PopulationDeath Pensions
stream_of Invalid = along InvalidDeath Pensions
stream_of Widow = along WidowDeath Pensions
stream_of RetiredWidow = along PopulationDeath Widows
stream_of PopulationWidow = along PopulationDeath Widows
stream_of InvalidWidow = along InvalidDeath Widows
stream_of Active = None
stream_of ActiveRetirement = None
stream_of ActiveInvalidity = None
stream_of ActiveInvalidityRetirement = None
stream_of ActiveDeathWidow = None
stream_of ActiveRetiredWidow = None
stream_of ActiveOrRetiredWidow = None
stream_of ActiveInvalidWidow = None
stream_of ActiveWidow = None

-- what an active's benefit pays along the whole population from retirement on
abbrev pub retires_to : Benefit → Option Level
retires_to ActiveRetirement = Some Pensions
retires_to ActiveInvalidityRetirement = Some Pensions
retires_to ActiveRetiredWidow = Some Widows
retires_to ActiveOrRetiredWidow = Some Widows
retires_to ActiveWidow = Some Widows
retires_to _ = None

-- and along the invalids from invalidity on
abbrev pub turns_to : Benefit → Option Level
turns_to ActiveInvalidity = Some Annuities
turns_to ActiveInvalidityRetirement = Some Annuities
turns_to ActiveInvalidWidow = Some Widows
turns_to ActiveWidow = Some Widows
turns_to _ = None

-- whether a death leaves a widow's pension
abbrev pub leaves_widow : Benefit → Bool
leaves_widow RetiredWidow = true
leaves_widow PopulationWidow = true
leaves_widow InvalidWidow = true
leaves_widow ActiveDeathWidow = true
leaves_widow ActiveRetiredWidow = true
leaves_widow ActiveOrRetiredWidow = true
leaves_widow ActiveInvalidWidow = true
leaves_widow ActiveWidow = true
leaves_widow _ = false
