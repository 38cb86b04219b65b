-- The benefits one after another. Assumes nothing.
use Rattle.std.proofs.Common.{ℕ, ◌<◌, [], ◌∷◌, get_or, arith}
use Rattle.valuation.specs.declared.benefit.Benefit.{Benefit}
use Rattle.valuation.specs.declared.benefit.Benefit.TheVariants.{Retired, Population, Invalid, Widow, RetiredWidow, PopulationWidow, InvalidWidow, Active, ActiveRetirement, ActiveInvalidity, ActiveInvalidityRetirement, ActiveDeathWidow, ActiveRetiredWidow, ActiveOrRetiredWidow, ActiveInvalidWidow, ActiveWidow}

abbrev pub benefit_at : ℕ → Benefit
benefit_at i = get_or (Retired ∷ Population ∷ Invalid ∷ Widow ∷ RetiredWidow ∷ PopulationWidow ∷ InvalidWidow ∷ Active ∷ ActiveRetirement ∷ ActiveInvalidity ∷ ActiveInvalidityRetirement ∷ ActiveDeathWidow ∷ ActiveRetiredWidow ∷ ActiveOrRetiredWidow ∷ ActiveInvalidWidow ∷ ActiveWidow ∷ []) i Retired

pub each_benefit : (P : Benefit → Type 0) → ((i : ℕ) → i < 16 → P (benefit_at i)) → (b : Benefit) → P b
each_benefit P h Retired = h 0 (omega arith)
each_benefit P h Population = h 1 (omega arith)
each_benefit P h Invalid = h 2 (omega arith)
each_benefit P h Widow = h 3 (omega arith)
each_benefit P h RetiredWidow = h 4 (omega arith)
each_benefit P h PopulationWidow = h 5 (omega arith)
each_benefit P h InvalidWidow = h 6 (omega arith)
each_benefit P h Active = h 7 (omega arith)
each_benefit P h ActiveRetirement = h 8 (omega arith)
each_benefit P h ActiveInvalidity = h 9 (omega arith)
each_benefit P h ActiveInvalidityRetirement = h 10 (omega arith)
each_benefit P h ActiveDeathWidow = h 11 (omega arith)
each_benefit P h ActiveRetiredWidow = h 12 (omega arith)
each_benefit P h ActiveOrRetiredWidow = h 13 (omega arith)
each_benefit P h ActiveInvalidWidow = h 14 (omega arith)
each_benefit P h ActiveWidow = h 15 (omega arith)
