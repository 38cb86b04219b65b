-- The lower number of one promise, added up as often as it is valued. Assumes nothing.
use Rattle.std.specs.Prelude.{ℕ, ◌*◌, ◌%◌, ◌^◌, List, [], ◌∷◌, replicate, Some, None, Option}
use Rattle.std.specs.List.{slice_get}
use Rattle.basis.specs.Figures.{Figures}
use Rattle.valuation.specs.declared.benefit.Benefit.{Benefit}
use Rattle.valuation.specs.declared.benefit.Benefit.TheVariants.{Retired, Population, Invalid, Widow, RetiredWidow, PopulationWidow, InvalidWidow, Active, ActiveRetirement, ActiveInvalidity, ActiveInvalidityRetirement, ActiveDeathWidow, ActiveRetiredWidow, ActiveOrRetiredWidow, ActiveInvalidWidow, ActiveWidow}
use Rattle.valuation.specs.Admission.{valuation_fault}
use Rattle.valuation.specs.Benefits.{span}
use Rattle.valuation.specs.Pair.{lower}
use Rattle.valuation.specs.Terms.{terms_fault}

-- the benefit at a place
abbrev pub benefit_at : ℕ → Option Benefit
benefit_at place = slice_get (Retired ∷ Population ∷ Invalid ∷ Widow ∷ RetiredWidow ∷ PopulationWidow ∷ InvalidWidow ∷ Active ∷ ActiveRetirement ∷ ActiveInvalidity ∷ ActiveInvalidityRetirement ∷ ActiveDeathWidow ∷ ActiveRetiredWidow ∷ ActiveOrRetiredWidow ∷ ActiveInvalidWidow ∷ ActiveWidow ∷ []) place

-- 12,000 in every year
abbrev pub yearly : Figures → Benefit → ℕ → List ℕ
yearly f b x = replicate (span f.final_age b x) 12000

-- on the figures of a basis, under an interest and a number of instalments a year
module _ (f : Figures) (interest instalments : ℕ) where
  -- the lower number, 0 if the promise is refused
  abbrev pub lower_or_none : Benefit → ℕ → ℕ
  lower_or_none b x = elim (valuation_fault f.final_age b x (yearly f b x) 512) [ Some e ↦ 0 | None ↦ lower f interest instalments b x (yearly f b x) ]

  -- the sum's last 64 bits
  abbrev pub repeated : Benefit → ℕ → ℕ → ℕ
  repeated b x times = (times * lower_or_none b x) % 2 ^ 64

  -- the same for the benefit at a place; 0 if there is none, or if the terms are refused
  abbrev pub repeated_at : ℕ → ℕ → ℕ → ℕ
  repeated_at place x times = elim (terms_fault interest instalments) [ Some e ↦ 0 | None ↦ elim (benefit_at place) [ Some b ↦ repeated b x times | None ↦ 0 ] ]
