-- Known figures: promises whose exact present values were worked out apart from these definitions. Assumes nothing.
use Rattle.std.specs.Prelude.{◌≡◌, ℕ, cond, List, [], ◌∷◌, replicate, pos, Some, ◌==◌, nat_le}
use Rattle.std.specs.List.{AllByRecursion}
use Rattle.fault.specs.declared.Refusal.TheVariants.{Age}
use Rattle.fault.specs.Faults.{fault}
use Rattle.basis.specs.declared.kind.Kind.{Kind}
use Rattle.basis.specs.declared.kind.Kind.TheVariants.{Invalidity, ActiveDeath, InvalidDeath, PopulationDeath, WidowDeath, Married, SpouseAge}
use Rattle.basis.specs.Figures.{Figures, listed}
use Rattle.basis.specs.Layers.{shifted, loaded}
use Rattle.basis.specs.StraightLine.{straight_line}
use Rattle.valuation.specs.declared.benefit.Benefit.{Benefit}
use Rattle.valuation.specs.declared.benefit.Benefit.TheVariants.{Retired, Population, Invalid, Widow, RetiredWidow, PopulationWidow, InvalidWidow, Active, ActiveRetirement, ActiveInvalidity, ActiveInvalidityRetirement, ActiveDeathWidow, ActiveRetiredWidow, ActiveOrRetiredWidow, ActiveInvalidWidow, ActiveWidow}
use Rattle.valuation.specs.Fraction.{Fraction, ratio, ◌≈◌}
use Rattle.valuation.specs.Exact.{exact_value}
use Rattle.valuation.specs.Benefits.{span}
use Rattle.valuation.specs.Admission.{valuation_fault}

-- Bases. A list is told by the figures at single ages, those from an age on, and 0 elsewhere.
abbrev none : ℕ → ℕ
none x = 0

abbrev at : ℕ → ℕ → (ℕ → ℕ) → ℕ → ℕ
at a n rest x = cond (x == a) n (rest x)

abbrev from : ℕ → ℕ → (ℕ → ℕ) → ℕ → ℕ
from a n rest x = cond (nat_le a x) n (rest x)

-- the straight line of final age 65 with no invalidity
abbrev line : Figures
line = straight_line 65 0

-- the small book: final age 80, and nobody dies before 79
abbrev small_rule : Kind → ℕ → ℕ
small_rule Invalidity = at 79 100000 none
small_rule ActiveDeath = at 79 50000 none
small_rule InvalidDeath = at 79 200000 (from 80 1000000 none)
small_rule PopulationDeath = from 80 1000000 none
small_rule WidowDeath = at 119 500000 (from 120 1000000 none)
small_rule Married = at 79 800000 (at 80 800000 (at 120 800000 none))
small_rule SpouseAge = at 79 119 (at 80 119 (at 120 119 none))

abbrev small : Figures
small = listed 80 small_rule

-- brief lives around the final age 80, with old spouses, every year with chances of its own, under a shift of 1 and a loading of 1,200
abbrev brief_rule : Kind → ℕ → ℕ
brief_rule Invalidity = at 78 100000 (at 79 200000 none)
brief_rule ActiveDeath = at 78 50000 (at 79 100000 none)
brief_rule InvalidDeath = at 78 250000 (at 79 400000 (at 80 200000 (at 81 500000 (from 82 1000000 none))))
brief_rule PopulationDeath = at 79 100000 (at 80 200000 (at 81 500000 (from 82 1000000 none)))
brief_rule WidowDeath = at 115 200000 (at 116 250000 (at 117 400000 (at 118 500000 (from 119 1000000 none))))
brief_rule Married = at 78 800000 (at 79 750000 (at 80 600000 (at 81 500000 (at 82 400000 none))))
brief_rule SpouseAge = at 78 114 (at 79 115 (at 80 116 (at 81 117 (at 82 118 (from 0 119 none)))))

abbrev pile : Figures
pile = loaded 1200 (shifted (pos 1) (listed 80 brief_rule))

-- a promise on a basis, under an interest and a number of instalments, and its present value in euros
pub record Row : Type 0 where
  pub figures : Figures
  pub interest : ℕ
  pub instalments : ℕ
  pub benefit : Benefit
  pub age : ℕ
  pub amounts : List ℕ
  pub expected : Fraction

abbrev pub Holds : Row → Type 0
Holds r = exact_value r.figures r.interest r.instalments r.benefit r.age r.amounts ≈ r.expected

-- all with an interest of 4 percent
abbrev row : Figures → ℕ → Benefit → ℕ → List ℕ → ℕ → ℕ → Row
row f t b x amounts n d = record { figures = f; interest = 400; instalments = t; benefit = b; age = x; amounts = amounts; expected = ratio n d }

-- the same for every number of instalments
abbrev whatever : (ℕ → Row) → List Row
whatever r = r 1 ∷ r 2 ∷ r 3 ∷ r 4 ∷ r 6 ∷ r 12 ∷ []

-- amounts of five years, and 700 in each year after
abbrev life : ℕ → List ℕ
life n = 1000 ∷ 2000 ∷ 4000 ∷ 3000 ∷ 5000 ∷ replicate n 700

abbrev four : List ℕ
four = 1000 ∷ 2000 ∷ 4000 ∷ 3000 ∷ []

abbrev pub rows : List Row
rows =
    row line 1 Retired 120 (1000 ∷ []) 1000 1
    ∷ row line 2 Retired 120 (1000 ∷ []) 38000 51
    ∷ row line 1 Retired 119 (1000 ∷ 500 ∷ []) 16125 13
    ∷ row line 2 Retired 119 (1000 ∷ 1000 ∷ []) 812750 663
    ∷ row line 1 Active 65 (1000 ∷ []) 0 1
    ∷ row small 12 InvalidWidow 79 (replicate 42 1000) 84000 169
    ∷ row small 12 ActiveInvalidity 79 (1000 ∷ 0 ∷ []) 10000 117
    ∷ row small 1 ActiveRetirement 79 (0 ∷ 1000 ∷ []) 10625 13
    ∷ row small 12 ActiveDeathWidow 79 (1000 ∷ 0 ∷ []) 1000 39
    ∷ row small 12 ActiveInvalidWidow 79 (1000 ∷ 0 ∷ []) 226000 4563
    ∷ row small 12 ActiveOrRetiredWidow 79 (1000 ∷ 1000 ∷ []) 225500 507
    ∷ row pile 2 Retired 80 (life 36) 313000 221
    ∷ row pile 2 Population 77 (life 39) 12661543000 1456611
    ∷ row pile 2 Invalid 77 (life 39) 3987625 1014
    ∷ row pile 2 Widow 114 (life 2) 1112015375 224094
    ∷ row pile 2 RetiredWidow 80 (life 36) 12121000 22477
    ∷ row pile 2 PopulationWidow 77 (life 39) 16265914182500 9234428203
    ∷ row pile 2 PopulationWidow 82 (life 34) 0 1
    ∷ row pile 2 InvalidWidow 77 (life 39) 184899164750 101477233
    ∷ row pile 2 Active 77 four 37491500 8619
    ∷ row pile 2 ActiveRetirement 77 four 33424125 28561
    ∷ row pile 2 ActiveInvalidity 77 four 632100000 709631
    ∷ row pile 2 ActiveInvalidityRetirement 77 four 19013292375 9225203
    ∷ row pile 2 ActiveDeathWidow 77 four 12814200 24167
    ∷ row pile 2 ActiveRetiredWidow 77 four 3168668250 7054567
    ∷ row pile 2 ActiveOrRetiredWidow 77 four 76001746950 77600237
    ∷ row pile 2 ActiveInvalidWidow 77 four 20646564616250 32777146259
    ∷ row pile 2 ActiveWidow 77 four 685730932513700 426102901367
    ∷ whatever (λ t. row small t RetiredWidow 120 (1000 ∷ []) 20000 39)

-- every row holds; on the line a pensioner of 65 has 56 amounts, and one of 64 is refused for the age
pub record Known : Type 0 where
  pub table : AllByRecursion Holds rows
  pub years : span 65 Retired 65 ≡ 56
  pub refused : (amounts : List ℕ) (column : ℕ) → valuation_fault 65 Retired 64 amounts column ≡ Some (fault Age 0 0)
