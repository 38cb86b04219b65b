-- What a basis means: a final age and seven lists of figures, and the laws that they obey. Assumes nothing.
use Rattle.std.specs.Prelude.{◌≡◌, ℕ, ◌+◌, ◌≤◌, cond, List, codes, nat_lt}
use Rattle.basis.specs.declared.kind.Kind.{Kind}
use Rattle.basis.specs.declared.kind.Kind.TheVariants.{Invalidity, ActiveDeath, InvalidDeath, PopulationDeath, WidowDeath, Married, SpouseAge}

-- a kind's number in the book
abbrev pub rank : Kind → ℕ
rank Invalidity = 1
rank ActiveDeath = 2
rank InvalidDeath = 3
rank PopulationDeath = 4
rank WidowDeath = 5
rank Married = 6
rank SpouseAge = 7

-- how many ages a list has, under the final age z
abbrev pub count : ℕ → Kind → ℕ
count z Invalidity = z
count z ActiveDeath = z
count z InvalidDeath = 121
count z PopulationDeath = 121
count z WidowDeath = 121
count z Married = 121
count z SpouseAge = 121

-- the greatest figure of a list: a million millionths, or the last age
abbrev pub limit : Kind → ℕ
limit Invalidity = 1000000
limit ActiveDeath = 1000000
limit InvalidDeath = 1000000
limit PopulationDeath = 1000000
limit WidowDeath = 1000000
limit Married = 1000000
limit SpouseAge = 120

-- the list's name in formulas
abbrev pub symbol : Kind → List ℕ
symbol Invalidity = codes "i"
symbol ActiveDeath = codes "qaa"
symbol InvalidDeath = codes "qi"
symbol PopulationDeath = codes "qg"
symbol WidowDeath = codes "qw"
symbol Married = codes "h"
symbol SpouseAge = codes "y"

-- the final age, and the figure of each list at each age: 0 at an age that the list has not
pub record Figures : Type 0 where
  pub final_age : ℕ
  pub figure : Kind → ℕ → ℕ

-- figures told by a rule for each list, within the lists' ages
abbrev pub listed : ℕ → (Kind → ℕ → ℕ) → Figures
listed z told = record { final_age = z; figure = λ k x. cond (nat_lt x (count z k)) (told k x) 0 }

-- The laws, each by its name.
-- the final age is from 20 to 80
abbrev pub Aged : Figures → Type 0
Aged f = (20 ≤ f.final_age) × (f.final_age ≤ 80)

-- no figure is above its list's limit
abbrev pub Limited : Figures → Type 0
Limited f = (k : Kind) (x : ℕ) → f.figure k x ≤ limit k

-- outside its list a figure is 0
abbrev pub Ended : Figures → Type 0
Ended f = (k : Kind) (x : ℕ) → count f.final_age k ≤ x → f.figure k x ≡ 0

-- an active does not leave with more than certainty
abbrev pub Exits : Figures → Type 0
Exits f = (x : ℕ) → f.figure Invalidity x + f.figure ActiveDeath x ≤ 1000000

-- from the final age on invalids die as the whole population does
abbrev pub Seamless : Figures → Type 0
Seamless f = (x : ℕ) → f.final_age ≤ x → f.figure InvalidDeath x ≡ f.figure PopulationDeath x

-- at the last age every death is certain
abbrev pub Closed : Figures → Type 0
Closed f = (f.figure InvalidDeath 120 ≡ 1000000) × (f.figure PopulationDeath 120 ≡ 1000000) × (f.figure WidowDeath 120 ≡ 1000000)

-- what every basis obeys
pub record Lawful (f : Figures) : Type 0 where
  pub aged : Aged f
  pub limited : Limited f
  pub ended : Ended f
  pub exits : Exits f
  pub seamless : Seamless f
  pub closed : Closed f
