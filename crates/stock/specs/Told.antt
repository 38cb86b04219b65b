-- How the places of a stock show the register of the calls that it has had. Assumes nothing.
use Rattle.std.specs.Prelude.{◌≡◌, ℕ, List, [], ◌∷◌, ◌++◌, length, is_some, option_map, Some, None, sum_by, count_by, Option, Result}
use Rattle.std.specs.List.{AllByRecursion}
use Rattle.fault.specs.declared.Fault.{Fault}
use Rattle.fault.specs.Faults.{Outcome}
use Rattle.basis.specs.Figures.{Figures}
use Rattle.valuation.specs.declared.pair.Pair.{Pair}
use Rattle.valuation.specs.Valued.{Valued}
use Rattle.stock.specs.declared.record.Record.{Record}
use Rattle.stock.specs.Slots.{low_of, high_of, found}
use Rattle.stock.specs.Register.{Promise, Entry, Call, in_force, refusal, register}
use Rattle.stock.specs.Law.{Enclosing, pair_of, totals}

-- no key has two places, and no key two entries
unfoldable pub Apart : List (Option Record) → Type 0
Apart [] = Unit {0}
Apart (None ∷ rs) = Apart rs
Apart (Some r ∷ rs) = (found rs r.key ≡ None) × Apart rs

unfoldable pub Once : List Entry → Type 0
Once [] = Unit {0}
Once (e ∷ es) = (in_force es e.key ≡ None) × Once es

module _ (f : Figures) (interest instalments : ℕ) where
  abbrev pub pair_for : Option Promise → Option Pair
  pair_for promise = option_map (pair_of f interest instalments) promise

  -- a promise that a valuation has taken, with its pair
  pub record Worthy (p : Promise) (pair : Pair) : Type 0 where
    pub valued : Valued f interest instalments p.benefit p.age p.amounts pair
    pub stated : pair ≡ pair_of f interest instalments p

  abbrev pub Worth : Entry → Type 0
  Worth e = Worthy e.promise (pair_of f interest instalments e.promise)

  -- places that show a register
  pub record Shows (es : List Entry) (rs : List (Option Record)) : Type 0 where
    pub look : (k : ℕ) → found rs k ≡ pair_for (in_force es k)
    pub apart : Apart rs
    pub once : Once es
    pub worth : AllByRecursion Worth es
    pub lows : sum_by low_of rs ≡ (totals f interest instalments es).lower
    pub highs : sum_by high_of rs ≡ (totals f interest instalments es).upper
    pub counted : count_by is_some rs ≡ length es

  -- places of a stock that has had these calls
  abbrev pub Had : List Call → List (Option Record) → Type 0
  Had h rs = Shows (register f.final_age h) rs

  -- whatever calls a stock has had, this one is answered as their register says, and then it has had this one too
  abbrev pub Heeds : {X : Type 0} → List (Option Record) → List (Option Record) → Call → Result X Fault → (List Entry → X → Type 0) → Type 0
  Heeds before after call r P = (h : List Call) → Had h before → Outcome r (refusal f.final_age (register f.final_age h) call) (P (register f.final_age h)) × Had (h ++ call ∷ []) after

  -- the same of a call that is never refused and changes nothing
  abbrev pub Told : List (Option Record) → Call → (List Entry → Type 0) → Type 0
  Told places call P = (h : List Call) → Had h places → P (register f.final_age h) × Had (h ++ call ∷ []) places

  -- the pair of the promise that is in force under a key, and the totals of all that is in force
  abbrev pub PairOf : List Entry → ℕ → Pair → Type 0
  PairOf es key pair = (p : Promise) × (in_force es key ≡ Some p) × Worthy p pair

  abbrev pub TotalOf : List Entry → Pair → Type 0
  TotalOf es total = (total ≡ totals f interest instalments es) × Enclosing f interest instalments es total
