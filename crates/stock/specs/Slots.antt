-- The places of a stock: what each has, and what is found under a key. Assumes nothing.
use Rattle.std.specs.Prelude.{◌≡◌, ℕ, ◌<◌, Bool, true, false, cond, not, List, [], ◌∷◌, get_or, is_some, option_map, None, count_by, Option, ◌==◌, slice_index_or}
use Rattle.std.specs.Option.{option_map_or}
use Rattle.fault.specs.declared.Fault.{Fault}
use Rattle.fault.specs.declared.Refusal.TheVariants.{Known, Unknown, Full}
use Rattle.fault.specs.Faults.{fault, refuse_if, first_of}
use Rattle.valuation.specs.declared.pair.Pair.{Pair}
use Rattle.stock.specs.declared.record.Record.{Record}

-- what a place adds to the lower and to the upper total
abbrev pub low_of : Option Record → ℕ
low_of place = option_map_or (λ r. r.pair.lower) place 0

abbrev pub high_of : Option Record → ℕ
high_of place = option_map_or (λ r. r.pair.upper) place 0

abbrev pub has_key : ℕ → Option Record → Bool
has_key key place = option_map_or (λ r. r.key == key) place false

-- the pair that is found under a key, if there is one
abbrev pub pair_in : Option Record → Option Pair
pair_in place = option_map (λ r. r.pair) place

unfoldable pub found : List (Option Record) → ℕ → Option Pair
found [] key = None
found (r ∷ rs) key = cond (has_key key r) (pair_in r) (found rs key)

-- a place that has a key
pub record Holds (rs : List (Option Record)) (key i : ℕ) : Type 0 where
  pub inside : i < 512
  pub has : has_key key (slice_index_or rs i None) ≡ true
  pub pair : found rs key ≡ pair_in (slice_index_or rs i None)

-- a free place
pub record Vacant (rs : List (Option Record)) (key i : ℕ) : Type 0 where
  pub inside : i < 512
  pub free : get_or rs i None ≡ None
  pub none : found rs key ≡ None

-- why there is no place for a new key, and none of a key
abbrev pub vacancy_fault : List (Option Record) → ℕ → Option Fault
vacancy_fault rs key = first_of (refuse_if (is_some (found rs key)) (fault Known 0 0)) (refuse_if (count_by is_some rs == 512) (fault Full 0 0))

abbrev pub missing_fault : List (Option Record) → ℕ → Option Fault
missing_fault rs key = refuse_if (not (is_some (found rs key))) (fault Unknown 0 0)
