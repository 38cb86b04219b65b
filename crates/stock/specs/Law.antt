-- What the totals of a stock are good for. Assumes nothing.
use Rattle.std.specs.Prelude.{◌≡◌, ℕ, ◌+◌, ◌-◌, ◌*◌, ◌≤◌, Bool, true, false, ◌&&◌, List, [], ◌∷◌, length, sum_by, sum, count_by, ◌==◌}
use Rattle.basis.specs.Figures.{Figures}
use Rattle.valuation.specs.Benefits.{name}
use Rattle.valuation.specs.declared.pair.Pair.{Pair}
use Rattle.valuation.specs.Exact.{exact_cents}
use Rattle.valuation.specs.Fraction.{Fraction, Proper, whole, nought, ◌⊕◌, ◌≼◌}
use Rattle.valuation.specs.Pair.{lower, upper}
use Rattle.stock.specs.Register.{Promise, Entry}

-- On figures f, under an interest and a number of instalments.
module _ (f : Figures) (interest instalments : ℕ) where
  -- the exact present value of a promise in cents, and all of a register added up
  abbrev pub exact_of : Promise → Fraction
  exact_of p = exact_cents f interest instalments p.benefit p.age p.amounts

  unfoldable pub exact_sum : List Entry → Fraction
  exact_sum [] = nought
  exact_sum (e ∷ es) = exact_of e.promise ⊕ exact_sum es

  -- the pair of a promise, and all of a register added up
  abbrev pub pair_of : Promise → Pair
  pair_of p = record { lower = lower f interest instalments p.benefit p.age p.amounts; upper = upper f interest instalments p.benefit p.age p.amounts }

  abbrev pub totals : List Entry → Pair
  totals es = record { lower = sum_by (λ e. (pair_of e.promise).lower) es; upper = sum_by (λ e. (pair_of e.promise).upper) es }

  -- the yearly amounts of all promises in force
  abbrev pub yearly : List Entry → ℕ
  yearly es = sum_by (λ e. sum e.promise.amounts) es

  -- The totals of a register: they enclose the exact sum, which is a fraction, and are as near to each other as is promised.
  pub record Enclosing (es : List Entry) (total : Pair) : Type 0 where
    pub proper : Proper (exact_sum es)
    pub low : whole total.lower ≼ exact_sum es
    pub high : exact_sum es ≼ whole total.upper
    pub gap : 1000 * (total.upper - total.lower) ≤ 20000 * length es + yearly es

-- whether two promises are the same
unfoldable pub same_numbers : List ℕ → List ℕ → Bool
same_numbers [] [] = true
same_numbers [] (n ∷ ns) = false
same_numbers (m ∷ ms) [] = false
same_numbers (m ∷ ms) (n ∷ ns) = m == n && same_numbers ms ns

abbrev pub same : Promise → Promise → Bool
same p q = same_numbers (name p.benefit) (name q.benefit) && (p.age == q.age && same_numbers p.amounts q.amounts)

-- how often a promise stands in a register
abbrev pub often : List Entry → Promise → ℕ
often es p = count_by (λ e. same e.promise p) es

-- each promise stands equally often in both registers, under whatever keys
abbrev pub EquallyOften : List Entry → List Entry → Type 0
EquallyOften es ds = (p : Promise) → often es p ≡ often ds p
