-- What a run of calls leaves in force, and its totals. Assumes nothing.
use Rattle.std.specs.Prelude.{List, map}
use Rattle.basis.specs.Figures.{Figures}
use Rattle.valuation.specs.declared.pair.Pair.{Pair}
use Rattle.stock.specs.declared.run.Run.{Run}
use Rattle.stock.specs.Handed.{told}
use Rattle.stock.specs.Law.{Enclosing}
use Rattle.stock.specs.Register.{Entry, register}
use Rattle.stock.specs.Told.{TotalOf}

-- For bases that have these figures.
module _ {B : Type 0} (figures : B → Figures) where
  abbrev pub in_force_after : Run B → List Entry
  in_force_after run = register (figures run.basis).final_age (map told run.calls.now)

  -- the totals after a run, and what they are good for
  abbrev pub TotalAfter : Run B → Pair → Type 0
  TotalAfter run total = TotalOf (figures run.basis) run.terms.interest run.terms.instalments (in_force_after run) total

  abbrev pub Encloses : Run B → Pair → Type 0
  Encloses run total = Enclosing (figures run.basis) run.terms.interest run.terms.instalments (in_force_after run) total
