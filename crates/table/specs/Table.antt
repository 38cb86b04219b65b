-- The figures that the rows of a table basis stand for. Assumes nothing.
use Rattle.std.specs.Prelude.{ℕ, ◌-◌, List, [], slice_index, slice_index_or}
use Rattle.basis.specs.declared.kind.Kind.{Kind}
use Rattle.table.specs.declared.rows.Rows.{Rows}
use Rattle.basis.specs.Figures.{Figures, Lawful, Aged, Limited, Exits, Seamless, Closed, listed, rank}
use Rattle.basis.specs.Listed.{listed_outside}

-- a kind's row stands at its place in the kinds' order
abbrev pub row_of : Rows → Kind → List ℕ
row_of r k = slice_index_or r.lists (rank k - 1) []

abbrev pub tabled : Rows → Figures
tabled r = listed r.final_age (λ k x. slice_index (row_of r k) x)

-- rows that keep the laws of their figures are a basis
pub tabled_lawful : (r : Rows) → Aged (tabled r) → Limited (tabled r) → Exits (tabled r) → Seamless (tabled r) → Closed (tabled r) → Lawful (tabled r)
tabled_lawful r aged limited exits seamless closed =
    record { aged = aged; limited = limited; ended = listed_outside r.final_age _; exits = exits; seamless = seamless; closed = closed }
