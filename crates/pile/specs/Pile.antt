-- The figures of a pile, by the definitions of the single layers. Assumes nothing.
use Rattle.std.specs.Prelude.{List, [], ◌∷◌, Some, None, vec_items, Option}
use Rattle.table.specs.declared.Table as table
use Rattle.pile.specs.declared.Pile.{Pile}
use Rattle.pile.specs.declared.bottom.Bottom.{Bottom}
use Rattle.pile.specs.declared.bottom.Bottom.TheVariants.{Line, Table}
use Rattle.pile.specs.declared.layer.Layer.{Layer}
use Rattle.pile.specs.declared.layer.Layer.TheVariants.{Shift, Loading}
use Rattle.basis.specs.Figures.{Figures}
use Rattle.basis.specs.Layers.{shifted, loaded}
use Rattle.basis.specs.StraightLine.{straight_line}
use Rattle.table.specs.Table.{tabled}

-- the bottom's own figures
abbrev pub bottom_figures : Bottom → Figures
bottom_figures (Line line) = straight_line line.final_age line.invalidity
bottom_figures (Table told) = tabled told.rows

-- the table, where the bottom is one
abbrev pub table_of : Bottom → Option table.Table
table_of (Line line) = None
table_of (Table told) = Some told

-- One layer over any figures: the definitions of the fixed layers Shifted and Loaded. So a shift laid on a pile tells, by
-- definition, what the fixed shift over that pile tells.
abbrev pub laid : Layer → Figures → Figures
laid (Shift shift) f = shifted shift.years f
laid (Loading loading) f = loaded loading.thousandths f

-- layers over any figures, the lowest first
unfoldable pub piled : List Layer → Figures → Figures
piled [] f = f
piled (layer ∷ above) f = piled above (laid layer f)

-- what a pile means: its layers over its bottom
abbrev pub pile_figures : Pile → Figures
pile_figures pile = piled (vec_items pile.layers) (bottom_figures pile.bottom)
