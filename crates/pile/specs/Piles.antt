-- A pile obeys the laws, by those of the single layers. Assumes nothing.
use Rattle.std.specs.Prelude.{◌≡◌, List, [], ◌∷◌, ◌++◌, refl}
use Rattle.pile.specs.declared.bottom.Bottom.{Bottom}
use Rattle.pile.specs.declared.bottom.Bottom.TheVariants.{Line, Table}
use Rattle.pile.specs.declared.layer.Layer.{Layer}
use Rattle.pile.specs.declared.layer.Layer.TheVariants.{Shift, Loading}
use Rattle.basis.specs.Figures.{Figures, Lawful}
use Rattle.basis.specs.Layered.{shifted_lawful, loaded_lawful}
use Rattle.basis.specs.Listed.{listed_outside}
use Rattle.basis.specs.StraightLines.{straight_line_lawful}
use Rattle.pile.specs.Pile.{bottom_figures, laid, piled}

pub bottom_lawful : (b : Bottom) → Lawful (bottom_figures b)
bottom_lawful (Line b) = straight_line_lawful b.final_age b.invalidity b.old_enough b.young_enough b.modest
bottom_lawful (Table b) = record { aged = b.aged; limited = b.limited; ended = listed_outside b.rows.final_age _; exits = b.exits; seamless = b.seamless; closed = b.closed }

laid_lawful : (layer : Layer) (f : Figures) → Lawful f → Lawful (laid layer f)
laid_lawful (Shift s) f lawful = shifted_lawful f lawful s.years
laid_lawful (Loading l) f lawful = loaded_lawful f lawful l.thousandths

pub piled_lawful : (layers : List Layer) (f : Figures) → Lawful f → Lawful (piled layers f)
unfolding piled
piled_lawful [] f lawful = lawful
piled_lawful (layer ∷ above) f lawful = piled_lawful above (laid layer f) (laid_lawful layer f lawful)

-- one more layer on top
pub piled_more : (layers : List Layer) (layer : Layer) (f : Figures) → piled (layers ++ layer ∷ []) f ≡ laid layer (piled layers f)
unfolding piled
piled_more [] layer f = refl
piled_more (lowest ∷ above) layer f = piled_more above layer (laid lowest f)

-- no layer alters the final age
pub piled_aged : (layers : List Layer) (f : Figures) → (piled layers f).final_age ≡ f.final_age
unfolding piled
piled_aged [] f = refl
piled_aged (Shift s ∷ above) f = piled_aged above (laid (Shift s) f)
piled_aged (Loading l ∷ above) f = piled_aged above (laid (Loading l) f)
