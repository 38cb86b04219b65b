-- A question on its way down the layers keeps its answer. Assumes nothing.
use Rattle.std.proofs.Common.{◌≡◌, ℕ, ◌-◌, ◌<◌, ◌≤◌, Bool, true, false, cond, eqb, List, [], ◌∷◌, ◌++◌, ℤ, sym, refl, ap, ◌∙◌, subst, arith}
use Rattle.std.proofs.lemmas.Int.{ints, clamps}
use Rattle.std.proofs.lemmas.Bool.{cond_both, cond-false, ne_eqb}
use Rattle.std.proofs.lemmas.Bool.Decides.{nat_tests}
use Rattle.basis.specs.declared.kind.Kind.{Kind}
use Rattle.basis.specs.declared.kind.Kind.TheVariants.{Invalidity, ActiveDeath, InvalidDeath, PopulationDeath, WidowDeath, Married, SpouseAge}
use Rattle.pile.specs.declared.layer.Layer.{Layer}
use Rattle.pile.specs.declared.layer.Layer.TheVariants.{Shift, Loading}
use Rattle.basis.specs.Figures.{Figures, Lawful, count}
use Rattle.basis.specs.Layers.{read_age, raised, loaded_figure}
use Rattle.basis.specs.Listed.{listed_inside}
use Rattle.pile.specs.Pile.{laid, piled}
use Rattle.pile.specs.Question.{age_below, risen, greatest, deadly, carried}
use Rattle.pile.specs.Piles.{piled_lawful, piled_more, piled_aged}

-- an age that is read below is one that the list has too
read_inside : (z : ℕ) (s : ℤ) (k : Kind) (x : ℕ) → z ≤ 80 → x < count z k → read_age z s k x < count z k
read_inside z s Invalidity x small h = grind (arith, ints, clamps, nat_tests)
read_inside z s ActiveDeath x small h = grind (arith, ints, clamps, nat_tests)
read_inside z s InvalidDeath x small h = grind (arith, ints, clamps, nat_tests)
read_inside z s PopulationDeath x small h = grind (arith, ints, clamps, nat_tests)
read_inside z s WidowDeath x small h = grind (arith, ints, clamps, nat_tests)
read_inside z s Married x small h = h
read_inside z s SpouseAge x small h = h

below_inside : (z : ℕ) (layer : Layer) (k : Kind) (x : ℕ) → z ≤ 80 → x < count z k → age_below z layer k x < count z k
below_inside z (Shift s) k x small h = read_inside z s.years k x small h
below_inside z (Loading l) k x small h = h

-- a chance of invalidity comes up unchanged
invalidity_up : (layer : Layer) (f : Figures) (x : ℕ) → x < f.final_age → (laid layer f).figure Invalidity x ≡ f.figure Invalidity (age_below f.final_age layer ActiveDeath x)
invalidity_up (Shift s) f x h = listed_inside f.final_age (λ k y. f.figure k (read_age f.final_age s.years k y)) Invalidity x h
invalidity_up (Loading l) f x h = listed_inside f.final_age (loaded_figure l.thousandths f) Invalidity x h

greatest_up : (layer : Layer) (f : Figures) (k : Kind) (x : ℕ) → x < count f.final_age k → greatest (laid layer f) k x ≡ greatest f k (age_below f.final_age layer k x)
greatest_up layer f Invalidity x h = refl
greatest_up layer f ActiveDeath x h = ap (λ i. 1000000 - i) (invalidity_up layer f x h)
greatest_up layer f InvalidDeath x h = refl
greatest_up layer f PopulationDeath x h = refl
greatest_up layer f WidowDeath x h = refl
greatest_up layer f Married x h = refl
greatest_up layer f SpouseAge x h = refl

loaded_up : (t : ℕ) (f : Figures) (k : Kind) (x : ℕ) → (x ≡ 120 → ⊥) → loaded_figure t f k x ≡ cond (deadly k) (raised t (f.figure k x) (greatest f k x)) (f.figure k x)
loaded_up t f Invalidity x early = refl
loaded_up t f ActiveDeath x early = refl
loaded_up t f InvalidDeath x early = cond-false (eqb x 120) _ _ (ne_eqb x 120 early)
loaded_up t f PopulationDeath x early = cond-false (eqb x 120) _ _ (ne_eqb x 120 early)
loaded_up t f WidowDeath x early = cond-false (eqb x 120) _ _ (ne_eqb x 120 early)
loaded_up t f Married x early = refl
loaded_up t f SpouseAge x early = refl

passed_up : (b : Bool) (F : ℕ → ℕ) (p q : ℕ) → cond b (F (cond b p q)) (cond b p q) ≡ cond b (F p) q
passed_up true F p q = refl
passed_up false F p q = refl

-- what a layer tells is what is carried up through it
carried_up : (layer : Layer) (above : List Layer) (f : Figures) (k : Kind) (x : ℕ) → x < count f.final_age k → (x ≡ 120 → ⊥) →
    carried k (greatest f k (age_below f.final_age layer k x)) (layer ∷ above) (f.figure k (age_below f.final_age layer k x)) ≡ carried k (greatest (laid layer f) k x) above ((laid layer f).figure k x)
unfolding risen
carried_up (Shift s) above f k x h early =
    rw (greatest_up (Shift s) f k x h, listed_inside f.final_age (λ l y. f.figure l (read_age f.final_age s.years l y)) k x h)
carried_up (Loading l) above f k x h early =
    rw (greatest_up (Loading l) f k x h, listed_inside f.final_age (loaded_figure l.thousandths f) k x h, loaded_up l.thousandths f k x early)
    (sym (passed_up (deadly k) (λ q. risen above q (greatest f k x)) (raised l.thousandths (f.figure k x) (greatest f k x)) (f.figure k x)))

-- marriage at the last age comes up unchanged
marriage_up : (layers : List Layer) (f : Figures) → ((piled layers f).figure Married 120 ≡ f.figure Married 120) × ((piled layers f).figure SpouseAge 120 ≡ f.figure SpouseAge 120)
unfolding piled
marriage_up [] f = (refl, refl)
marriage_up (Shift s ∷ above) f = marriage_up above (laid (Shift s) f)
marriage_up (Loading l ∷ above) f = marriage_up above (laid (Loading l) f)

-- at the last age the bottom tells what the layers over it tell
last_up : (layers above : List Layer) (f : Figures) → Lawful f → (k : Kind) → 120 < count f.final_age k →
    carried k (greatest f k 120) above (f.figure k 120) ≡ carried k (greatest (piled layers f) k 120) above ((piled layers f).figure k 120)
last_up layers above f lawful Invalidity h = omega (arith, lawful.aged.1)
last_up layers above f lawful ActiveDeath h = omega (arith, lawful.aged.1)
last_up layers above f lawful InvalidDeath h = rw (lawful.closed.0, (piled_lawful layers f lawful).closed.0)
last_up layers above f lawful PopulationDeath h = rw (lawful.closed.1, (piled_lawful layers f lawful).closed.1)
last_up layers above f lawful WidowDeath h = rw (lawful.closed.2, (piled_lawful layers f lawful).closed.2)
last_up layers above f lawful Married h = sym (marriage_up layers f).0
last_up layers above f lawful SpouseAge h = sym (marriage_up layers f).1

-- a question about age x has come down to age a, with these layers below it and these above
pub record Reached (layers below above : List Layer) (f : Figures) (k : Kind) (x a : ℕ) : Type 0 where
  pub inside : a < count f.final_age k
  pub same : carried k (greatest (piled below f) k a) above ((piled below f).figure k a) ≡ (piled layers f).figure k x

pub reached_top : (layers : List Layer) (f : Figures) (k : Kind) (x : ℕ) → x < count f.final_age k → Reached layers layers [] f k x x
unfolding risen
reached_top layers f k x h = record {
  inside = h;
  same = cond_both (deadly k) ((piled layers f).figure k x) ((piled layers f).figure k x) (λ n. n ≡ (piled layers f).figure k x) (λ _. refl) (λ _. refl);
}

pub reached_more : (layers below left above : List Layer) (layer : Layer) (f : Figures) (k : Kind) (x a : ℕ) → Lawful f → below ≡ left ++ layer ∷ [] → (a ≡ 120 → ⊥) → Reached layers below above f k x a → Reached layers left (layer ∷ above) f k x (age_below f.final_age layer k a)
unfolding piled
reached_more layers below left above layer f k x a lawful parts early over =
    let under = piled left f in
    let aged : under.final_age ≡ f.final_age = piled_aged left f in
    let whole : piled below f ≡ laid layer under = ap (λ ls. piled ls f) parts ∙ piled_more left layer f in
    let fits : a < count under.final_age k = rw aged over.inside in
    record {
      inside = below_inside f.final_age layer k a lawful.aged.1 over.inside;
      same = rw aged at (carried_up layer above under k a fits early) ∙ rw whole at over.same;
    }

-- the bottom is reached
pub reached_bottom : (layers below above : List Layer) (f : Figures) (k : Kind) (x a : ℕ) → below ≡ [] → Reached layers below above f k x a → carried k (greatest f k a) above (f.figure k a) ≡ (piled layers f).figure k x
unfolding piled
reached_bottom layers below above f k x a none over = subst (λ ls. Reached layers ls above f k x a → carried k (greatest f k a) above (f.figure k a) ≡ (piled layers f).figure k x) (sym none) (λ o. o.same) over

-- the last age is reached
pub reached_last : (layers below above : List Layer) (f : Figures) (k : Kind) (x a : ℕ) → Lawful f → a ≡ 120 → Reached layers below above f k x a → carried k (greatest f k a) above (f.figure k a) ≡ (piled layers f).figure k x
reached_last layers below above f k x a lawful last over =
    subst (λ y. Reached layers below above f k x y → carried k (greatest f k y) above (f.figure k y) ≡ (piled layers f).figure k x) (sym last)
    (λ o. last_up below above f lawful k o.inside ∙ o.same) over
