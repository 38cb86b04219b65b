-- The checks of figures find nothing exactly where the laws hold. Assumes nothing.
use Rattle.std.proofs.Common.{◌≡◌, ℕ, ◌+◌, ◌<◌, ◌≤◌, not, eqb, leb, List, get_or, None, sym, ap, ◌∙◌, subst, ⊎_elim, arith}
use Rattle.std.proofs.lemmas.Bool.{ltb-false, le-ltb, le-leb, lt-leb, eqb-true, eq-eqb, and_cases, and_left, and_right, not-false, not_from_true, cases_lt, both_ways}
use Rattle.basis.specs.declared.kind.Kind.{Kind}
use Rattle.basis.specs.declared.kind.Kind.TheVariants.{Invalidity, ActiveDeath, InvalidDeath, PopulationDeath, WidowDeath, Married, SpouseAge}
use Rattle.basis.specs.Figures.{Figures, Lawful, Ended, Limited, Exits, Seamless, Closed, count, limit}
use Rattle.table.specs.Book.{kind_at, opening_fault, contents_fault, length_fault, book_fault, figures_fault, limit_fault, list_fault, limit_fault_at, exits_fault, exits_fault_at, seam_fault, seam_fault_at, open_end_fault, decoded}
use Rattle.fault.proofs.Firsts.{first_passes, first_passed, first_of_none, refuse_none, none_refuse, passed_on}

-- what is checked at each place of the kinds' order is checked of each kind
pub each_kind : (P : Kind → Type 0) → ((i : ℕ) → i < 7 → P (kind_at i)) → (k : Kind) → P k
each_kind P h Invalidity = h 0 (omega arith)
each_kind P h ActiveDeath = h 1 (omega arith)
each_kind P h InvalidDeath = h 2 (omega arith)
each_kind P h PopulationDeath = h 3 (omega arith)
each_kind P h WidowDeath = h 4 (omega arith)
each_kind P h Married = h 5 (omega arith)
each_kind P h SpouseAge = h 6 (omega arith)

limits : (f : Figures) → Ended f → limit_fault f ≡ None → Limited f
limits f ended none k x =
    let list : list_fault f k ≡ None = each_kind (λ l. list_fault f l ≡ None) (first_passes 7 (λ i. list_fault f (kind_at i)) none) k in
    ⊎_elim (λ l. ltb-false (limit k) (f.figure k x) (refuse_none _ _ (first_passes (count f.final_age k) (limit_fault_at f k) list x l)))
    (λ l. omega (arith, ended k x l))
    (cases_lt x (count f.final_age k))

exits : (f : Figures) → Ended f → exits_fault f ≡ None → Exits f
exits f ended none x =
    ⊎_elim (λ l. ltb-false 1000000 (f.figure Invalidity x + f.figure ActiveDeath x) (refuse_none _ _ (first_passes f.final_age (exits_fault_at f) none x l)))
    (λ l. omega (arith, ended Invalidity x l, ended ActiveDeath x l))
    (cases_lt x f.final_age)

seamless : (f : Figures) → Ended f → seam_fault f ≡ None → Seamless f
seamless f ended none x from =
    ⊎_elim (λ l.
    ⊎_elim (λ e. absurd (both_ways (leb f.final_age x) e (le-leb _ _ from)))
    (λ e. eqb-true _ _ (not-false _ e))
    (and_cases (leb f.final_age x) (not (eqb (f.figure InvalidDeath x) (f.figure PopulationDeath x))) (refuse_none _ _ (first_passes 121 (seam_fault_at f) none x l))))
    (λ l. ended InvalidDeath x l ∙ sym (ended PopulationDeath x l))
    (cases_lt x 121)

closed : (f : Figures) → f.final_age ≤ 80 → Seamless f → open_end_fault f ≡ None → Closed f
closed f small seam none =
    let parts = first_of_none _ _ none in
    let invalid : f.figure InvalidDeath 120 ≡ 1000000 = eqb-true _ _ (not-false _ (refuse_none _ _ parts.0)) in
    (invalid, sym (seam 120 (omega arith)) ∙ invalid, eqb-true _ _ (not-false _ (refuse_none _ _ parts.1)))

pub figures_lawful : (f : Figures) → 20 ≤ f.final_age → f.final_age ≤ 80 → Ended f → figures_fault f ≡ None → Lawful f
figures_lawful f low high ended none =
    let a = first_of_none _ _ none in
    let b = first_of_none _ _ a.1 in
    let c = first_of_none _ _ b.1 in
    let seam = seamless f ended c.0 in
    record { aged = (low, high); limited = limits f ended a.0; ended = ended; exits = exits f ended b.0; seamless = seam; closed = closed f high seam c.1 }

-- and lawful figures pass every check
pub lawful_passes : (f : Figures) → Lawful f → figures_fault f ≡ None
lawful_passes f lawful =
    let limited : limit_fault f ≡ None = first_passed 7 (λ i. list_fault f (kind_at i)) (λ i l. first_passed _ _ (λ x m. none_refuse _ _ (le-ltb _ _ (lawful.limited (kind_at i) x)))) in
    let leaving : exits_fault f ≡ None = first_passed f.final_age (exits_fault_at f) (λ x l. none_refuse _ _ (le-ltb _ _ (lawful.exits x))) in
    let seam : seam_fault f ≡ None = first_passed 121 (seam_fault_at f) (λ x l. none_refuse _ _
    (⊎_elim (λ below. and_left _ _ (lt-leb _ _ below)) (λ from. and_right _ _ (not_from_true _ (eq-eqb _ _ (lawful.seamless x from)))) (cases_lt x f.final_age))) in
    let ends : open_end_fault f ≡ None = passed_on _ _ (none_refuse _ _ (not_from_true _ (eq-eqb _ _ lawful.closed.0))) ∙ none_refuse _ _ (not_from_true _ (eq-eqb _ _ lawful.closed.2)) in
    passed_on _ _ limited ∙ passed_on _ _ leaving ∙ passed_on _ _ seam ∙ ends

-- a book that passes until its figures are read is refused for its figures, or not at all
pub book_by_figures : (b o : List ℕ) (z : ℕ) (f : Figures) → o ≡ b → z ≡ get_or o 1 0 → opening_fault b ≡ None → contents_fault o z ≡ None → length_fault o z ≡ None → f ≡ decoded o → (book_fault b ≡ figures_fault f) × (f ≡ decoded b)
book_by_figures b o z f same aged opening contents long told =
    let own : f ≡ decoded b = told ∙ ap decoded same in
    let age : z ≡ get_or b 1 0 = aged ∙ ap (λ xs. get_or xs 1 0) same in
    let listing : contents_fault b (get_or b 1 0) ≡ None = subst (λ xs. contents_fault xs (get_or b 1 0) ≡ None) same (subst (λ y. contents_fault o y ≡ None) age contents) in
    let measured : length_fault b (get_or b 1 0) ≡ None = subst (λ xs. length_fault xs (get_or b 1 0) ≡ None) same (subst (λ y. length_fault o y ≡ None) age long) in
    (passed_on _ _ opening ∙ passed_on _ _ listing ∙ passed_on _ _ measured ∙ ap figures_fault (sym own), own)
