-- The register under each call: what is found in it, and what a sum over it comes to. Assumes nothing.
use Rattle.std.proofs.Common.{◌≡◌, ℕ, ◌+◌, Bool, true, false, cond, eqb, List, [], ◌∷◌, is_some, Some, None, sum_by, Option, sym, refl, ap, ◌∙◌, arith}
use Rattle.std.specs.List.{AllByRecursion}
use Rattle.std.proofs.lemmas.Bool.{cond-true, cond-false, false≢true, eqb-true}
use Rattle.std.proofs.lemmas.Option.{same_Some}
use Rattle.std.proofs.lemmas.List.Sums.{sum_by-cons}
use Rattle.stock.specs.Register.{Promise, Entry, entry, in_force, exchanged, struck}
use Rattle.stock.specs.Told.{Once}
use Rattle.stock.proofs.Keys.{swap, skip, other_key, same_key, turned}

-- past an entry of another key
past_it : (e : Entry) (es : List Entry) (key : ℕ) → eqb e.key key ≡ false → in_force (e ∷ es) key ≡ in_force es key
unfolding in_force
past_it e es key past = cond-false _ _ _ past

here_it : (e : Entry) (es : List Entry) (key : ℕ) → eqb e.key key ≡ true → in_force (e ∷ es) key ≡ Some e.promise
unfolding in_force
here_it e es key here = cond-true _ _ _ here

-- a new entry
pub found_entered : (key : ℕ) (p : Promise) (es : List Entry) (k : ℕ) → in_force (entry key p ∷ es) k ≡ cond (eqb key k) (Some p) (in_force es k)
unfolding in_force
found_entered key p es k = refl

pub once_entered : (key : ℕ) (p : Promise) (es : List Entry) → in_force es key ≡ None → Once es → Once (entry key p ∷ es)
unfolding Once
once_entered key p es none h = (none, h)

-- an exchange
module _ (key : ℕ) (p : Promise) where
  pub found_exchanged : (es : List Entry) → is_some (in_force es key) ≡ true → (k : ℕ) → in_force (exchanged key p es) k ≡ cond (eqb key k) (Some p) (in_force es k)
  unfolding in_force exchanged
  found_exchanged [] some k = absurd (false≢true some)
  found_exchanged (e ∷ es) some k = step (λ later. found_exchanged es later k) (eqb e.key key) refl
    where
      step : (is_some (in_force es key) ≡ true → in_force (exchanged key p es) k ≡ cond (eqb key k) (Some p) (in_force es k)) → (t : Bool) → eqb e.key key ≡ t → in_force (cond t (entry key p ∷ es) (e ∷ exchanged key p es)) k ≡ cond (eqb key k) (Some p) (cond (eqb e.key k) (Some e.promise) (in_force es k))
      step next true here = skip (eqb key k) (eqb e.key k) (Some p) (Some e.promise) (in_force es k) (same_key e.key key k (eqb-true e.key key here))
      step next false past =
          ap (cond (eqb e.key k) (Some e.promise)) (next (ap is_some (sym (past_it e es key past)) ∙ some))
          ∙ swap (eqb key k) (eqb e.key k) (Some p) (Some e.promise) (in_force es k) (other_key e.key key k past)

  pub once_exchanged : (es : List Entry) → is_some (in_force es key) ≡ true → Once es → Once (exchanged key p es)
  unfolding in_force exchanged Once
  once_exchanged [] some h = tt
  once_exchanged (e ∷ es) some h = step (λ later. once_exchanged es later h.1) (eqb e.key key) refl
    where
      step : (is_some (in_force es key) ≡ true → Once (exchanged key p es)) → (t : Bool) → eqb e.key key ≡ t → Once (cond t (entry key p ∷ es) (e ∷ exchanged key p es))
      step next true here = (ap (in_force es) (sym (eqb-true e.key key here)) ∙ h.0, h.1)
      step next false past =
          let later = ap is_some (sym (past_it e es key past)) ∙ some in
          (found_exchanged es later e.key ∙ cond-false _ _ _ (turned e.key key past) ∙ h.0, next later)

  pub all_exchanged : (P : Entry → Type 0) (es : List Entry) → AllByRecursion P es → P (entry key p) → AllByRecursion P (exchanged key p es)
  unfolding exchanged
  all_exchanged P [] h new = tt
  all_exchanged P (e ∷ es) h new = step (all_exchanged P es h.1 new) (eqb e.key key)
    where
      step : AllByRecursion P (exchanged key p es) → (t : Bool) → AllByRecursion P (cond t (entry key p ∷ es) (e ∷ exchanged key p es))
      step next true = (new, h.1)
      step next false = (h.0, next)

  pub sum_exchanged : (g : Promise → ℕ) (es : List Entry) (old : Promise) → in_force es key ≡ Some old → sum_by (λ x. g x.promise) (exchanged key p es) + g old ≡ sum_by (λ x. g x.promise) es + g p
  unfolding in_force exchanged
  sum_exchanged g [] old e = absurd (false≢true (ap is_some e))
  sum_exchanged g (e ∷ es) old there = step (sum_exchanged g es old) (eqb e.key key) refl
    where
      step : (in_force es key ≡ Some old → sum_by (λ x. g x.promise) (exchanged key p es) + g old ≡ sum_by (λ x. g x.promise) es + g p) → (t : Bool) → eqb e.key key ≡ t → sum_by (λ x. g x.promise) (cond t (entry key p ∷ es) (e ∷ exchanged key p es)) + g old ≡ sum_by (λ x. g x.promise) (e ∷ es) + g p
      step next true here =
          let same : g e.promise ≡ g old = ap g (same_Some _ _ (sym (here_it e es key here) ∙ there)) in
          omega (arith, same, sum_by-cons (λ x. g x.promise) (entry key p) es, sum_by-cons (λ x. g x.promise) e es)
      step next false past = omega (arith, next (sym (past_it e es key past) ∙ there), sum_by-cons (λ x. g x.promise) e (exchanged key p es), sum_by-cons (λ x. g x.promise) e es)

-- a key struck
module _ (key : ℕ) where
  pub found_struck : (es : List Entry) → Once es → (k : ℕ) → in_force (struck key es) k ≡ cond (eqb key k) None (in_force es k)
  unfolding in_force struck Once
  found_struck [] h k = step (eqb key k)
    where
      step : (t : Bool) → ◌≡◌ {A = Option Promise} None (cond t None None)
      step true = refl
      step false = refl
  found_struck (e ∷ es) h k = step (found_struck es h.1 k) (eqb e.key key) refl
    where
      gone : eqb e.key key ≡ true → (t : Bool) → eqb key k ≡ t → in_force es k ≡ cond t None (cond (eqb e.key k) (Some e.promise) (in_force es k))
      gone here true asked = ap (in_force es) (sym (eqb-true e.key key here ∙ eqb-true key k asked)) ∙ h.0
      gone here false other = sym (cond-false _ _ _ (same_key e.key key k (eqb-true e.key key here) other))

      step : in_force (struck key es) k ≡ cond (eqb key k) None (in_force es k) → (t : Bool) → eqb e.key key ≡ t
          → in_force (cond t es (e ∷ struck key es)) k ≡ cond (eqb key k) None (cond (eqb e.key k) (Some e.promise) (in_force es k))
      step next true here = gone here (eqb key k) refl
      step next false past = ap (cond (eqb e.key k) (Some e.promise)) next ∙ swap (eqb key k) (eqb e.key k) None (Some e.promise) (in_force es k) (other_key e.key key k past)

  pub once_struck : (es : List Entry) → Once es → Once (struck key es)
  unfolding in_force struck Once
  once_struck [] h = tt
  once_struck (e ∷ es) h = step (once_struck es h.1) (eqb e.key key) refl
    where
      step : Once (struck key es) → (t : Bool) → eqb e.key key ≡ t → Once (cond t es (e ∷ struck key es))
      step next true here = h.1
      step next false past = (found_struck es h.1 e.key ∙ cond-false _ _ _ (turned e.key key past) ∙ h.0, next)

  pub all_struck : (P : Entry → Type 0) (es : List Entry) → AllByRecursion P es → AllByRecursion P (struck key es)
  unfolding struck
  all_struck P [] h = tt
  all_struck P (e ∷ es) h = step (all_struck P es h.1) (eqb e.key key)
    where
      step : AllByRecursion P (struck key es) → (t : Bool) → AllByRecursion P (cond t es (e ∷ struck key es))
      step next true = h.1
      step next false = (h.0, next)

  pub sum_struck : (g : Promise → ℕ) (es : List Entry) (old : Promise) → in_force es key ≡ Some old → sum_by (λ x. g x.promise) (struck key es) + g old ≡ sum_by (λ x. g x.promise) es
  unfolding in_force struck
  sum_struck g [] old e = absurd (false≢true (ap is_some e))
  sum_struck g (e ∷ es) old there = step (sum_struck g es old) (eqb e.key key) refl
    where
      step : (in_force es key ≡ Some old → sum_by (λ x. g x.promise) (struck key es) + g old ≡ sum_by (λ x. g x.promise) es) → (t : Bool) → eqb e.key key ≡ t → sum_by (λ x. g x.promise) (cond t es (e ∷ struck key es)) + g old ≡ sum_by (λ x. g x.promise) (e ∷ es)
      step next true here =
          let same : g e.promise ≡ g old = ap g (same_Some _ _ (sym (here_it e es key here) ∙ there)) in
          omega (arith, same, sum_by-cons (λ x. g x.promise) e es)
      step next false past = omega (arith, next (sym (past_it e es key past) ∙ there), sum_by-cons (λ x. g x.promise) e (struck key es), sum_by-cons (λ x. g x.promise) e es)
