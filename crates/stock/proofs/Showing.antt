-- The places of a stock show its register, from call to call. Assumes nothing.
use Rattle.std.proofs.Common.{◌≡◌, ℕ, zero, suc, ◌<◌, Bool, true, false, cond, eqb, List, [], ◌∷◌, length, get_or, set, replicate, is_some, Some, None, sum_by, Option, sym, refl, ap, ◌∙◌, subst, arith}
use Rattle.std.proofs.lemmas.Bool.{false≢true, true≢false}
use Rattle.std.proofs.lemmas.Option.{same_Some}
use Rattle.std.proofs.lemmas.List.Folds.{sum_by-replicate}
use Rattle.std.proofs.lemmas.List.Sums.{sum_by-cons, sum_by-set}
use Rattle.basis.specs.Figures.{Figures}
use Rattle.valuation.specs.declared.pair.Pair.{Pair}
use Rattle.stock.specs.declared.record.Record.{Record}
use Rattle.stock.specs.Slots.{low_of, high_of, Holds, Vacant, pair_in, found}
use Rattle.stock.specs.Register.{Promise, Entry, entry, in_force, exchanged, struck}
use Rattle.stock.specs.Law.{pair_of}
use Rattle.stock.specs.Told.{Apart, Once, pair_for, Worth, Worthy, Shows}
use Rattle.stock.proofs.Places.{Own, count_of, filled, own_of, none_own, found_put, apart_put, clear_none, clear_own}
use Rattle.stock.proofs.Registers.{found_entered, once_entered, found_exchanged, once_exchanged, all_exchanged, sum_exchanged, found_struck, once_struck, all_struck, sum_struck}

-- nothing at all
pub found_nothing : (n k : ℕ) → found (replicate n None) k ≡ None
unfolding found
found_nothing zero k = refl
found_nothing (suc n) k = found_nothing n k

apart_nothing : (n : ℕ) → Apart (replicate n None)
unfolding Apart
apart_nothing zero = tt
apart_nothing (suc n) = apart_nothing n

module _ (f : Figures) (interest t : ℕ) where
  pub shows_nothing : (n : ℕ) → Shows f interest t [] (replicate n None)
  unfolding in_force Once
  shows_nothing n = record {
    look = found_nothing n;
    apart = apart_nothing n;
    once = tt;
    worth = tt;
    lows = omega (arith, sum_by-replicate low_of n None);
    highs = omega (arith, sum_by-replicate high_of n None);
    counted = omega (arith, sum_by-replicate count_of n None);
  }

  -- a choice, valued
  pair_cond : (b : Bool) (x y : Option Promise) → cond b (pair_for f interest t x) (pair_for f interest t y) ≡ pair_for f interest t (cond b x y)
  pair_cond true x y = refl
  pair_cond false x y = refl

  -- a place changed for a key: both sides find the same
  look_put : (key : ℕ) (es ds : List Entry) (rs : List (Option Record)) (i : ℕ) (new : Option Record) (p : Option Promise) → i < length rs → Own key (get_or rs i None) → Own key new → found (set rs i None) key ≡ None
      → pair_in new ≡ pair_for f interest t p → ((k : ℕ) → in_force ds k ≡ cond (eqb key k) p (in_force es k)) → ((k : ℕ) → found rs k ≡ pair_for f interest t (in_force es k))
      → (k : ℕ) → found (set rs i new) k ≡ pair_for f interest t (in_force ds k)
  look_put key es ds rs i new p inside own mine none pair after before k =
      found_put key rs i new inside own mine none k
      ∙ ap (λ x. cond (eqb key k) x (found rs k)) pair
      ∙ ap (cond (eqb key k) (pair_for f interest t p)) (before k)
      ∙ pair_cond (eqb key k) p (in_force es k)
      ∙ ap (pair_for f interest t) (sym (after k))

  -- what a place adds
  slot_low : (r : Option Record) (q : Pair) → pair_in r ≡ Some q → (low_of r ≡ q.lower) × (high_of r ≡ q.upper) × (count_of r ≡ 1)
  slot_low None q e = absurd (false≢true (ap is_some e))
  slot_low (Some r) q e = let same = same_Some _ _ e in (ap (λ x. x.lower) same, ap (λ x. x.upper) same, refl)

  -- what a key that has a place stands for, what the place adds, and that no other has the key
  pub record Present (es : List Entry) (rs : List (Option Record)) (key i : ℕ) : Type 0 where
    pub old : Promise
    pub stands : in_force es key ≡ Some old
    pub inside : i < length rs
    pub own : Own key (get_or rs i None)
    pub clear : found (set rs i None) key ≡ None
    pub adds : (low_of (get_or rs i None) ≡ (pair_of f interest t old).lower) × (high_of (get_or rs i None) ≡ (pair_of f interest t old).upper) × (count_of (get_or rs i None) ≡ 1)

  pub present : (es : List Entry) (rs : List (Option Record)) (key i : ℕ) → Shows f interest t es rs → length rs ≡ 512 → Holds rs key i → Present es rs key i
  present es rs key i shows full held = step (in_force es key) refl (sym held.pair ∙ shows.look key)
    where
      step : (o : Option Promise) → in_force es key ≡ o → pair_in (get_or rs i None) ≡ pair_for f interest t (in_force es key) → Present es rs key i
      step (Some p) e same = record {
        old = p;
        stands = e;
        inside = omega (arith, full, held.inside);
        own = own_of key (get_or rs i None) held.has;
        clear = clear_own key rs i shows.apart held.has;
        adds = slot_low (get_or rs i None) (pair_of f interest t p) (same ∙ ap (pair_for f interest t) e);
      }
      step None e same = absurd (false≢true (sym (ap is_some (same ∙ ap (pair_for f interest t) e)) ∙ filled key (get_or rs i None) held.has))

  pub absent : (es : List Entry) (rs : List (Option Record)) (key : ℕ) → Shows f interest t es rs → found rs key ≡ None → in_force es key ≡ None
  absent es rs key shows none = step (in_force es key) (sym (shows.look key) ∙ none)
    where
      step : (o : Option Promise) → pair_for f interest t o ≡ None → o ≡ None
      step None e = refl
      step (Some p) e = absurd (true≢false (ap is_some e))

  ones : (es : List Entry) → sum_by (λ e. 1) es ≡ length es
  ones [] = refl
  ones (e ∷ es) = sum_by-cons (λ e. 1) e es ∙ omega (arith, ones es)

  abbrev lower_of : Promise → ℕ
  lower_of p = (pair_of f interest t p).lower

  abbrev upper_of : Promise → ℕ
  upper_of p = (pair_of f interest t p).upper

  -- admit
  pub shows_admit : (es : List Entry) (rs : List (Option Record)) (key i : ℕ) (p : Promise) (r : Record) → Shows f interest t es rs → length rs ≡ 512 → Vacant rs key i → r.key ≡ key → Worthy f interest t p r.pair
      → Shows f interest t (entry key p ∷ es) (set rs i (Some r))
  shows_admit es rs key i p r shows full vacant mine worthy =
      let pair = worthy.stated in
      let inside : i < length rs = omega (arith, full, vacant.inside) in
      let free = vacant.free in
      let none = vacant.none in
      let clear = clear_none key rs i none in
      let own = none_own key (get_or rs i None) free in
      record {
        look = look_put key es (entry key p ∷ es) rs i (Some r) (Some p) inside own mine clear (ap Some pair) (found_entered key p es) shows.look;
        apart = apart_put key rs i (Some r) inside own mine clear shows.apart;
        once = once_entered key p es (absent es rs key shows none) shows.once;
        worth = (subst (Worthy f interest t p) pair worthy, shows.worth);
        lows = omega (arith, sum_by-set low_of rs i (Some r) None inside, ap low_of free, ap (λ x. x.lower) pair, shows.lows, sum_by-cons (λ e. lower_of e.promise) (entry key p) es);
        highs = omega (arith, sum_by-set high_of rs i (Some r) None inside, ap high_of free, ap (λ x. x.upper) pair, shows.highs, sum_by-cons (λ e. upper_of e.promise) (entry key p) es);
        counted = omega (arith, sum_by-set count_of rs i (Some r) None inside, ap count_of free, shows.counted);
      }

  -- amend
  pub shows_amend : (es : List Entry) (rs : List (Option Record)) (key i : ℕ) (p : Promise) (r : Record) → Shows f interest t es rs → length rs ≡ 512 → Holds rs key i → r.key ≡ key → Worthy f interest t p r.pair
      → Shows f interest t (exchanged key p es) (set rs i (Some r))
  shows_amend es rs key i p r shows full held mine worthy =
      let pair = worthy.stated in
      let before = present es rs key i shows full held in
      let some : is_some (in_force es key) ≡ true = ap is_some before.stands in
      record {
        look = look_put key es (exchanged key p es) rs i (Some r) (Some p) before.inside before.own mine before.clear (ap Some pair) (found_exchanged key p es some) shows.look;
        apart = apart_put key rs i (Some r) before.inside before.own mine before.clear shows.apart;
        once = once_exchanged key p es some shows.once;
        worth = all_exchanged key p (Worth f interest t) es shows.worth (subst (Worthy f interest t p) pair worthy);
        lows = omega (arith, sum_by-set low_of rs i (Some r) None before.inside, before.adds.0, ap (λ x. x.lower) pair, shows.lows, sum_exchanged key p lower_of es before.old before.stands);
        highs = omega (arith, sum_by-set high_of rs i (Some r) None before.inside, before.adds.1, ap (λ x. x.upper) pair, shows.highs, sum_exchanged key p upper_of es before.old before.stands);
        counted = omega (arith, sum_by-set count_of rs i (Some r) None before.inside, before.adds.2, shows.counted, sum_exchanged key p (λ q. 1) es before.old before.stands, ones es, ones (exchanged key p es));
      }

  -- release
  pub shows_release : (es : List Entry) (rs : List (Option Record)) (key i : ℕ) → Shows f interest t es rs → length rs ≡ 512 → Holds rs key i → Shows f interest t (struck key es) (set rs i None)
  shows_release es rs key i shows full held =
      let before = present es rs key i shows full held in
      record {
        look = look_put key es (struck key es) rs i None None before.inside before.own tt before.clear refl (found_struck key es shows.once) shows.look;
        apart = apart_put key rs i None before.inside before.own tt before.clear shows.apart;
        once = once_struck key es shows.once;
        worth = all_struck key (Worth f interest t) es shows.worth;
        lows = omega (arith, sum_by-set low_of rs i None None before.inside, before.adds.0, shows.lows, sum_struck key lower_of es before.old before.stands);
        highs = omega (arith, sum_by-set high_of rs i None None before.inside, before.adds.1, shows.highs, sum_struck key upper_of es before.old before.stands);
        counted = omega (arith, sum_by-set count_of rs i None None before.inside, before.adds.2, shows.counted, sum_struck key (λ q. 1) es before.old before.stands, ones es, ones (struck key es));
      }
