-- The places of a stock, as they are searched and changed. Assumes nothing.
use Rattle.std.proofs.Common.{◌≡◌, ℕ, zero, suc, ◌+◌, ◌-◌, ◌*◌, ◌<◌, ◌≤◌, Bool, true, false, cond, not, eqb, ltb, List, [], ◌∷◌, length, get_or, set, remove, position, is_some, is_none, Some, None, MatchOption, ok_or, sum_by, count_by, Option, sym, refl, ap, ◌∙◌, subst, arith}
use Rattle.std.specs.List.{position_or_len}
use Rattle.std.proofs.lemmas.Bool.{cond-false, cond-true, true≢false, false≢true, eqb-true, eq-eqb, ne_eqb, ltb-false, lt-ltb, le-ltb}
use Rattle.std.proofs.lemmas.List.{length-set}
use Rattle.std.proofs.lemmas.List.Edits.{length-remove}
use Rattle.std.proofs.lemmas.List.Quantifiers.{position-Some}
use Rattle.std.proofs.lemmas.List.Recursion.{found_at, found_nowhere}
use Rattle.std.proofs.lemmas.List.Sums.{sum_by-cons, sum_by-set, sum_by-remove, sum_by-le, get_or-le-sum_by, count_by-le-length, fails_before_first, prefix_len_is}
use Rattle.fault.specs.declared.Refusal.TheVariants.{Known, Unknown, Full}
use Rattle.fault.specs.Faults.{fault, refuse_if, first_of, Outcome}
use Rattle.valuation.specs.declared.pair.Pair.{Pair}
use Rattle.stock.specs.declared.record.Record.{Record}
use Rattle.stock.specs.Slots.{low_of, high_of, has_key, pair_in, found, Holds, Vacant, vacancy_fault, missing_fault}
use Rattle.stock.specs.Told.{Apart}
use Rattle.stock.proofs.Keys.{swap, skip, same_key, turned}

abbrev pub count_of : Option Record → ℕ
count_of r = cond (is_some r) 1 0

-- a search that answers nothing has passed every place
none_passes : (p : Option Record → Bool) (rs : List (Option Record)) → position p rs ≡ None → (k : ℕ) → k < length rs → p (get_or rs k None) ≡ false
none_passes p rs none k inside = step (ltb (position_or_len p rs) (length rs)) refl none
  where
    step : (t : Bool) → ltb (position_or_len p rs) (length rs) ≡ t → cond t (Some (position_or_len p rs)) None ≡ None → p (get_or rs k None) ≡ false
    step true e h = absurd (true≢false (ap is_some h))
    step false e h = fails_before_first p rs k None (omega (arith, ltb-false _ _ e))

-- a place that passes is the first if all before it fail, and if all fail there is none
pub first_at : (p : Option Record → Bool) (rs : List (Option Record)) (i : ℕ) → i < length rs → p (get_or rs i None) ≡ true → ((k : ℕ) → k < i → p (get_or rs k None) ≡ false) → Some i ≡ position p rs
first_at p rs i inside passes before =
    let at : position_or_len p rs ≡ i = prefix_len_is (λ r. not (p r)) rs i None (omega arith) (λ k l. ap not (before k l)) (λ l. ap not passes) in
    sym (ap (λ n. cond (ltb n (length rs)) (Some n) None) at ∙ cond-true (ltb i (length rs)) (Some i) None (lt-ltb i (length rs) inside))

pub first_nowhere : (p : Option Record → Bool) (rs : List (Option Record)) → ((k : ℕ) → k < length rs → p (get_or rs k None) ≡ false) → None ≡ position p rs
first_nowhere p rs fail =
    let at : position_or_len p rs ≡ length rs = prefix_len_is (λ r. not (p r)) rs (length rs) None (omega arith) (λ k l. ap not (fail k l)) (λ l. absurd (omega arith)) in
    sym (ap (λ n. cond (ltb n (length rs)) (Some n) None) at ∙ cond-false (ltb (length rs) (length rs)) (Some (length rs)) None (le-ltb (length rs) (length rs) (omega arith)))

-- a place that has a key has its pair
pub filled : (key : ℕ) (r : Option Record) → has_key key r ≡ true → is_some (pair_in r) ≡ true
filled key None has = has
filled key (Some r) has = refl

-- what the search for a key answers
sought : (rs : List (Option Record)) (key : ℕ) (o : Option ℕ) → length rs ≡ 512 → o ≡ position (has_key key) rs → MatchOption o (found rs key ≡ None) (Holds rs key)
unfolding found
sought rs key None full e = found_nowhere (λ xs. found xs key) (has_key key) pair_in None refl (λ _ _. refl) rs None (none_passes (has_key key) rs (sym e))
sought rs key (Some i) full e =
    let at = position-Some (has_key key) rs i None (sym e) in
    record { inside = omega (arith, at.0, full); has = at.1; pair = found_at (λ xs. found xs key) (has_key key) pair_in None refl (λ _ _. refl) rs i None at.0 at.2 at.1 }

pub held_is : (rs : List (Option Record)) (key : ℕ) (o : Option ℕ) → length rs ≡ 512 → o ≡ position (has_key key) rs → Outcome (ok_or o (fault Unknown 0 0)) (missing_fault rs key) (Holds rs key)
held_is rs key None full e = ap (λ q. refuse_if (not (is_some q)) (fault Unknown 0 0)) (sought rs key None full e)
held_is rs key (Some i) full e =
    let holds = sought rs key (Some i) full e in
    (ap (λ t. refuse_if (not t) (fault Unknown 0 0)) (ap is_some holds.pair ∙ filled key _ holds.has), holds)

pub known_is : (rs : List (Option Record)) (key : ℕ) (o : Option ℕ) → length rs ≡ 512 → o ≡ position (has_key key) rs → is_some o ≡ true → vacancy_fault rs key ≡ Some (fault Known 0 0)
known_is rs key None full e some = absurd (false≢true some)
known_is rs key (Some i) full e some =
    let holds = sought rs key (Some i) full e in
    ap (λ t. first_of (refuse_if t (fault Known 0 0)) (refuse_if (eqb (count_by is_some rs) 512) (fault Full 0 0))) (ap is_some holds.pair ∙ filled key _ holds.has)

-- how many places are taken, where all are, and where one is not
all_taken : (rs : List (Option Record)) → ((k : ℕ) → k < length rs → is_none (get_or rs k None) ≡ false) → count_by is_some rs ≡ length rs
all_taken [] all = refl
all_taken (None ∷ rs) all = absurd (true≢false (all 0 (omega arith)))
all_taken (Some r ∷ rs) all = omega (arith, sum_by-cons count_of (Some r) rs, all_taken rs (λ k inside. all (suc k) (omega arith)))

one_free : (rs : List (Option Record)) (i : ℕ) → i < length rs → get_or rs i None ≡ None → count_by is_some rs < length rs
one_free rs i inside free = omega (arith, sum_by-remove count_of rs i None inside, ap count_of free, count_by-le-length is_some (remove rs i), length-remove rs i inside)

pub vacancy_of : (rs : List (Option Record)) (key : ℕ) (o q : Option ℕ) → length rs ≡ 512 → o ≡ position (has_key key) rs → is_some o ≡ false → q ≡ position is_none rs → Outcome (ok_or q (fault Full 0 0)) (vacancy_fault rs key) (Vacant rs key)
vacancy_of rs key (Some i) q full e none at = absurd (true≢false none)
vacancy_of rs key None None full e none at =
    let new = sought rs key None full e in
    ap (λ p. first_of (refuse_if (is_some p) (fault Known 0 0)) (refuse_if (eqb (count_by is_some rs) 512) (fault Full 0 0))) new
    ∙ ap (λ t. refuse_if t (fault Full 0 0)) (eq-eqb _ _ (all_taken rs (none_passes _ rs (sym at)) ∙ full))
vacancy_of rs key None (Some i) full e none at =
    let new = sought rs key None full e in
    let here = position-Some is_none rs i None (sym at) in
    let free = none_of (get_or rs i None) here.1 in
    let room = one_free rs i here.0 free in (
      ap (λ p. first_of (refuse_if (is_some p) (fault Known 0 0)) (refuse_if (eqb (count_by is_some rs) 512) (fault Full 0 0))) new
          ∙ ap (λ t. refuse_if t (fault Full 0 0)) (ne_eqb _ _ (λ same. omega arith)),
      record { inside = omega (arith, here.0, full); free = free; none = new },
    )
  where
    none_of : (r : Option Record) → is_none r ≡ true → r ≡ None
    none_of None e = refl
    none_of (Some r) e = absurd (false≢true e)

-- what one place adds is modest
pub low_modest : (r : Option Record) → low_of r ≤ 1125899906842624
low_modest None = omega arith
low_modest (Some r) = omega (arith, r.ordered, r.small)

pub high_modest : (r : Option Record) → high_of r ≤ 1125899906842624
high_modest None = omega arith
high_modest (Some r) = omega (arith, r.small)

-- a total carried forward over the change of one place fits
pub fits : (f : Option Record → ℕ) (m : ℕ) → ((r : Option Record) → f r ≤ m) → (rs : List (Option Record)) (i : ℕ) (new d : Option Record) → length rs ≡ 512 → i < 512 → sum_by f rs - f (get_or rs i d) + f new ≤ 512 * m
fits f m modest rs i new d full inside =
    let there : i < length rs = omega arith in
    omega (arith, get_or-le-sum_by f rs i d there, sum_by-set f rs i new d there, sum_by-le f m (set rs i new) (λ k d _. modest (get_or (set rs i new) k d)), ap (λ n. n * m) (length-set rs i new ∙ full))

-- A place that is free or has the key, and gets nothing or the key, where no other place has it.
abbrev pub Own : ℕ → Option Record → Type 0
Own key None = Unit {0}
Own key (Some r) = r.key ≡ key

own_test : (key : ℕ) (r : Option Record) → Own key r → (k : ℕ) → eqb key k ≡ false → has_key k r ≡ false
own_test key None own k other = refl
own_test key (Some r) own k other = same_key r.key key k own other

-- a search that finds nothing has seen no such key
not_there : (key : ℕ) (r : Option Record) (later : Option Pair) → cond (has_key key r) (pair_in r) later ≡ None → (has_key key r ≡ false) × (later ≡ None)
not_there key None later e = (refl, e)
not_there key (Some r) later e = step (eqb r.key key) e
  where
    step : (t : Bool) → cond t (Some r.pair) later ≡ None → (t ≡ false) × (later ≡ None)
    step true h = absurd (true≢false (ap is_some h))
    step false h = (refl, h)

-- what is found with the key at its one place
put_here : (key : ℕ) (r new : Option Record) (rs : List (Option Record)) → Own key r → Own key new → found rs key ≡ None → (k : ℕ) → found (new ∷ rs) k ≡ cond (eqb key k) (pair_in new) (found (r ∷ rs) k)
unfolding found
put_here key r None rs own mine none k = step (eqb key k) refl
  where
    step : (t : Bool) → eqb key k ≡ t → found rs k ≡ cond t None (cond (has_key k r) (pair_in r) (found rs k))
    step true same = ap (found rs) (sym (eqb-true key k same)) ∙ none
    step false other = sym (cond-false _ _ _ (own_test key r own k other))
put_here key r (Some s) rs own mine none k =
    ap (λ n. cond (eqb n k) (Some s.pair) (found rs k)) mine ∙ skip (eqb key k) (has_key k r) (Some s.pair) (pair_in r) (found rs k) (own_test key r own k)

pub found_put : (key : ℕ) (rs : List (Option Record)) (i : ℕ) (new : Option Record) → i < length rs → Own key (get_or rs i None) → Own key new → found (set rs i None) key ≡ None
    → (k : ℕ) → found (set rs i new) k ≡ cond (eqb key k) (pair_in new) (found rs k)
unfolding found
found_put key [] i new inside own mine none k = absurd (omega arith)
found_put key (r ∷ rs) zero new inside own mine none k = put_here key r new rs own mine none k
found_put key (r ∷ rs) (suc i) new inside own mine none k =
    let past = not_there key r (found (set rs i None) key) none in
    ap (cond (has_key k r) (pair_in r)) (found_put key rs i new (omega arith) own mine past.1 k)
    ∙ swap (eqb key k) (has_key k r) (pair_in new) (pair_in r) (found rs k) (λ same. ap (λ n. has_key n r) (sym (eqb-true key k same)) ∙ past.0)

-- no other place has the key: where it has no place, and where keys are apart
pub clear_none : (key : ℕ) (rs : List (Option Record)) (i : ℕ) → found rs key ≡ None → found (set rs i None) key ≡ None
unfolding found
clear_none key [] i none = none
clear_none key (r ∷ rs) zero none = (not_there key r (found rs key) none).1
clear_none key (r ∷ rs) (suc i) none =
    let past = not_there key r (found rs key) none in
    cond-false _ _ _ past.0 ∙ clear_none key rs i past.1

seen : (key : ℕ) (rs : List (Option Record)) (i : ℕ) → found rs key ≡ None → has_key key (get_or rs i None) ≡ false
unfolding found
seen key [] i none = refl
seen key (r ∷ rs) zero none = (not_there key r (found rs key) none).0
seen key (r ∷ rs) (suc i) none = seen key rs i (not_there key r (found rs key) none).1

pub clear_own : (key : ℕ) (rs : List (Option Record)) (i : ℕ) → Apart rs → has_key key (get_or rs i None) ≡ true → found (set rs i None) key ≡ None
unfolding found Apart
clear_own key [] i apart own = absurd (false≢true own)
clear_own key (None ∷ rs) zero apart own = absurd (false≢true own)
clear_own key (Some r ∷ rs) zero apart own = ap (found rs) (sym (eqb-true r.key key own)) ∙ apart.0
clear_own key (None ∷ rs) (suc i) apart own = clear_own key rs i apart own
clear_own key (Some r ∷ rs) (suc i) apart own = step (clear_own key rs i apart.1 own) (eqb r.key key) refl
  where
    step : found (set rs i None) key ≡ None → (t : Bool) → eqb r.key key ≡ t → cond t (Some r.pair) (found (set rs i None) key) ≡ None
    step next true same = absurd (false≢true (sym (seen key rs i (ap (found rs) (sym (eqb-true r.key key same)) ∙ apart.0)) ∙ own))
    step next false other = next

-- keys stay apart
rest_apart : (r : Option Record) (rs : List (Option Record)) → Apart (r ∷ rs) → Apart rs
unfolding Apart
rest_apart None rs h = h
rest_apart (Some r) rs h = h.1

pub apart_put : (key : ℕ) (rs : List (Option Record)) (i : ℕ) (new : Option Record) → i < length rs → Own key (get_or rs i None) → Own key new → found (set rs i None) key ≡ None → Apart rs → Apart (set rs i new)
unfolding found Apart
apart_put key [] i new inside own mine none apart = absurd (omega arith)
apart_put key (r ∷ rs) zero None inside own mine none apart = rest_apart r rs apart
apart_put key (r ∷ rs) zero (Some s) inside own mine none apart = (ap (found rs) mine ∙ none, rest_apart r rs apart)
apart_put key (None ∷ rs) (suc i) new inside own mine none apart = apart_put key rs i new (omega arith) own mine none apart
apart_put key (Some r ∷ rs) (suc i) new inside own mine none apart =
    let past = not_there key (Some r) (found (set rs i None) key) none in
    (found_put key rs i new (omega arith) own mine past.1 r.key ∙ cond-false _ _ _ (turned r.key key past.0) ∙ apart.0, apart_put key rs i new (omega arith) own mine past.1 apart.1)

pub own_of : (key : ℕ) (r : Option Record) → has_key key r ≡ true → Own key r
own_of key None own = tt
own_of key (Some r) own = eqb-true r.key key own

pub none_own : (key : ℕ) (r : Option Record) → r ≡ None → Own key r
none_own key r e = subst (Own key) (sym e) tt
