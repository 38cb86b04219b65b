-- A stock's answers are those of its register. Assumes nothing.
use Rattle.std.proofs.Common.{◌≡◌, ℕ, Bool, true, false, cond, not, ◌||◌, eqb, ltb, List, [], ◌∷◌, ◌++◌, length, is_some, Some, None, Ok, Err, sum_by, Option, Result, sym, refl, ap, ◌∙◌, subst}
use Rattle.std.specs.List.{AllByRecursion}
use Rattle.std.proofs.lemmas.Bool.{false≢true}
use Rattle.std.proofs.lemmas.Option.{same_Some}
use Rattle.std.proofs.lemmas.List.Sums.{fold_push}
use Rattle.fault.specs.declared.Fault.{Fault}
use Rattle.fault.specs.declared.Refusal.TheVariants.{Age, Span, Column, Known, Unknown, Full}
use Rattle.fault.specs.Faults.{fault, refuse_if, first_of, Outcome}
use Rattle.basis.specs.Figures.{Figures}
use Rattle.valuation.specs.declared.pair.Pair.{Pair}
use Rattle.valuation.specs.Benefits.{first_age, last_age, span}
use Rattle.valuation.specs.Admission.{amounts_fault}
use Rattle.stock.specs.declared.record.Record.{Record}
use Rattle.stock.specs.Slots.{low_of, high_of, found, vacancy_fault, missing_fault}
use Rattle.stock.specs.Register.{Promise, Entry, Call, Admit, Amend, in_force, promise_fault, unknown_fault, refusal, granted, unless, after, register}
use Rattle.stock.specs.Law.{pair_of, totals, Enclosing}
use Rattle.stock.specs.Told.{pair_for, Worth, Worthy, Shows, Had, Heeds, PairOf, TotalOf}
use Rattle.stock.proofs.Totals.{enclosing}

-- columns that are both long enough or both too short
column_as : (z : ℕ) (p : Promise) (m n : ℕ) → ltb m 512 ≡ ltb n 512 → promise_fault z p m ≡ promise_fault z p n
column_as z p m n same = ap (λ b. first_of (refuse_if (ltb p.age (first_age z p.benefit) || ltb (last_age z p.benefit) p.age) (fault Age 0 0)) (first_of (refuse_if (not (eqb (length p.amounts) (span z p.benefit p.age))) (fault Span 0 0)) (first_of (amounts_fault p.amounts) (refuse_if b (fault Column 0 0))))) same

module _ (f : Figures) (interest t : ℕ) where
  some_pair : (o : Option Promise) → is_some (pair_for f interest t o) ≡ is_some o
  some_pair None = refl
  some_pair (Some p) = refl

  -- whether a key is in force, asked of the places
  in_force_is : (es : List Entry) (rs : List (Option Record)) (key : ℕ) → Shows f interest t es rs → is_some (found rs key) ≡ is_some (in_force es key)
  in_force_is es rs key shows = ap is_some (shows.look key) ∙ some_pair (in_force es key)

  pub missing_is : (es : List Entry) (rs : List (Option Record)) (key : ℕ) → Shows f interest t es rs → unknown_fault es key ≡ missing_fault rs key
  missing_is es rs key shows = ap (λ b. refuse_if (not b) (fault Unknown 0 0)) (sym (in_force_is es rs key shows))

  pub vacancy_is : (es : List Entry) (rs : List (Option Record)) (key : ℕ) → Shows f interest t es rs
      → first_of (refuse_if (is_some (in_force es key)) (fault Known 0 0)) (refuse_if (eqb (length es) 512) (fault Full 0 0)) ≡ vacancy_fault rs key
  vacancy_is es rs key shows =
      ap (λ b. first_of (refuse_if b (fault Known 0 0)) (refuse_if (eqb (length es) 512) (fault Full 0 0))) (sym (in_force_is es rs key shows))
      ∙ ap (λ n. first_of (refuse_if (is_some (found rs key)) (fault Known 0 0)) (refuse_if (eqb n 512) (fault Full 0 0))) (sym shows.counted)

  -- what a call makes of the register, its places show
  pub had_after : (h : List Call) (call : Call) (rs : List (Option Record)) (es : List Entry) → after f.final_age (register f.final_age h) call ≡ es → Shows f interest t es rs → Had f interest t (h ++ call ∷ []) rs
  had_after h call rs es is shows = subst (λ x. Shows f interest t x rs) (sym (fold_push (after f.final_age) [] h call ∙ is)) shows

  -- a question changes nothing, refused or not
  pub had_asked : (h : List Call) (call : Call) (rs : List (Option Record)) → granted (register f.final_age h) call ≡ register f.final_age h → Had f interest t h rs → Had f interest t (h ++ call ∷ []) rs
  had_asked h call rs same had = had_after h call rs (register f.final_age h) (still (refusal f.final_age (register f.final_age h) call) (register f.final_age h) _ same) had
    where
      still : (o : Option Fault) (es ds : List Entry) → ds ≡ es → unless o es ds ≡ es
      still None es ds same = same
      still (Some e) es ds same = refl

  -- the promise in force under a key is worth what was taken
  worth_of : (es : List Entry) (key : ℕ) (p : Promise) → AllByRecursion (Worth f interest t) es → in_force es key ≡ Some p → Worthy f interest t p (pair_of f interest t p)
  unfolding in_force
  worth_of [] key p worth there = absurd (false≢true (ap is_some there))
  worth_of (e ∷ es) key p worth there = step (worth_of es key p worth.1) (eqb e.key key) there
    where
      step : (in_force es key ≡ Some p → Worthy f interest t p (pair_of f interest t p)) → (b : Bool) → cond b (Some e.promise) (in_force es key) ≡ Some p → Worthy f interest t p (pair_of f interest t p)
      step next true here = subst (λ q. Worthy f interest t q (pair_of f interest t q)) (same_Some _ _ here) worth.0
      step next false past = next past

  -- what is found under a key is its promise's pair
  pub pair_is : (es : List Entry) (rs : List (Option Record)) (key : ℕ) (pair : Pair) → Shows f interest t es rs → found rs key ≡ Some pair → PairOf f interest t es key pair
  pair_is es rs key pair shows here = step (in_force es key) refl (sym (shows.look key) ∙ here)
    where
      step : (o : Option Promise) → in_force es key ≡ o → pair_for f interest t o ≡ Some pair → PairOf f interest t es key pair
      step None e same = absurd (false≢true (ap is_some same))
      step (Some p) e same = (p, e, subst (Worthy f interest t p) (same_Some _ _ same) (worth_of es key p shows.worth e))

  pub ask_heeds : (es : List Entry) (rs : List (Option Record)) (key : ℕ) (r : Result Pair Fault) → Shows f interest t es rs → Outcome r (missing_fault rs key) (λ pair. found rs key ≡ Some pair) → Outcome r (unknown_fault es key) (PairOf f interest t es key)
  ask_heeds es rs key (Ok pair) shows told = (missing_is es rs key shows ∙ told.0, pair_is es rs key pair shows told.1)
  ask_heeds es rs key (Err e) shows told = missing_is es rs key shows ∙ told

  pub total_is : (es : List Entry) (rs : List (Option Record)) (total : Pair) → Shows f interest t es rs → total.lower ≡ sum_by low_of rs → total.upper ≡ sum_by high_of rs → TotalOf f interest t es total
  total_is es rs total shows el eu =
      let lower = el ∙ shows.lows in
      let upper = eu ∙ shows.highs in
      let same : total ≡ totals f interest t es = λ k. record { lower = lower k; upper = upper k } in
      (same, subst (Enclosing f interest t es) (sym same) (enclosing f interest t es shows.worth))

  -- calls that are refused and granted alike are heeded alike
  pub heeds_as : {X : Type 0} (before later : List (Option Record)) (c d : Call) (r : Result X Fault) (P : List Entry → X → Type 0) → ((es : List Entry) → refusal f.final_age es c ≡ refusal f.final_age es d) → ((es : List Entry) → granted es c ≡ granted es d)
      → Heeds f interest t before later c r P → Heeds f interest t before later d r P
  heeds_as before later c d r P refused same heeds h had =
      let z = f.final_age in
      let es = register z h in
      let one = heeds h had in
      let alike : after z es d ≡ after z es c = sym (ap (λ o. unless o es (granted es c)) (refused es) ∙ ap (unless (refusal z es d) es) (same es)) in
      (subst (λ o. Outcome r o (P es)) (refused es) one.0, had_after h d later _ (alike ∙ sym (fold_push (after z) [] h c)) one.1)

-- calls with columns that are both long enough or both too short are refused alike
pub admit_column : (k : ℕ) (p : Promise) (m n : ℕ) → ltb m 512 ≡ ltb n 512 → (z : ℕ) (es : List Entry) → refusal z es (Admit k p m) ≡ refusal z es (Admit k p n)
admit_column k p m n same z es = ap (λ o. first_of o (first_of (refuse_if (is_some (in_force es k)) (fault Known 0 0)) (refuse_if (eqb (length es) 512) (fault Full 0 0)))) (column_as z p m n same)

pub amend_column : (k : ℕ) (p : Promise) (m n : ℕ) → ltb m 512 ≡ ltb n 512 → (z : ℕ) (es : List Entry) → refusal z es (Amend k p m) ≡ refusal z es (Amend k p n)
amend_column k p m n same z es = ap (λ o. first_of o (unknown_fault es k)) (column_as z p m n same)
