-- A stock's answers on its own basis and terms. Assumes nothing.
use Rattle.std.proofs.Common.{◌≡◌, ℕ, ◌+◌, ◌<◌, ltb, min, List, [], ◌∷◌, ◌++◌, map, length, get_or, take, Some, None, Ok, Err, Result, sym, refl, ap, ◌∙◌, subst, arith}
use Rattle.std.proofs.lemmas.Bool.Decides.{nat_tests}
use Rattle.std.proofs.lemmas.List.{length-take}
use Rattle.fault.specs.declared.Fault.{Fault}
use Rattle.basis.specs.Figures.{Figures}
use Rattle.valuation.specs.declared.terms.Terms.{Terms}
use Rattle.stock.specs.declared.stock.Stock.{Stock}
use Rattle.stock.specs.declared.call.Call.{Call as LentCall}
use Rattle.stock.specs.declared.call.Answer.{Answer}
use Rattle.stock.specs.declared.call.Answer.TheVariants.{Done}
use Rattle.stock.specs.Handed.{told}
use Rattle.stock.specs.Register.{Entry, Call, refusal, granted, unless, register}
use Rattle.stock.specs.Stocks.{Silent, AnswerIn, Answered, HasHad, Kept}
use Rattle.stock.specs.Told.{Had, Shows}
use Rattle.stock.proofs.Heeding.{had_after, heeds_as}
use Rattle.stock.proofs.Running.{one_played}

-- of a column no more than the least is lent, and so it is long enough just if the column is
pub lent : (places : List ℕ) (n column : ℕ) → length places ≡ 512 → n ≡ min column 512 → ltb (length (take n places)) 512 ≡ ltb column 512
lent places n column full least =
    let long : length (take n places) ≡ n = omega (arith, length-take n places) in
    ap (λ m. ltb m 512) (long ∙ least) ∙ grind (arith, nat_tests)

abbrev pub done : {X : Type 0} → Result X Fault → Result Answer Fault
done (Ok x) = Ok Done
done (Err e) = Err e

module _ {B : Type 0} (figures : B → Figures) where
  -- a refused call changes nothing
  pub refused : {X : Type 0} (s : Stock B) (call : Call) (r : Result X Fault) (P : List Entry → X → Type 0) (e : Fault) → r ≡ Err e
      → ((h : List Call) → HasHad figures s h → refusal (figures s.basis).final_age (register (figures s.basis).final_age h) call ≡ Some e) → Answered figures s s call r P
  refused s call r P e is why = record {
    heeds = λ h had. let es = register (figures s.basis).final_age h in
        let w = why h had in (rw is w, had_after _ _ _ h call _ es (ap (λ o. unless o es (granted es call)) w) had);
    kept = (refl, refl);
    still = rw is refl;
  }

  -- a granted one makes of the places what it makes of the register
  pub grants : {X : Type 0} (before after : Stock B) (call : Call) (x : X) (P : List Entry → X → Type 0) → Kept before after
      → ((h : List Call) → HasHad figures before h → (refusal (figures before.basis).final_age (register (figures before.basis).final_age h) call ≡ None) × P (register (figures before.basis).final_age h) x × Shows (figures before.basis) before.terms.interest before.terms.instalments (granted (register (figures before.basis).final_age h) call) after.slots.records)
      → Answered figures before after call (Ok x) P
  grants before after call x P kept shows = record {
    heeds = λ h had. let es = register (figures before.basis).final_age h in
        let s = shows h had in ((s.0, s.1), had_after _ _ _ h call _ _ (ap (λ o. unless o es (granted es call)) s.0) s.2);
    kept = kept;
    still = tt;
  }

  -- a call that is played is answered as one that is refused and granted alike, and that tells nothing
  pub played : {X : Type 0} (before after : Stock B) (call d : LentCall) (c : Call) (r : Result X Fault) (q : Result Answer Fault) → Answered figures before after c r Silent → q ≡ done r → call ≡ d
      → ((z : ℕ) (es : List Entry) → refusal z es c ≡ refusal z es (told d)) → ((es : List Entry) → granted es c ≡ granted es (told d)) → ((es : List Entry) → AnswerIn figures before (told d) es Done) → Answered figures before after (told call) q (AnswerIn figures before (told call))
  played {X} before after call d c r q a answer this alike same tells = subst (λ x. Answered figures before after (told x) q (AnswerIn figures before (told x))) (sym this) (step r q answer a)
    where
      step : (s : Result X Fault) (q : Result Answer Fault) → q ≡ done s → Answered figures before after c s Silent → Answered figures before after (told d) q (AnswerIn figures before (told d))
      step (Ok x) q is a = record {
        heeds = rw is (heeds_as _ _ _ _ _ c (told d) (Ok Done) (AnswerIn figures before (told d)) (alike _) same (λ h had. let b = a.heeds h had in ((b.0.0, tells _), b.1)));
        kept = a.kept;
        still = rw is tt;
      }
      step (Err e) q is a = record {
        heeds = rw is (heeds_as _ _ _ _ _ c (told d) (Err e) (AnswerIn figures before (told d)) (alike _) same a.heeds);
        kept = a.kept;
        still = rw is a.still;
      }

  -- what holds on a basis and terms holds on those that are equal
  pub moved : (P : Figures → ℕ → ℕ → Type 0) (b b' : B) (t t' : Terms) → b' ≡ b → t' ≡ t → P (figures b) t.interest t.instalments → P (figures b') t'.interest t'.instalments
  moved P b b' t t' eb et x = subst (λ c. P (figures c) t'.interest t'.instalments) (sym eb) (subst (λ u. P (figures b) u.interest u.instalments) (sym et) x)

  -- a stock that has been answered has had one call more of a run
  pub had_more : {X : Type 0} (before after : Stock B) (h : List Call) (calls : List LentCall) (n : ℕ) (d : LentCall) (r : Result X Fault) (P : List Entry → X → Type 0) → n < length calls → Answered figures before after (told (get_or calls n d)) r P
      → HasHad figures before (h ++ map told (take n calls)) → HasHad figures after (h ++ map told (take (n + 1) calls))
  had_more before after h calls n d r P inside a had =
      subst (HasHad figures after) (one_played h calls n d inside)
      (moved (λ f i t. Had f i t ((h ++ map told (take n calls)) ++ told (get_or calls n d) ∷ []) after.slots.records) before.basis after.basis before.terms after.terms a.kept.0 a.kept.1 (a.heeds (h ++ map told (take n calls)) had).1)
