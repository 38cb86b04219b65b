-- Figures told by a rule within the lists' ages are lawful if the rule is. Assumes nothing.
use Rattle.std.specs.Prelude.{◌≡◌, ℕ, ◌+◌, ◌<◌, ◌≤◌, cond, nat_lt, refl}
use Rattle.std.proofs.Common.{ap, sym, ◌∙◌, ⊎_elim, arith}
use Rattle.std.proofs.Math.Path.{fun_ext}
use Rattle.std.proofs.lemmas.Bool.{cond_both, cond-true, cond-false, lt-ltb, le-ltb, ltb-true, cases_lt}
use Rattle.basis.specs.declared.kind.Kind.{Kind}
use Rattle.basis.specs.declared.kind.Kind.TheVariants.{Invalidity, ActiveDeath, InvalidDeath, PopulationDeath, WidowDeath, Married, SpouseAge}
use Rattle.basis.specs.Figures.{Figures, Lawful, Ended, listed, count, limit}

-- a list that has the age tells the rule's figure
pub listed_inside : (z : ℕ) (told : Kind → ℕ → ℕ) (k : Kind) (x : ℕ) → x < count z k → (listed z told).figure k x ≡ told k x
listed_inside z told k x h = cond-true (nat_lt x (count z k)) (told k x) 0 (lt-ltb x (count z k) h)

-- one that has it not tells 0
pub listed_outside : (z : ℕ) (told : Kind → ℕ → ℕ) (k : Kind) (x : ℕ) → count z k ≤ x → (listed z told).figure k x ≡ 0
listed_outside z told k x h = cond-false (nat_lt x (count z k)) (told k x) 0 (le-ltb x (count z k) h)

abbrev made : ℕ → (Kind → ℕ → ℕ) → Figures
made z told = record { final_age = z; figure = told }

-- a rule that tells the figures of every list tells the figures
pub listed_is : (f : Figures) (told : Kind → ℕ → ℕ) → Ended f → ((k : Kind) (x : ℕ) → x < count f.final_age k → told k x ≡ f.figure k x) → listed f.final_age told ≡ f
listed_is f told ended each =
    ap (made f.final_age) (fun_ext (λ k. fun_ext (λ x.
    ⊎_elim (λ l. listed_inside f.final_age told k x l ∙ each k x l)
    (λ l. listed_outside f.final_age told k x l ∙ sym (ended k x l))
    (cases_lt x (count f.final_age k)))))

-- no list goes past the last age
pub count_most : (z : ℕ) (k : Kind) → z ≤ 80 → count z k ≤ 121
count_most z Invalidity h = omega arith
count_most z ActiveDeath h = omega arith
count_most z InvalidDeath h = omega arith
count_most z PopulationDeath h = omega arith
count_most z WidowDeath h = omega arith
count_most z Married h = omega arith
count_most z SpouseAge h = omega arith

-- no figure is above a million
pub limit_most : (k : Kind) → limit k ≤ 1000000
limit_most Invalidity = omega arith
limit_most ActiveDeath = omega arith
limit_most InvalidDeath = omega arith
limit_most PopulationDeath = omega arith
limit_most WidowDeath = omega arith
limit_most Married = omega arith
limit_most SpouseAge = omega arith

-- the laws of a rule, where its lists have figures
pub record Rules (z : ℕ) (told : Kind → ℕ → ℕ) : Type 0 where
  pub from : 20 ≤ z
  pub to : z ≤ 80
  pub limited : (k : Kind) (x : ℕ) → x < count z k → told k x ≤ limit k
  pub exits : (x : ℕ) → x < z → told Invalidity x + told ActiveDeath x ≤ 1000000
  pub seamless : (x : ℕ) → z ≤ x → x < 121 → told InvalidDeath x ≡ told PopulationDeath x
  pub invalid_end : told InvalidDeath 120 ≡ 1000000
  pub population_end : told PopulationDeath 120 ≡ 1000000
  pub widow_end : told WidowDeath 120 ≡ 1000000

pub listed_lawful : (z : ℕ) (told : Kind → ℕ → ℕ) → Rules z told → Lawful (listed z told)
listed_lawful z told r = record {
  aged = (r.from, r.to);
  limited = λ k x. cond_both (nat_lt x (count z k)) (told k x) 0 (λ n. n ≤ limit k) (λ e. r.limited k x (ltb-true x (count z k) e)) (λ e. omega arith);
  ended = λ k x h. listed_outside z told k x h;
  exits = λ x. cond_both (nat_lt x z) (told Invalidity x) 0 (λ n. n + cond (nat_lt x z) (told ActiveDeath x) 0 ≤ 1000000)
      (λ e. rw e (r.exits x (ltb-true x z e))) (λ e. rw e (omega arith));
  seamless = λ x h. cond_both (nat_lt x 121) (told InvalidDeath x) 0 (λ n. n ≡ cond (nat_lt x 121) (told PopulationDeath x) 0)
      (λ e. rw e (r.seamless x h (ltb-true x 121 e))) (λ e. rw e refl);
  closed = (r.invalid_end, r.population_end, r.widow_end);
}
