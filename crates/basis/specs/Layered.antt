-- The layers obey the laws over any lawful figures, and what their code reads is what they tell. Assumes nothing.
use Rattle.std.specs.Prelude.{◌≡◌, ℕ, ◌-◌, ◌<◌, ◌≤◌, cond, ℤ, pos, ◌+ℤ◌, ◌==◌, nat_lt, refl}
use Rattle.std.proofs.Common.{ap, sym, ◌∙◌, arith}
use Rattle.std.proofs.lemmas.Int.{ints, clamps}
use Rattle.std.proofs.lemmas.Bool.{cond_both, ltb-true}
use Rattle.basis.specs.declared.kind.Kind.{Kind}
use Rattle.basis.specs.declared.kind.Kind.TheVariants.{Invalidity, ActiveDeath, InvalidDeath, PopulationDeath, WidowDeath, Married, SpouseAge}
use Rattle.basis.specs.Figures.{Figures, Lawful, count, limit}
use Rattle.basis.specs.Layers.{brought, moved_age, read_age, shifted, raised, raised_death, loaded, loaded_figure}
use Rattle.basis.specs.Listed.{listed_inside, listed_lawful, count_most, limit_most}

-- no figure is above a million
pub million : (f : Figures) → Lawful f → (k : Kind) (x : ℕ) → f.figure k x ≤ 1000000
million f lawful k x = omega (arith, lawful.limited k x, limit_most k)

-- an age that a list has is one of the ages
pub aged_in : (f : Figures) → Lawful f → (k : Kind) (x : ℕ) → x < count f.final_age k → x ≤ 120
aged_in f lawful k x l = omega (arith, count_most f.final_age k lawful.aged.1)

brought_low : (low high : ℕ) (a : ℤ) → low ≤ brought low high a
brought_low low high a = omega (arith, ints, clamps)

-- from the final age on, what is read is from the final age on
moved_from : (z : ℕ) (s : ℤ) (x : ℕ) → z ≤ 80 → z ≤ x → z ≤ moved_age z s x
moved_from z s x small h = cond_both (x == 120) 120 (cond (nat_lt x z) (brought 0 (z - 1) (pos x +ℤ s)) (brought z 120 (pos x +ℤ s))) (λ n. z ≤ n)
    (λ e. omega arith)
    (λ e. cond_both (nat_lt x z) (brought 0 (z - 1) (pos x +ℤ s)) (brought z 120 (pos x +ℤ s)) (λ n. z ≤ n)
    (λ t. let l : x < z = ltb-true x z t in omega arith)
    (λ t. brought_low z 120 (pos x +ℤ s)))

shifted_limited : (f : Figures) → Lawful f → (s : ℤ) (k : Kind) (x : ℕ) → x < count f.final_age k → f.figure k (read_age f.final_age s k x) ≤ limit k
shifted_limited f lawful s k x l = lawful.limited k (read_age f.final_age s k x)

pub shifted_lawful : (f : Figures) → Lawful f → (s : ℤ) → Lawful (shifted s f)
shifted_lawful f lawful s =
    let z = f.final_age in
    listed_lawful z (λ k x. f.figure k (read_age z s k x)) (record {
      from = lawful.aged.0;
      to = lawful.aged.1;
      limited = shifted_limited f lawful s;
      exits = λ x l. lawful.exits (moved_age z s x);
      seamless = λ x h l. lawful.seamless (moved_age z s x) (moved_from z s x lawful.aged.1 h);
      invalid_end = lawful.closed.0;
      population_end = lawful.closed.1;
      widow_end = lawful.closed.2;
    })

-- what the code reads below is the layer's figure
pub shifted_read : (f : Figures) (s : ℤ) (k : Kind) (x z n a r : ℕ) → z ≡ f.final_age → n ≡ count z k → x < n → a ≡ read_age z s k x → r ≡ f.figure k a → r ≡ (shifted s f).figure k x
shifted_read f s k x z n a r ez en l ea er =
    let inside : x < count f.final_age k = omega (arith, en, ap (λ y. count y k) ez) in
    er ∙ ap (f.figure k) (ea ∙ ap (λ y. read_age y s k x) ez) ∙ sym (listed_inside f.final_age (λ l y. f.figure l (read_age f.final_age s l y)) k x inside)

raised_limited : (t x q : ℕ) → raised_death t x q ≤ 1000000
raised_limited t x q = cond_both (x == 120) 1000000 (raised t q 1000000) (λ n. n ≤ 1000000) (λ e. omega arith) (λ e. omega arith)

loaded_limited : (f : Figures) → Lawful f → (t : ℕ) (k : Kind) (x : ℕ) → x < count f.final_age k → loaded_figure t f k x ≤ limit k
loaded_limited f lawful t Invalidity x l = lawful.limited Invalidity x
loaded_limited f lawful t ActiveDeath x l = omega arith
loaded_limited f lawful t InvalidDeath x l = raised_limited t x (f.figure InvalidDeath x)
loaded_limited f lawful t PopulationDeath x l = raised_limited t x (f.figure PopulationDeath x)
loaded_limited f lawful t WidowDeath x l = raised_limited t x (f.figure WidowDeath x)
loaded_limited f lawful t Married x l = lawful.limited Married x
loaded_limited f lawful t SpouseAge x l = lawful.limited SpouseAge x

pub loaded_lawful : (f : Figures) → Lawful f → (t : ℕ) → Lawful (loaded t f)
loaded_lawful f lawful t = listed_lawful f.final_age (loaded_figure t f) (record {
  from = lawful.aged.0;
  to = lawful.aged.1;
  limited = loaded_limited f lawful t;
  exits = λ x l. omega (arith, lawful.limited Invalidity x);
  seamless = λ x h l. ap (raised_death t x) (lawful.seamless x h);
  invalid_end = refl;
  population_end = refl;
  widow_end = refl;
})
