-- The columns of values of amount 1 a year, from the last age down. Assumes nothing.
use Rattle.std.proofs.Common.{◌≡◌, ℕ, zero, suc, ◌+◌, ◌-◌, ◌<◌, ◌≤◌, List, length, get_or, set, sym, refl, ap, ◌∙◌, ⊎_elim, arith, length-set}
use Rattle.std.proofs.Math.Nat.{mul-div_cancel_left}
use Rattle.std.proofs.lemmas.List.{get_or-set_same, get_or-set_other}
use Rattle.std.proofs.lemmas.Bool.{cases_eq}
use Rattle.basis.specs.declared.kind.Kind.{Kind}
use Rattle.basis.specs.Figures.{Figures}
use Rattle.valuation.specs.Fixed.{scale, product}
use Rattle.valuation.specs.Pair.{running, goes_on, level_number}

-- a sum from a later year on is the sum from year 0 of a path that begins then
shifted_running : (s l : ℕ → ℕ) (x n j : ℕ) → running (λ k. s (x + k)) (λ k. l (x + k)) (λ _. scale) n (suc j) ≡ running (λ k. s (x + 1 + k)) (λ k. l (x + 1 + k)) (λ _. scale) n j
unfolding running
shifted_running s l x zero j = refl
shifted_running s l x (suc n) j =
    let same : x + suc j ≡ x + 1 + j = omega arith in
    ap (λ y. product scale (l y) + product (s y) (running (λ k. s (x + k)) (λ k. l (x + k)) (λ _. scale) n (suc (suc j)))) same
    ∙ ap (λ r. product scale (l (x + 1 + j)) + product (s (x + 1 + j)) r) (shifted_running s l x n (suc j))

-- a value of amount 1 a year: this year's share, and the next year's value for those who go on
pub level_step : (f : Figures) (interest t : ℕ) (b : Kind) (l : ℕ → ℕ) (x : ℕ) → x < 121 → level_number f interest t b l x ≡ l x + product (goes_on f interest t b x) (level_number f interest t b l (x + 1))
unfolding level_number running
level_step f interest t b l x h =
    let s : ℕ → ℕ = λ y. goes_on f interest t b y in
    let years : 121 - x ≡ suc (121 - (x + 1)) = omega arith in
    let here : x + 0 ≡ x = omega arith in
    ap (λ n. running (λ k. s (x + k)) (λ k. l (x + k)) (λ _. scale) n 0) years
    ∙ ap (λ y. product scale (l y) + product (s y) (running (λ k. s (x + k)) (λ k. l (x + k)) (λ _. scale) (121 - (x + 1)) 1)) here
    ∙ ap (λ a. a + product (s x) (running (λ k. s (x + k)) (λ k. l (x + k)) (λ _. scale) (121 - (x + 1)) 1)) (mul-div_cancel_left (l x) {n = scale} (omega arith))
    ∙ ap (λ r. l x + product (s x) r) (shifted_running s l x (121 - (x + 1)) 0)

pub level_end : (f : Figures) (interest t : ℕ) (b : Kind) (l : ℕ → ℕ) (x : ℕ) → 121 ≤ x → level_number f interest t b l x ≡ 0
unfolding level_number running
level_end f interest t b l x h = let none : 121 - x ≡ 0 = omega arith in ap (λ n. running (λ k. goes_on f interest t b (x + k)) (λ k. l (x + k)) (λ _. scale) n 0) none

-- the ages from k on are filled; later is the value at k
pub record Down (value : ℕ → ℕ) (column : List ℕ) (k later : ℕ) : Type 0 where
  pub long : length column ≡ 121
  pub here : later ≡ value k
  pub done : (x : ℕ) → k ≤ x → x < 121 → get_or column x 0 ≡ value x

pub down_none : (value : ℕ → ℕ) (column : List ℕ) → value 121 ≡ 0 → length column ≡ 121 → Down value column 121 0
down_none value column end long = record { long = long; here = sym end; done = λ x low high. absurd (omega arith) }

pub down_more : (value : ℕ → ℕ) (column : List ℕ) (k later next : ℕ) → 0 < k → k ≤ 121 → next ≡ value (k - 1) → Down value column k later → Down value (set column (k - 1) next) (k - 1) next
down_more value column k later next some few same down =
    let j = k - 1 in
    let inside : j < length column = omega (arith, down.long) in
    record {
      long = length-set column j next ∙ down.long;
      here = same;
      done = λ x low high. ⊎_elim
          (λ e. ap (λ y. get_or (set column j next) y 0) e ∙ get_or-set_same column j next 0 inside ∙ same ∙ ap value (sym e))
          (λ ne. get_or-set_other column j x next 0 (λ e. ne (omega (arith, e))) ∙ down.done x (omega (arith, ne)) high)
          (cases_eq x j);
    }

-- the number that the code has at the next age down
pub next_value : (f : Figures) (interest t : ℕ) (b : Kind) (l : ℕ → ℕ) (k later share goes part : ℕ) → 0 < k → k ≤ 121 → share ≡ l (k - 1) → goes ≡ goes_on f interest t b (k - 1) → part ≡ product goes later
    → later ≡ level_number f interest t b l k → share + part ≡ level_number f interest t b l (k - 1)
next_value f interest t b l k later share goes part some few es eg ep el =
    let value = level_number f interest t b l in
    let j = k - 1 in
    let next : j + 1 ≡ k = omega arith in
    ap (λ s. s + part) es ∙ ap (λ r. l j + r) (ep ∙ ap (λ g. product g later) eg ∙ ap (product (goes_on f interest t b j)) (el ∙ ap value (sym next))) ∙ sym (level_step f interest t b l j (omega arith))
