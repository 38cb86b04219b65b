-- A number as it is read, digit by digit, never above a limit. Assumes nothing.
use Rattle.std.proofs.Common.{◌≡◌, ℕ, zero, suc, ◌+◌, ◌-◌, ◌*◌, ◌<◌, ◌≤◌, min, true, false, ltb, List, [], ◌∷◌, ◌++◌, length, get_or, take, Some, None, sym, refl, ap, ◌∙◌, ⊎_elim, arith}
use Rattle.std.proofs.lemmas.Bool.{cases_lt, and_parts, and_from, and_left, and_right, cond-false}
use Rattle.std.proofs.lemmas.List.{take_more}
use Rattle.std.specs.Char.{is_ascii_digit}
use Rattle.protocol.specs.Numbers.{digit, digits, value_after, number_of}

-- the library's digits are these
pub digit_is : (b : ℕ) → digit b ≡ is_ascii_digit b
digit_is b = grind arith

digits_push : (w : List ℕ) (b : ℕ) → digits w ≡ true → digit b ≡ true → digits (w ++ b ∷ []) ≡ true
unfolding digits
digits_push [] b h d = and_from (digit b) true d refl
digits_push (c ∷ cs) b h d = let parts = and_parts (digit c) (digits cs) h in and_from (digit c) (digits (cs ++ b ∷ [])) parts.0 (digits_push cs b parts.1 d)

value_push : (n : ℕ) (w : List ℕ) (b : ℕ) → value_after n (w ++ b ∷ []) ≡ value_after n w * 10 + (b - 48)
unfolding value_after
value_push n [] b = refl
value_push n (c ∷ cs) b = value_push (n * 10 + (c - 48)) cs b

-- what a loop knows after i digits: n is the value so far, or the limit if it has passed that
pub record Read (w : List ℕ) (i n : ℕ) : Type 0 where
  pub all : digits (take i w) ≡ true
  pub below : n < 4294967296 → n ≡ value_after 0 (take i w)
  pub limit : n ≤ 4294967296
  pub past : 4294967296 ≤ n → 4294967296 ≤ value_after 0 (take i w)

pub read_none : (w : List ℕ) → Read w 0 0
unfolding digits value_after
read_none w = record { all = refl; below = λ l. refl; limit = omega arith; past = λ l. absurd (omega arith) }

grown : (n v d m : ℕ) → m ≡ min (n * 10 + d) 4294967296 → (n < 4294967296 → n ≡ v) → n ≤ 4294967296 → (4294967296 ≤ n → 4294967296 ≤ v) → (m < 4294967296 → m ≡ v * 10 + d) × (m ≤ 4294967296) × (4294967296 ≤ m → 4294967296 ≤ v * 10 + d)
grown n v d m e below limit past =
    ⊎_elim (λ l. let same = below l in omega (arith, e, same)) (λ l. let big = past l in omega (arith, e, big)) (cases_lt n 4294967296)

pub read_more : (w : List ℕ) (i n m : ℕ) → i < length w → digit (get_or w i 0) ≡ true → m ≡ min (n * 10 + (get_or w i 0 - 48)) 4294967296 → Read w i n → Read w (i + 1) m
read_more w i n m inside here e read =
    let on = take_more w i 0 inside in
    let value = ap (value_after 0) on ∙ value_push 0 (take i w) (get_or w i 0) in
    let next = grown n (value_after 0 (take i w)) (get_or w i 0 - 48) m e read.below read.limit read.past in
    record {
      all = ap digits on ∙ digits_push (take i w) (get_or w i 0) read.all here;
      below = λ l. next.0 l ∙ sym value;
      limit = next.1;
      past = λ l. omega (arith, next.2 l, value);
    }

-- how the reading ends
digits_not : (w : List ℕ) (i : ℕ) → i < length w → digit (get_or w i 0) ≡ false → digits w ≡ false
unfolding digits
digits_not [] i inside here = absurd (omega arith)
digits_not (b ∷ bs) zero inside here = and_left (digit b) (digits bs) here
digits_not (b ∷ bs) (suc i) inside here = and_right (digit b) (digits bs) (digits_not bs i (omega arith) here)

pub no_number : (w : List ℕ) (i : ℕ) → i < length w → digit (get_or w i 0) ≡ false → None ≡ number_of w
no_number w i inside here = sym (cond-false _ (Some (value_after 0 w)) None (and_right (ltb 0 (length w)) _ (and_left (digits w) _ (digits_not w i inside here))))
