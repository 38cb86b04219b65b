-- The words of a line, as they are found. Assumes nothing.
use Rattle.std.proofs.Common.{◌≡◌, ℕ, zero, suc, ◌+◌, ◌-◌, ◌<◌, ◌≤◌, Bool, true, false, not, ltb, cond, Some, None, List, [], ◌∷◌, length, get_or, take, drop, sym, refl, ap, ◌∙◌, ⊎_elim, arith}
use Rattle.std.proofs.lemmas.Bool.{false≢true, cases_lt, ltb-false}
use Rattle.std.proofs.lemmas.List.{at_drop_more, at_drop_all, take_all, length-drop, get_or-drop}
use Rattle.std.proofs.lemmas.List.Quantifiers.{position-Some}
use Rattle.std.proofs.lemmas.List.Sums.{prefix_len-le-length, prefix_len_passes, prefix_len_stops}
use Rattle.std.specs.List.{position, position_or_len}
use Rattle.std.specs.Option.{unwrap_or}
use Rattle.protocol.specs.Words.{blank, goes_on, in_front, words}

-- where a search ends: at the first that passes, or past all
past_all : (p : ℕ → Bool) (xs : List ℕ) (t : Bool) → ltb (position_or_len p xs) (length xs) ≡ t → t ≡ false → position_or_len p xs ≡ length xs
past_all p xs t e none = omega (arith, prefix_len-le-length (λ x. not (p x)) xs, ltb-false (position_or_len p xs) (length xs) (e ∙ none))

found_by : (p : ℕ → Bool) (xs : List ℕ) (t : Bool) → ltb (position_or_len p xs) (length xs) ≡ t → unwrap_or (cond t (Some (position_or_len p xs)) None) (length xs) ≡ position_or_len p xs
found_by p xs true e = refl
found_by p xs false e = sym (past_all p xs false e refl)

pub found_end : (p : ℕ → Bool) (xs : List ℕ) → unwrap_or (position p xs) (length xs) ≡ position_or_len p xs
found_end p xs = found_by p xs (ltb (position_or_len p xs) (length xs)) refl

-- blanks before a word
pub words_more : (line : List ℕ) (i : ℕ) → i < length line → words (drop i line) ≡ words line → blank (get_or line i 0) ≡ true → words (drop (i + 1) line) ≡ words line
unfolding words
words_more line i inside before here =
    sym (at_drop_more words line i 0 inside ∙ ap (λ t. cond t (words (drop (i + 1) line)) (cond (goes_on (drop (i + 1) line)) (in_front (get_or line i 0) (words (drop (i + 1) line))) ((get_or line i 0 ∷ []) ∷ words (drop (i + 1) line)))) here) ∙ before

not_dark : (t : Bool) → not (not t) ≡ true → t ≡ true
not_dark true h = refl
not_dark false h = cc

words_after : (line : List ℕ) (n : ℕ) → n ≤ position_or_len (λ b. not (blank b)) line → words (drop n line) ≡ words line
words_after line zero h = refl
words_after line (suc n) h =
    let inside : n < length line = omega (arith, h, prefix_len-le-length (λ b. not (not (blank b))) line) in
    let next : suc n ≡ n + 1 = omega arith in
    ap (λ m. words (drop m line)) next ∙ words_more line n inside (words_after line n (omega (arith, h))) (not_dark (blank (get_or line n 0)) (prefix_len_passes (λ b. not (not (blank b))) line n 0 (omega (arith, h))))

-- a line of blanks has no word
words_nothing : (line : List ℕ) → length line ≤ position_or_len (λ b. not (blank b)) line → words line ≡ []
unfolding words
words_nothing line h = sym (words_after line (length line) h) ∙ at_drop_all words line (length line) (omega arith)

none_by : (line : List ℕ) (t : Bool) → ltb (position_or_len (λ b. not (blank b)) line) (length line) ≡ t → cond t (Some (position_or_len (λ b. not (blank b)) line)) None ≡ None → words line ≡ []
none_by line true e none = cc
none_by line false e none = words_nothing line (ltb-false _ (length line) e)

pub words_none : (line : List ℕ) → None ≡ position (λ b. not (blank b)) line → words line ≡ []
words_none line none = none_by line (ltb (position_or_len (λ b. not (blank b)) line) (length line)) refl (sym none)

-- a byte of a word
dark_word : (b : ℕ) (bs : List ℕ) → blank b ≡ false → words (b ∷ bs) ≡ cond (goes_on bs) (in_front b (words bs)) ((b ∷ []) ∷ words bs)
unfolding words
dark_word b bs dark = ap (λ t. cond t (words bs) (cond (goes_on bs) (in_front b (words bs)) ((b ∷ []) ∷ words bs))) dark

going : (b : ℕ) (bs : List ℕ) → blank b ≡ false → goes_on (b ∷ bs) ≡ true
going b bs dark = ap (λ t. cond t false true) dark

pub first_word : (line : List ℕ) (n : ℕ) → 0 < n → n ≤ length line → ((i : ℕ) → i < n → blank (get_or line i 0) ≡ false) → goes_on (drop n line) ≡ false → words line ≡ take n line ∷ words (drop n line)
first_word [] n some inside dark end = absurd (omega arith)
first_word (b ∷ bs) zero some inside dark end = absurd (omega arith)
first_word (b ∷ bs) (suc zero) some inside dark end = dark_word b bs (dark 0 (omega arith)) ∙ ap (λ t. cond t (in_front b (words bs)) ((b ∷ []) ∷ words bs)) end
first_word (b ∷ []) (suc (suc n)) some inside dark end = absurd (omega arith)
first_word (b ∷ c ∷ cs) (suc (suc n)) some inside dark end =
    dark_word b (c ∷ cs) (dark 0 (omega arith))
    ∙ ap (λ t. cond t (in_front b (words (c ∷ cs))) ((b ∷ []) ∷ words (c ∷ cs))) (going c cs (dark 1 (omega arith)))
    ∙ ap (in_front b) (first_word (c ∷ cs) (suc n) (omega arith) (omega arith) (λ i l. dark (suc i) (omega arith)) end)

pub ends_here : (line : List ℕ) (n : ℕ) → (n < length line → blank (get_or line n 0) ≡ true) → goes_on (drop n line) ≡ false
ends_here [] zero h = refl
ends_here [] (suc n) h = refl
ends_here (b ∷ bs) zero h = ap (λ t. cond t false true) (h (omega arith))
ends_here (b ∷ bs) (suc n) h = ends_here bs n (λ l. h (omega arith))

-- the rest of a line, as a slice has it
slice_is : (line : List ℕ) (n : ℕ) → take (length line - n) (drop n line) ≡ drop n line
slice_is line n = take_all (length line - n) (drop n line) (omega (arith, length-drop n line))

not_blank : (t : Bool) → not t ≡ true → t ≡ false
not_blank false h = refl
not_blank true h = cc

some_blank : (t : Bool) → not t ≡ false → t ≡ true
some_blank true h = refl
some_blank false h = cc

-- the first word of a line, where the searches end
pub word_is : (line : List ℕ) (from to : ℕ) → Some from ≡ position (λ b. not (blank b)) line → (let rest = take (length line - from) (drop from line) in to ≡ unwrap_or (position blank rest) (length rest) → words line ≡ take to rest ∷ words (drop to rest))
word_is line from to begins ends =
    let rest = take (length line - from) (drop from line) in
    let found = position-Some (λ b. not (blank b)) line from 0 (sym begins) in
    let here : rest ≡ drop from line = slice_is line from in
    let dark : blank (get_or line from 0) ≡ false = not_blank (blank (get_or line from 0)) found.1 in
    let same : words (drop from line) ≡ words line = words_after line from (omega (arith, ap (λ o. unwrap_or o (length line)) begins ∙ found_end (λ b. not (blank b)) line)) in
    let end : to ≡ position_or_len blank rest = ends ∙ found_end blank rest in
    let inside : to ≤ length rest = omega (arith, end, prefix_len-le-length (λ b. not (blank b)) rest) in
    let within : (i : ℕ) → i < to → blank (get_or rest i 0) ≡ false = λ i l. not_blank (blank (get_or rest i 0)) (prefix_len_passes (λ b. not (blank b)) rest i 0 (omega (arith, end))) in
    let stop : to < length rest → blank (get_or rest to 0) ≡ true = λ l.
    ap (λ n. blank (get_or rest n 0)) end ∙ some_blank (blank (get_or rest (position_or_len blank rest) 0)) (prefix_len_stops (λ b. not (blank b)) rest 0 (omega (arith, end))) in
    let some : 0 < to = ⊎_elim (λ l. l) (λ none. absurd (false≢true (sym (ap (λ x. blank (get_or x 0 0)) here ∙ ap blank (get_or-drop from line 0 0) ∙ ap (λ n. blank (get_or line n 0)) (omega arith) ∙ dark) ∙ ap (λ n. blank (get_or rest n 0)) (omega arith) ∙ stop (omega (arith, ap length here, length-drop from line, found.0))))) (cases_lt 0 to) in
    sym same ∙ ap words (sym here) ∙ first_word rest to some inside within (ends_here rest to stop)
