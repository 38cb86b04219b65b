-- Bytes put into a buffer one after another. Assumes nothing.
use Rattle.std.proofs.Common.{◌≡◌, ℕ, zero, suc, ◌+◌, ◌*◌, ◌<◌, ◌≤◌, List, [], ◌∷◌, ◌++◌, length, take, drop, sym, refl, ap, ◌∙◌, add-one, arith}
use Rattle.std.proofs.lemmas.List.{append_assoc, length-append, length-take-le, take-append-drop, take_at, drop_at, drop-drop}
use Rattle.basis.specs.declared.kind.Kind.{Kind}
use Rattle.basis.specs.Figures.{Figures, count}
use Rattle.table.specs.Book.{placed, in_order, kind_at, entry_bytes, entry_place, body_bytes, body_place, bytes32, book_length, contents_bytes, bodies_bytes, encoded, written}

pub placed_none : (buffer : List ℕ) (p : ℕ) → placed buffer p [] ≡ buffer
placed_none buffer p = ap (λ m. take p buffer ++ drop m buffer) (omega arith) ∙ take-append-drop p buffer

-- what is placed right behind belongs to it
pub placed_more : (buffer : List ℕ) (p : ℕ) (bytes more : List ℕ) (q : ℕ) → p + length bytes ≡ q → q ≤ length buffer → placed (placed buffer p bytes) q more ≡ placed buffer p (bytes ++ more)
placed_more buffer p bytes more q next fits =
    let front = take p buffer in
    let rest = drop (p + length bytes) buffer in
    let at : length (front ++ bytes) ≡ q = length-append front bytes ∙ omega (arith, length-take-le p buffer (omega arith)) in
    let whole : placed buffer p bytes ≡ (front ++ bytes) ++ rest = sym (append_assoc front bytes rest) in
    let before : take q (placed buffer p bytes) ≡ front ++ bytes = ap (take q) whole ∙ take_at (front ++ bytes) rest q at in
    let behind : drop (q + length more) (placed buffer p bytes) ≡ drop (p + length (bytes ++ more)) buffer =
    sym (drop-drop (length more) q (placed buffer p bytes)) ∙ ap (λ xs. drop (length more) (drop q xs)) whole ∙ ap (drop (length more)) (drop_at (front ++ bytes) rest q at)
    ∙ drop-drop (length more) (p + length bytes) buffer ∙ ap (λ m. drop m buffer) (omega (arith, length-append bytes more)) in
    ap (λ xs. xs ++ (more ++ drop (q + length more) (placed buffer p bytes))) before
    ∙ ap (λ xs. (front ++ bytes) ++ (more ++ xs)) behind
    ∙ append_assoc front bytes (more ++ drop (p + length (bytes ++ more)) buffer)
    ∙ ap (λ xs. front ++ xs) (sym (append_assoc bytes more (drop (p + length (bytes ++ more)) buffer)))

pub order_none : (text : ℕ → List ℕ) → in_order 0 text ≡ []
unfolding in_order
order_none text = refl

pub order_more : (n : ℕ) (text : ℕ → List ℕ) → in_order (n + 1) text ≡ in_order n text ++ text n
unfolding in_order
order_more n text = rw add-one refl

-- the sizes of the texts before one
unfoldable pub total : (ℕ → ℕ) → ℕ → ℕ
total size zero = 0
total size (suc n) = total size n + size n

pub total_same : (m n : ℕ) → total (λ _. m) n ≡ m * n
unfolding total
total_same m zero = omega arith
total_same m (suc n) = omega (arith, total_same m n)

pub total_length : (text : ℕ → List ℕ) (size : ℕ → ℕ) (n : ℕ) → ((k : ℕ) → length (text k) ≡ size k) → length (in_order n text) ≡ total size n
unfolding total in_order
total_length text size zero each = refl
total_length text size (suc n) each = length-append (in_order n text) (text n) ∙ omega (arith, each n, total_length text size n each)

-- texts of one length
pub length_order : (n m : ℕ) (text : ℕ → List ℕ) → ((k : ℕ) → length (text k) ≡ m) → length (in_order n text) ≡ m * n
length_order n m text each = total_length text (λ _. m) n each ∙ total_same m n

-- a loop that places the texts one after another: its step
pub placed_order_more : (start now : List ℕ) (p n q : ℕ) (text : ℕ → List ℕ) → now ≡ placed start p (in_order n text) → p + length (in_order n text) ≡ q → q ≤ length start → placed now q (text n) ≡ placed start p (in_order (n + 1) text)
placed_order_more start now p n q text inv next fits =
    ap (λ xs. placed xs q (text n)) inv ∙ placed_more start p (in_order n text) (text n) q next fits ∙ ap (placed start p) (sym (order_more n text))

pub placed_order_none : (start : List ℕ) (p : ℕ) (text : ℕ → List ℕ) → start ≡ placed start p (in_order 0 text)
placed_order_none start p text = sym (ap (placed start p) (order_none text) ∙ placed_none start p)

-- below seven
pub seven : (P : ℕ → Type 0) → P 0 → P 1 → P 2 → P 3 → P 4 → P 5 → P 6 → (i : ℕ) → i < 7 → P i
seven P a b c d e f g zero l = a
seven P a b c d e f g (suc zero) l = b
seven P a b c d e f g (suc (suc zero)) l = c
seven P a b c d e f g (suc (suc (suc zero))) l = d
seven P a b c d e f g (suc (suc (suc (suc zero)))) l = e
seven P a b c d e f g (suc (suc (suc (suc (suc zero))))) l = f
seven P a b c d e f g (suc (suc (suc (suc (suc (suc zero)))))) l = g
seven P a b c d e f g (suc (suc (suc (suc (suc (suc (suc i))))))) l = absurd (omega arith)

-- where the entries and the bodies stand
pub entry_place_is : (i : ℕ) → i < 7 → entry_place (kind_at i) ≡ 2 + 5 * i
entry_place_is = seven (λ i. entry_place (kind_at i) ≡ 2 + 5 * i) refl refl refl refl refl refl refl

pub length_body : (f : Figures) (k : Kind) → length (body_bytes f k) ≡ 4 * count f.final_age k
length_body f k = length_order (count f.final_age k) 4 (λ x. bytes32 (f.figure k x)) (λ x. refl)

-- every entry ends within the contents
pub entry_within : (k : Kind) → entry_place k + 5 ≤ 37
entry_within k = grind arith

-- every body ends within the book
pub body_within : (z : ℕ) (k : Kind) → body_place z k + 4 * count z k ≤ book_length z
body_within z k = grind arith

pub length_contents : (z n : ℕ) → length (in_order n (λ i. entry_bytes z (kind_at i))) ≡ 5 * n
length_contents z n = length_order n 5 (λ i. entry_bytes z (kind_at i)) (λ i. refl)

-- each body begins where the last one ends, and the last one ends the book
pub next_body : (z i : ℕ) → i < 6 → body_place z (kind_at (suc i)) ≡ body_place z (kind_at i) + 4 * count z (kind_at i)
next_body z i l =
    seven (λ j. j < 6 → body_place z (kind_at (suc j)) ≡ body_place z (kind_at j) + 4 * count z (kind_at j))
    (λ _. omega arith) (λ _. omega arith) (λ _. omega arith) (λ _. omega arith) (λ _. omega arith) (λ _. omega arith) (λ m. absurd (omega arith)) i (omega arith) l

-- the bodies' sizes add up to their places
pub body_total : (z i : ℕ) → i < 7 → 37 + total (λ j. 4 * count z (kind_at j)) i ≡ body_place z (kind_at i)
unfolding total
body_total z zero l = refl
body_total z (suc i) l = omega (arith, body_total z i (omega arith), next_body z i (omega arith))

pub bodies_total : (z : ℕ) → 37 + total (λ j. 4 * count z (kind_at j)) 7 ≡ book_length z
unfolding total
bodies_total z = omega (arith, body_total z 6 (omega arith))

bodies_length : (f : Figures) (i : ℕ) → length (in_order i (λ j. body_bytes f (kind_at j))) ≡ total (λ j. 4 * count f.final_age (kind_at j)) i
bodies_length f i = total_length (λ j. body_bytes f (kind_at j)) (λ j. 4 * count f.final_age (kind_at j)) i (λ j. length_body f (kind_at j))

pub bodies_before : (f : Figures) (i : ℕ) → i < 7 → 37 + length (in_order i (λ j. body_bytes f (kind_at j))) ≡ body_place f.final_age (kind_at i)
bodies_before f i l = omega (arith, bodies_length f i, body_total f.final_age i l)

pub length_bodies : (f : Figures) → 37 + length (in_order 7 (λ j. body_bytes f (kind_at j))) ≡ book_length f.final_age
length_bodies f = omega (arith, bodies_length f 7, bodies_total f.final_age)

-- the opening, the contents and the bodies, placed one after another, are the book
pub length_encoded : (f : Figures) → length (encoded f) ≡ book_length f.final_age
length_encoded f = omega (arith, length-append (contents_bytes f.final_age) (bodies_bytes f), length_contents f.final_age 7, length_bodies f)

pub placed_book : (b b1 b2 b3 : List ℕ) (f : Figures) (z : ℕ) → z ≡ f.final_age → book_length z ≤ length b → b1 ≡ placed b 0 (1 ∷ z ∷ []) → b2 ≡ placed b1 2 (contents_bytes z) → b3 ≡ placed b2 37 (bodies_bytes f) → b3 ≡ written f b
placed_book b b1 b2 b3 f z ez fits first second third =
    let opening = 1 ∷ z ∷ [] in
    let two : b2 ≡ placed b 0 (opening ++ contents_bytes z) = second ∙ ap (λ xs. placed xs 2 (contents_bytes z)) first ∙ placed_more b 0 opening (contents_bytes z) 2 refl (omega arith) in
    let three : b3 ≡ placed b 0 ((opening ++ contents_bytes z) ++ bodies_bytes f) =
    third ∙ ap (λ xs. placed xs 37 (bodies_bytes f)) two ∙ placed_more b 0 (opening ++ contents_bytes z) (bodies_bytes f) 37 (omega (arith, length-append opening (contents_bytes z), length_contents z 7)) (omega arith) in
    let bytes : (opening ++ contents_bytes z) ++ bodies_bytes f ≡ encoded f = ap (λ y. ((1 ∷ y ∷ []) ++ contents_bytes y) ++ bodies_bytes f) ez in
    three ∙ ap (placed b 0) bytes ∙ ap (λ n. encoded f ++ drop n b) (omega (arith, length_encoded f))
