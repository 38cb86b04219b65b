-- A book read and written out is the same bytes; figures written out and read are the same figures. Assumes nothing.
use Rattle.std.proofs.Common.{◌≡◌, ℕ, zero, suc, ◌+◌, ◌-◌, ◌*◌, ◌<◌, ◌≤◌, true, ◌&&◌, ◌||◌, eqb, ltb, List, [], ◌∷◌, ◌++◌, length, get_or, take, drop, IfErr, None, Ok, Err, Result, sym, refl, ap, ◌∙◌, ⊎_elim, arith, take-add}
use Rattle.std.proofs.lemmas.List.{length-take, length-take-le, get_or_past, drop-take, take-take, length-drop, take_at, drop_at, drop-drop, take_all, drop_more, get_or-take, get_or-drop}
use Rattle.std.proofs.lemmas.Bool.{cases_lt, le-ltb, eqb-true, eq-eqb, and_parts, and_from, not-false, not_from_true, or_from}
use Rattle.fault.specs.declared.Fault.{Fault}
use Rattle.basis.specs.declared.kind.Kind.{Kind}
use Rattle.fault.specs.Faults.{Outcome}
use Rattle.basis.specs.Figures.{Figures, Lawful, count, rank}
use Rattle.table.specs.Book.{be16, be32, bytes16, bytes32, kind_at, entry_place, entry_bytes, body_place, book_length, in_order, contents_bytes, body_bytes, bodies_bytes, encoded, decoded, entry_right, entry_fault, opening_fault, contents_fault, length_fault, book_fault, figures_fault, buffer_fault, rewrite_fault, written}
use Rattle.std.proofs.lemmas.Nat.{be_bytes_2, be_bytes_4, from_be_bytes-to_be_bytes_2, from_be_bytes-to_be_bytes_4}
use Rattle.std.specs.Int.{w16, w32, from_be_bytes}
use Rattle.fault.proofs.Firsts.{first_of_none, first_passes, first_passed, refuse_none, none_refuse, passed_on}
use Rattle.table.proofs.Lawfulness.{each_kind, lawful_passes}
use Rattle.basis.specs.Layered.{million}
use Rattle.basis.specs.Listed.{listed_inside, listed_is, count_most}
use Rattle.table.proofs.Placed.{body_within, body_total, bodies_total, entry_place_is, total, total_same, total_length, entry_within, length_body, length_contents, length_bodies, length_encoded}

-- n bytes of a book, from a place on
abbrev piece : ℕ → ℕ → List ℕ → List ℕ
piece p n b = take n (drop p b)

piece_join : (p i j : ℕ) (b : List ℕ) → piece p (i + j) b ≡ piece p i b ++ piece (p + i) j b
piece_join p i j b = take-add i j (drop p b) ∙ ap (λ xs. piece p i b ++ take j xs) (drop-drop i p b)

length_piece : (p n : ℕ) (b : List ℕ) → p + n ≤ length b → length (piece p n b) ≡ n
length_piece p n b fits = length-take-le n (drop p b) (omega (arith, length-drop p b))

piece_at : (p n i : ℕ) (b : List ℕ) → i < n → get_or (piece p n b) i 0 ≡ get_or b (p + i) 0
piece_at p n i b l = get_or-take n (drop p b) i 0 l ∙ get_or-drop p b i 0

-- texts that are pieces of a book, each where the one before ends, are a piece of it
from_pieces : (b : List ℕ) (text : ℕ → List ℕ) (size : ℕ → ℕ) (p n : ℕ) → ((k : ℕ) → k < n → text k ≡ piece (p + total size k) (size k) b) → in_order n text ≡ piece p (total size n) b
unfolding total in_order
from_pieces b text size p zero each = refl
from_pieces b text size p (suc n) each =
    ap (λ xs. xs ++ text n) (from_pieces b text size p n (λ k l. each k (omega arith)))
    ∙ ap (λ xs. piece p (total size n) b ++ xs) (each n (omega arith))
    ∙ sym (piece_join p (total size n) (size n) b)

-- two joins with fronts of one length are equal in both parts
same_parts : (xs us ys vs : List ℕ) → length xs ≡ length us → xs ++ ys ≡ us ++ vs → (xs ≡ us) × (ys ≡ vs)
same_parts xs us ys vs long e = (
  sym (take_at xs ys (length xs) refl) ∙ ap (take (length xs)) e ∙ take_at us vs (length xs) (sym long),
  sym (drop_at xs ys (length xs) refl) ∙ ap (drop (length xs)) e ∙ drop_at us vs (length xs) (sym long),
)

-- and the other way round
to_pieces : (b : List ℕ) (text : ℕ → List ℕ) (size : ℕ → ℕ) (p n : ℕ) → ((k : ℕ) → length (text k) ≡ size k) → p + total size n ≤ length b → in_order n text ≡ piece p (total size n) b → (k : ℕ) → k < n → text k ≡ piece (p + total size k) (size k) b
unfolding total in_order
to_pieces b text size p zero each fits e k l = absurd (omega arith)
to_pieces b text size p (suc n) each fits e k l =
    let long : length (in_order n text) ≡ length (piece p (total size n) b) = total_length text size n each ∙ sym (length_piece p (total size n) b (omega arith)) in
    let parts = same_parts (in_order n text) (piece p (total size n) b) (text n) (piece (p + total size n) (size n) b) long (e ∙ piece_join p (total size n) (size n) b) in
    ⊎_elim (λ below. to_pieces b text size p n each (omega arith) parts.0 k below)
    (λ above. let same : k ≡ n = omega arith in ap text same ∙ parts.1 ∙ ap (λ m. piece (p + total size m) (size m) b) (sym same))
    (cases_lt k n)

-- Numbers as pieces.
at_zero : (b : List ℕ) (p : ℕ) → get_or b (p + 0) 0 ≡ get_or b p 0
at_zero b p = ap (λ q. get_or b q 0) (omega arith)

small_piece : (p n : ℕ) (b : List ℕ) → ((i : ℕ) → get_or b i 0 < 256) → (i : ℕ) → get_or (piece p n b) i 0 < 256
small_piece p n b small i =
    ⊎_elim (λ l. omega (arith, piece_at p n i b l, small (p + i)))
    (λ past. omega (arith, get_or_past (piece p n b) i 0 (omega (arith, length-take n (drop p b)))))
    (cases_lt i n)

-- a piece of a piece
piece_within : (p n i m : ℕ) (b : List ℕ) → i + m ≤ n → piece i m (piece p n b) ≡ piece (p + i) m b
piece_within p n i m b fits =
    let parts : n ≡ i + (n - i) = omega arith in
    ap (λ j. piece i m (piece p j b)) parts ∙ ap (take m) (drop-take i (n - i) (drop p b)) ∙ take-take m (n - i) (drop i (drop p b)) (omega arith) ∙ ap (take m) (drop-drop i p b)

be16_piece : (b : List ℕ) (p : ℕ) → be16 b p ≡ from_be_bytes w16 (piece p 2 b)
be16_piece b p = omega (arith, at_zero b p, piece_at p 2 0 b, piece_at p 2 1 b)

be32_piece : (b : List ℕ) (p : ℕ) → be32 b p ≡ from_be_bytes w32 (piece p 4 b)
be32_piece b p = omega (arith, at_zero b p, piece_at p 4 0 b, piece_at p 4 1 b, piece_at p 4 2 b, piece_at p 4 3 b)

read16 : (b : List ℕ) (p : ℕ) → ((i : ℕ) → get_or b i 0 < 256) → p + 2 ≤ length b → bytes16 (be16 b p) ≡ piece p 2 b
read16 b p small fits = be_bytes_2 (piece p 2 b) (be16 b p) (length_piece p 2 b fits) (small_piece p 2 b small) (be16_piece b p)

read32 : (b : List ℕ) (p : ℕ) → ((i : ℕ) → get_or b i 0 < 256) → p + 4 ≤ length b → bytes32 (be32 b p) ≡ piece p 4 b
read32 b p small fits = be_bytes_4 (piece p 4 b) (be32 b p) (length_piece p 4 b fits) (small_piece p 4 b small) (be32_piece b p)

write16 : (b : List ℕ) (p n : ℕ) → n < 65536 → bytes16 n ≡ piece p 2 b → be16 b p ≡ n
write16 b p n small e = be16_piece b p ∙ ap (from_be_bytes w16) (sym e) ∙ from_be_bytes-to_be_bytes_2 n small

write32 : (b : List ℕ) (p n : ℕ) → n < 4294967296 → bytes32 n ≡ piece p 4 b → be32 b p ≡ n
write32 b p n small e = be32_piece b p ∙ ap (from_be_bytes w32) (sym e) ∙ from_be_bytes-to_be_bytes_4 n small

-- A book that passes its checks is written out as the same bytes.
first_one : (p : ℕ) (b : List ℕ) → p + 1 ≤ length b → piece p 1 b ≡ get_or b p 0 ∷ []
first_one p b fits = ap (take 1) (drop_more b p 0 (omega arith))

entry_piece : (b : List ℕ) (z : ℕ) (k : Kind) → ((i : ℕ) → get_or b i 0 < 256) → 37 ≤ length b → entry_right b z k ≡ true → entry_bytes z k ≡ piece (entry_place k) 5 b
entry_piece b z k small fits right =
    let p = entry_place k in
    let within = entry_within k in
    let ranked = and_parts (eqb (get_or b p 0) (rank k)) (eqb (be16 b (p + 1)) (count z k) && eqb (be16 b (p + 3)) (body_place z k)) right in
    let told = and_parts (eqb (be16 b (p + 1)) (count z k)) (eqb (be16 b (p + 3)) (body_place z k)) ranked.1 in
    let one : rank k ∷ [] ≡ piece p 1 b = ap (λ n. n ∷ []) (sym (eqb-true _ _ ranked.0)) ∙ sym (first_one p b (omega arith)) in
    let counted : bytes16 (count z k) ≡ piece (p + 1) 2 b = ap bytes16 (sym (eqb-true _ _ told.0)) ∙ read16 b (p + 1) small (omega arith) in
    let placed : bytes16 (body_place z k) ≡ piece (p + 1 + 2) 2 b = ap bytes16 (sym (eqb-true _ _ told.1)) ∙ read16 b (p + 3) small (omega arith) ∙ ap (λ q. piece q 2 b) (omega arith) in
    ap (λ xs. xs ++ (bytes16 (count z k) ++ bytes16 (body_place z k))) one
    ∙ ap (λ xs. piece p 1 b ++ (xs ++ bytes16 (body_place z k))) counted
    ∙ ap (λ xs. piece p 1 b ++ (piece (p + 1) 2 b ++ xs)) placed
    ∙ ap (λ xs. piece p 1 b ++ xs) (sym (piece_join (p + 1) 2 2 b))
    ∙ sym (piece_join p 1 4 b)

body_piece : (b : List ℕ) (k : Kind) → ((i : ℕ) → get_or b i 0 < 256) → book_length (get_or b 1 0) ≤ length b → body_bytes (decoded b) k ≡ piece (body_place (get_or b 1 0) k) (4 * count (get_or b 1 0) k) b
body_piece b k small fits =
    let z = get_or b 1 0 in
    from_pieces b (λ x. bytes32 ((decoded b).figure k x)) (λ _. 4) (body_place z k) (count z k)
    (λ x l. ap bytes32 (listed_inside z (λ j y. be32 b (body_place z j + 4 * y)) k x l)
    ∙ read32 b (body_place z k + 4 * x) small (omega (arith, body_within z k))
    ∙ ap (λ q. piece (body_place z k + q) 4 b) (sym (total_same 4 x)))
    ∙ ap (λ n. piece (body_place z k) n b) (total_same 4 (count z k))

-- what a book has that passes its checks
pub record Passed (b : List ℕ) : Type 0 where
  pub edition : get_or b 0 0 ≡ 1
  pub long : length b ≡ book_length (get_or b 1 0)
  pub entries : (i : ℕ) → i < 7 → entry_right b (get_or b 1 0) (kind_at i) ≡ true

passed : (b : List ℕ) → book_fault b ≡ None → Passed b
passed b none =
    let z = get_or b 1 0 in
    let opened = first_of_none (opening_fault b) _ none in
    let edition = first_of_none _ _ (first_of_none _ _ opened.0).1 in
    let listing = first_of_none (contents_fault b z) _ opened.1 in
    let measured = first_of_none (length_fault b z) _ listing.1 in
    record {
      edition = eqb-true _ _ (not-false _ (refuse_none _ _ edition.0));
      long = eqb-true _ _ (not-false _ (refuse_none _ _ measured.0));
      entries = λ i l. not-false _ (refuse_none _ _ (first_passes 7 (λ j. entry_fault b z (kind_at j)) listing.0 i l));
    }

pub encoded_decoded : (b : List ℕ) → ((i : ℕ) → get_or b i 0 < 256) → book_fault b ≡ None → encoded (decoded b) ≡ b
encoded_decoded b small none =
    let z = get_or b 1 0 in
    let right : Passed b = passed b none in
    let contents : contents_bytes z ≡ piece 2 35 b =
    from_pieces b (λ i. entry_bytes z (kind_at i)) (λ _. 5) 2 7
    (λ i l. entry_piece b z (kind_at i) small (omega arith) (right.entries i l) ∙ ap (λ q. piece q 5 b) (omega (arith, entry_place_is i l, total_same 5 i)))
    ∙ ap (λ n. piece 2 n b) (total_same 5 7) in
    let sizes : ℕ → ℕ = λ j. 4 * count z (kind_at j) in
    let bodies : bodies_bytes (decoded b) ≡ piece 37 (total sizes 7) b =
    from_pieces b (λ i. body_bytes (decoded b) (kind_at i)) sizes 37 7
    (λ i l. body_piece b (kind_at i) small (omega arith) ∙ ap (λ q. piece q (sizes i) b) (sym (body_total z i l))) in
    let rest : piece 2 35 b ++ piece 37 (total sizes 7) b ≡ drop 2 b =
    sym (piece_join 2 35 (total sizes 7) b) ∙ take_all (35 + total sizes 7) (drop 2 b) (omega (arith, length-drop 2 b, bodies_total z)) in
    let whole : b ≡ get_or b 0 0 ∷ get_or b 1 0 ∷ drop 2 b = drop_more b 0 0 (omega arith) ∙ ap (λ xs. get_or b 0 0 ∷ xs) (drop_more b 1 0 (omega arith)) in
    ap (λ xs. 1 ∷ z ∷ (xs ++ bodies_bytes (decoded b))) contents
    ∙ ap (λ xs. 1 ∷ z ∷ (piece 2 35 b ++ xs)) bodies
    ∙ ap (λ xs. 1 ∷ z ∷ xs) rest
    ∙ ap (λ n. n ∷ z ∷ drop 2 b) (sym right.edition)
    ∙ sym whole

-- The book of lawful figures passes its checks and tells the same figures.
entry_at : (f : Figures) (i : ℕ) → i < 7 → entry_bytes f.final_age (kind_at i) ≡ piece (entry_place (kind_at i)) 5 (encoded f)
entry_at f i l =
    let z = f.final_age in
    let contents : contents_bytes z ≡ piece 2 (total (λ _. 5) 7) (encoded f) =
    sym (take_at (contents_bytes z) (bodies_bytes f) 35 (length_contents z 7)) ∙ ap (λ n. piece 2 n (encoded f)) (sym (total_same 5 7)) in
    let here : 2 + total (λ _. 5) i ≡ entry_place (kind_at i) = omega (arith, entry_place_is i l, total_same 5 i) in
    to_pieces (encoded f) (λ j. entry_bytes z (kind_at j)) (λ _. 5) 2 7 (λ j. refl) (omega (arith, length_encoded f, total_same 5 7)) contents i l
    ∙ ap (λ q. piece q 5 (encoded f)) here

entry_right_is : (f : Figures) (i : ℕ) → f.final_age ≤ 80 → i < 7 → entry_right (encoded f) f.final_age (kind_at i) ≡ true
entry_right_is f i small l =
    let z = f.final_age in
    let b = encoded f in
    let k = kind_at i in
    let p = entry_place k in
    let whole = entry_at f i l in
    let ranked : get_or b p 0 ≡ rank k = sym (at_zero b p) ∙ sym (piece_at p 5 0 b (omega arith)) ∙ ap (λ xs. get_or xs 0 0) (sym whole) in
    let counted : be16 b (p + 1) ≡ count z k = write16 b (p + 1) (count z k) (omega (arith, count_most z k small)) (ap (piece 1 2) whole ∙ piece_within p 5 1 2 b (omega arith)) in
    let placed : be16 b (p + 3) ≡ body_place z k = write16 b (p + 3) (body_place z k) (omega (arith, body_within z k)) (ap (piece 3 2) whole ∙ piece_within p 5 3 2 b (omega arith)) in
    and_from _ _ (eq-eqb _ _ ranked) (and_from _ _ (eq-eqb _ _ counted) (eq-eqb _ _ placed))

body_at : (f : Figures) (i : ℕ) → i < 7 → body_bytes f (kind_at i) ≡ piece (body_place f.final_age (kind_at i)) (4 * count f.final_age (kind_at i)) (encoded f)
body_at f i l =
    let z = f.final_age in
    let sizes : ℕ → ℕ = λ j. 4 * count z (kind_at j) in
    let behind : drop 37 (encoded f) ≡ bodies_bytes f = drop_at (contents_bytes z) (bodies_bytes f) 35 (length_contents z 7) in
    let all : bodies_bytes f ≡ piece 37 (total sizes 7) (encoded f) =
    sym (take_all (total sizes 7) (bodies_bytes f) (omega (arith, length_bodies f, bodies_total z))) ∙ ap (take (total sizes 7)) (sym behind) in
    to_pieces (encoded f) (λ j. body_bytes f (kind_at j)) sizes 37 7 (λ j. length_body f (kind_at j)) (omega (arith, length_encoded f, bodies_total z)) all i l
    ∙ ap (λ q. piece q (sizes i) (encoded f)) (body_total z i l)

figure_at : (f : Figures) → Lawful f → (k : Kind) (x : ℕ) → x < count f.final_age k → be32 (encoded f) (body_place f.final_age k + 4 * x) ≡ f.figure k x
figure_at f lawful k x l =
    let z = f.final_age in
    let p = body_place z k in
    let n = count z k in
    let body : body_bytes f k ≡ piece p (total (λ _. 4) n) (encoded f) =
    each_kind (λ j. body_bytes f j ≡ piece (body_place z j) (4 * count z j) (encoded f)) (body_at f) k ∙ ap (λ m. piece p m (encoded f)) (sym (total_same 4 n)) in
    let here : bytes32 (f.figure k x) ≡ piece (p + 4 * x) 4 (encoded f) =
    to_pieces (encoded f) (λ y. bytes32 (f.figure k y)) (λ _. 4) p n (λ y. refl) (omega (arith, length_encoded f, total_same 4 n, body_within z k)) body x l
    ∙ ap (λ q. piece (p + q) 4 (encoded f)) (total_same 4 x) in
    write32 (encoded f) (p + 4 * x) (f.figure k x) (omega (arith, million f lawful k x)) here

pub decoded_encoded : (f : Figures) → Lawful f → decoded (encoded f) ≡ f
decoded_encoded f lawful = listed_is f (λ k x. be32 (encoded f) (body_place f.final_age k + 4 * x)) lawful.ended (figure_at f lawful)

pub encoded_passes : (f : Figures) → Lawful f → book_fault (encoded f) ≡ None
encoded_passes f lawful =
    let z = f.final_age in
    let long = length_encoded f in
    let stub = none_refuse (ltb (length (encoded f)) 37) _ (le-ltb _ _ (omega arith)) in
    let aged = none_refuse (ltb z 20 || ltb 80 z) _ (or_from _ _ (le-ltb _ _ lawful.aged.0) (le-ltb _ _ lawful.aged.1)) in
    let opening : opening_fault (encoded f) ≡ None = passed_on _ _ stub ∙ aged in
    let contents : contents_fault (encoded f) z ≡ None = first_passed 7 (λ i. entry_fault (encoded f) z (kind_at i)) (λ i l. none_refuse _ _ (not_from_true _ (entry_right_is f i lawful.aged.1 l))) in
    let measured : length_fault (encoded f) z ≡ None = none_refuse _ _ (not_from_true _ (eq-eqb _ _ long)) in
    passed_on _ _ opening ∙ passed_on _ _ contents ∙ passed_on _ _ measured ∙ ap figures_fault (decoded_encoded f lawful) ∙ lawful_passes f lawful

-- The two calls that go round.
pub rewritten : (r : Result ℕ Fault) (b buffer after : List ℕ) (f : Figures) → ((i : ℕ) → get_or b i 0 < 256) → book_fault b ≡ None → f ≡ decoded b
    → Outcome r (buffer_fault f.final_age buffer) (λ n. (n ≡ book_length f.final_age) × (after ≡ written f buffer))
    → Outcome r (rewrite_fault b buffer) (λ n. (n ≡ length b) × (after ≡ b ++ drop n buffer))
rewritten (Ok n) b buffer after f small none told answer =
    let same : encoded f ≡ b = ap encoded told ∙ encoded_decoded b small none in
    let long : n ≡ length b = answer.1.0 ∙ sym (length_encoded f) ∙ ap length same in (
      passed_on _ _ none ∙ ap (λ g. buffer_fault g.final_age buffer) (sym told) ∙ answer.0,
      (long, answer.1.1 ∙ ap (λ xs. xs ++ drop (book_length f.final_age) buffer) same ∙ ap (λ m. b ++ drop m buffer) (sym answer.1.0)),
    )
rewritten (Err e) b buffer after f small none told answer = passed_on _ _ none ∙ ap (λ g. buffer_fault g.final_age buffer) (sym told) ∙ answer

pub reread : {X : Type 0} (told : X → Figures) (r : Result X Fault) (f : Figures) (buffer after part : List ℕ) (n : ℕ) → Lawful f → buffer_fault f.final_age buffer ≡ None → n ≡ book_length f.final_age → after ≡ written f buffer → part ≡ take n after
    → Outcome r (book_fault part) (λ t. told t ≡ decoded part)
    → Outcome r (buffer_fault f.final_age buffer) (λ t. (told t ≡ f) × (after ≡ written f buffer)) × IfErr r (λ _. after ≡ buffer)
reread told (Ok t) f buffer after part n lawful room long filled cut answer =
    let same : part ≡ encoded f = cut ∙ ap (take n) filled ∙ take_at (encoded f) (drop (book_length f.final_age) buffer) n (length_encoded f ∙ sym long) in
    ((room, (answer.1 ∙ ap decoded same ∙ decoded_encoded f lawful, filled)), tt)
reread told (Err e) f buffer after part n lawful room long filled cut answer =
    let same : part ≡ encoded f = cut ∙ ap (take n) filled ∙ take_at (encoded f) (drop (book_length f.final_age) buffer) n (length_encoded f ∙ sym long) in
    let none : book_fault part ≡ None = ap book_fault same ∙ encoded_passes f lawful in
    absurd cc
