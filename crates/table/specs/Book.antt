-- The table book: its layout, the figures that it tells, the bytes that tell figures, and what it is refused for. Assumes nothing.
use Rattle.std.specs.Prelude.{◌≡◌, ℕ, zero, suc, ◌+◌, ◌-◌, ◌*◌, ◌/◌, ◌%◌, ◌<◌, ◌≤◌, Bool, not, ◌&&◌, ◌||◌, List, [], ◌∷◌, ◌++◌, length, take, drop, Option, None, ◌==◌, nat_le, nat_lt, slice_index, slice_index_or}
use Rattle.fault.specs.declared.Fault.{Fault}
use Rattle.fault.specs.declared.Refusal.TheVariants.{Stub, Edition, FinalAge, Contents, Length, Figure, Exits, Seam, OpenEnd, Buffer}
use Rattle.basis.specs.declared.kind.Kind.{Kind}
use Rattle.basis.specs.declared.kind.Kind.TheVariants.{Invalidity, ActiveDeath, InvalidDeath, PopulationDeath, WidowDeath, Married, SpouseAge}
use Rattle.fault.specs.Faults.{fault, refuse_if, first_of, first_below}
use Rattle.basis.specs.Figures.{Figures, listed, rank, count, limit}

-- Numbers of two and four bytes, the highest byte first: as read at a place, and as written.
abbrev pub be16 : List ℕ → ℕ → ℕ
be16 b p = slice_index b p * 256 + slice_index b (p + 1)

abbrev pub be32 : List ℕ → ℕ → ℕ
be32 b p = slice_index b p * 16777216 + slice_index b (p + 1) * 65536 + slice_index b (p + 2) * 256 + slice_index b (p + 3)

abbrev pub bytes16 : ℕ → List ℕ
bytes16 n = (n / 256 % 256) ∷ (n % 256) ∷ []

abbrev pub bytes32 : ℕ → List ℕ
bytes32 n = (n / 16777216 % 256) ∷ (n / 65536 % 256) ∷ (n / 256 % 256) ∷ (n % 256) ∷ []

-- the kinds in the book's order, and the one at a place of that order
abbrev pub kinds : List Kind
kinds = Invalidity ∷ ActiveDeath ∷ InvalidDeath ∷ PopulationDeath ∷ WidowDeath ∷ Married ∷ SpouseAge ∷ []

abbrev pub kind_at : ℕ → Kind
kind_at i = slice_index_or kinds i Invalidity

-- Layout. Edition and final age, then an entry of five bytes for each kind.
abbrev pub entry_place : Kind → ℕ
entry_place k = 2 + 5 * (rank k - 1)

-- how many figures stand before a list's
abbrev pub figures_before : ℕ → Kind → ℕ
figures_before z Invalidity = 0
figures_before z ActiveDeath = z
figures_before z InvalidDeath = 2 * z
figures_before z PopulationDeath = 2 * z + 121
figures_before z WidowDeath = 2 * z + 242
figures_before z Married = 2 * z + 363
figures_before z SpouseAge = 2 * z + 484

-- the bodies follow the contents, four bytes a figure
abbrev pub body_place : ℕ → Kind → ℕ
body_place z k = 37 + 4 * figures_before z k

abbrev pub book_length : ℕ → ℕ
book_length z = 8 * z + 2457

-- the figures that a book tells, under its own final age
abbrev pub decoded : List ℕ → Figures
decoded b = let z = slice_index b 1 in listed z (λ k x. be32 b (body_place z k + 4 * x))

-- the book that tells figures
abbrev pub entry_bytes : ℕ → Kind → List ℕ
entry_bytes z k = rank k ∷ (bytes16 (count z k) ++ bytes16 (body_place z k))

-- texts 0, 1, .., n − 1, one after another
unfoldable pub in_order : ℕ → (ℕ → List ℕ) → List ℕ
in_order zero text = []
in_order (suc n) text = in_order n text ++ text n

abbrev pub contents_bytes : ℕ → List ℕ
contents_bytes z = in_order 7 (λ i. entry_bytes z (kind_at i))

-- a list's figures from age 0 on
abbrev pub body_bytes : Figures → Kind → List ℕ
body_bytes f k = in_order (count f.final_age k) (λ x. bytes32 (f.figure k x))

abbrev pub bodies_bytes : Figures → List ℕ
bodies_bytes f = in_order 7 (λ i. body_bytes f (kind_at i))

abbrev pub encoded : Figures → List ℕ
encoded f = 1 ∷ f.final_age ∷ (contents_bytes f.final_age ++ bodies_bytes f)

-- What a book is refused for. Before its figures are read:
abbrev pub opening_fault : List ℕ → Option Fault
opening_fault b =
    first_of (refuse_if (nat_lt (length b) 37) (fault Stub 0 0))
    (first_of (refuse_if (not (slice_index b 0 == 1)) (fault Edition 0 0))
    (refuse_if (nat_lt (slice_index b 1) 20 || nat_lt 80 (slice_index b 1)) (fault FinalAge 0 0)))

-- an entry has its kind's rank, count and place
abbrev pub entry_right : List ℕ → ℕ → Kind → Bool
entry_right b z k = slice_index b (entry_place k) == rank k && (be16 b (entry_place k + 1) == count z k && be16 b (entry_place k + 3) == body_place z k)

abbrev pub entry_fault : List ℕ → ℕ → Kind → Option Fault
entry_fault b z k = refuse_if (not (entry_right b z k)) (fault Contents (rank k) 0)

abbrev pub contents_fault : List ℕ → ℕ → Option Fault
contents_fault b z = first_below 7 (λ i. entry_fault b z (kind_at i))

abbrev pub length_fault : List ℕ → ℕ → Option Fault
length_fault b z = refuse_if (not (length b == book_length z)) (fault Length 0 0)

-- a check of ages that passes below start, and from there to the end refuses where a law is broken
abbrev pub ChecksAges : ℕ → ℕ → (ℕ → Bool → Type 0) → (ℕ → Fault) → (ℕ → Option Fault) → Type 0
ChecksAges start end breaks refusal check = ((x : ℕ) → x < start → check x ≡ None) × ((x : ℕ) (broken : Bool) → start ≤ x → x < end → breaks x broken → check x ≡ refuse_if broken (refusal x))

-- Of its figures: the first above its limit, by kind and then by age,
abbrev pub limit_fault_at : Figures → Kind → ℕ → Option Fault
limit_fault_at f k x = refuse_if (nat_lt (limit k) (f.figure k x)) (fault Figure (rank k) x)

abbrev pub list_fault : Figures → Kind → Option Fault
list_fault f k = first_below (count f.final_age k) (limit_fault_at f k)

abbrev pub limit_fault : Figures → Option Fault
limit_fault f = first_below 7 (λ i. list_fault f (kind_at i))

-- the first age at which actives leave with more than certainty,
abbrev pub exits_fault_at : Figures → ℕ → Option Fault
exits_fault_at f x = refuse_if (nat_lt 1000000 (f.figure Invalidity x + f.figure ActiveDeath x)) (fault Exits 1 x)

abbrev pub exits_fault : Figures → Option Fault
exits_fault f = first_below f.final_age (exits_fault_at f)

-- the first age from the final age on at which invalids do not die as the whole population does,
abbrev pub seam_fault_at : Figures → ℕ → Option Fault
seam_fault_at f x = refuse_if (nat_le f.final_age x && not (f.figure InvalidDeath x == f.figure PopulationDeath x)) (fault Seam 3 x)

abbrev pub seam_fault : Figures → Option Fault
seam_fault f = first_below 121 (seam_fault_at f)

-- and a death at the last age that is not certain
abbrev pub end_fault : Figures → Kind → Option Fault
end_fault f k = refuse_if (not (f.figure k 120 == 1000000)) (fault OpenEnd (rank k) 120)

abbrev pub open_end_fault : Figures → Option Fault
open_end_fault f = first_of (end_fault f InvalidDeath) (end_fault f WidowDeath)

abbrev pub figures_fault : Figures → Option Fault
figures_fault f = first_of (limit_fault f) (first_of (exits_fault f) (first_of (seam_fault f) (open_end_fault f)))

-- all checks of a book, in their order
abbrev pub book_fault : List ℕ → Option Fault
book_fault b =
    first_of (opening_fault b)
    (first_of (contents_fault b (slice_index b 1))
    (first_of (length_fault b (slice_index b 1))
    (figures_fault (decoded b))))

-- writing is refused if the buffer is shorter than the book
abbrev pub buffer_fault : ℕ → List ℕ → Option Fault
buffer_fault z buffer = refuse_if (nat_lt (length buffer) (book_length z)) (fault Buffer 0 0)

-- reading a book and writing it out
abbrev pub rewrite_fault : List ℕ → List ℕ → Option Fault
rewrite_fault b buffer = first_of (book_fault b) (buffer_fault (slice_index b 1) buffer)

-- a buffer with bytes put in at a place
abbrev pub placed : List ℕ → ℕ → List ℕ → List ℕ
placed buffer p bytes = take p buffer ++ (bytes ++ drop (p + length bytes) buffer)

-- a buffer with a figures' book in its first bytes, the rest as it was
abbrev pub written : Figures → List ℕ → List ℕ
written f buffer = encoded f ++ drop (book_length f.final_age) buffer
