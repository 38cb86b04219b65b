-- Every refusal with its number, word and part, and what a call that may refuse answers. Assumes nothing.
use Rattle.std.specs.Prelude.{◌≡◌, ℕ, zero, suc, Bool, true, false, cond, List, ◌++◌, map, Some, None, Ok, Err, codes, decimal, Option, Result, ◌==◌}
use Rattle.fault.specs.declared.Refusal.{Refusal}
use Rattle.fault.specs.declared.Refusal.TheVariants.{Stub, Edition, FinalAge, Contents, Length, Figure, Exits, Seam, OpenEnd, Shift, Loading, Interest, Instalments, Age, Span, Amount, Column, Known, Unknown, Full, Buffer}
use Rattle.fault.specs.declared.Part.{Part}
use Rattle.fault.specs.declared.Part.TheVariants.{Book, Basis, Terms, Valuation, Stock}
use Rattle.fault.specs.declared.Fault.{Fault}

-- what a refusal is: its number, its word and the part that refuses
pub record Rule : Type 0 where
  pub number : ℕ
  pub word : List ℕ
  pub part : Part

abbrev ruled : ℕ → List ℕ → Part → Rule
ruled n w p = record { number = n; word = w; part = p }

-- the table of refusals; the checks of a call run in this order
abbrev pub rule : Refusal → Rule
rule Stub = ruled 1 (codes "stub") Book
rule Edition = ruled 2 (codes "edition") Book
rule FinalAge = ruled 3 (codes "final age") Book
rule Contents = ruled 4 (codes "contents") Book
rule Length = ruled 5 (codes "length") Book
rule Figure = ruled 6 (codes "figure") Book
rule Exits = ruled 7 (codes "exits") Book
rule Seam = ruled 8 (codes "seam") Book
rule OpenEnd = ruled 9 (codes "open end") Book
rule Shift = ruled 10 (codes "shift") Basis
rule Loading = ruled 11 (codes "loading") Basis
rule Interest = ruled 12 (codes "interest") Terms
rule Instalments = ruled 13 (codes "instalments") Terms
rule Age = ruled 14 (codes "age") Valuation
rule Span = ruled 15 (codes "span") Valuation
rule Amount = ruled 16 (codes "amount") Valuation
rule Column = ruled 17 (codes "column") Valuation
rule Known = ruled 18 (codes "known") Stock
rule Unknown = ruled 19 (codes "unknown") Stock
rule Full = ruled 20 (codes "full") Stock
rule Buffer = ruled 21 (codes "buffer") Book

abbrev pub part_name : Part → List ℕ
part_name Book = codes "book"
part_name Basis = codes "basis"
part_name Terms = codes "terms"
part_name Valuation = codes "valuation"
part_name Stock = codes "stock"

-- a text with a hyphen (45) for each blank (32)
abbrev pub hyphened : List ℕ → List ℕ
hyphened w = map (λ c. cond (c == 32) 45 c) w

-- a fault at a place, in the part that is named
abbrev pub fault_in : Part → Refusal → ℕ → ℕ → Fault
fault_in p why a b = record { refusal = why; part = p; place = record { first = a; second = b } }

-- a fault at a place, in the refusal's own part
abbrev pub fault : Refusal → ℕ → ℕ → Fault
fault why a b = fault_in (rule why).part why a b

-- a fault as it is printed: number, word, part and place, as in "16 amount valuation 3 0"
abbrev pub fault_text : Fault → List ℕ
fault_text e =
    decimal (rule e.refusal).number ++ (codes " " ++ (hyphened (rule e.refusal).word ++ (codes " " ++ (part_name e.part
    ++ (codes " " ++ (decimal e.place.first ++ (codes " " ++ decimal e.place.second)))))))

-- a check: the fault if the test is true
abbrev pub refuse_if : Bool → Fault → Option Fault
refuse_if true e = Some e
refuse_if false e = None

-- two checks in order: the first fault of the two
abbrev pub first_of : Option Fault → Option Fault → Option Fault
first_of (Some e) later = Some e
first_of None later = later

-- a check at each of 0, 1, .., n − 1, in this order: the first fault
unfoldable pub first_below : ℕ → (ℕ → Option Fault) → Option Fault
first_below zero check = None
first_below (suc n) check = first_of (first_below n check) (check n)

-- what a call answers whose checks find this fault or none: the fault itself, or a value of which P holds
abbrev pub Outcome : {X : Type 0} → Result X Fault → Option Fault → (X → Type 0) → Type 0
Outcome (Ok x) found P = (found ≡ None) × P x
Outcome (Err e) found P = found ≡ Some e
