-- What is in force after a list of calls, told by the calls and the final age alone. Assumes nothing.
use Rattle.std.specs.Prelude.{ℕ, cond, not, List, [], ◌∷◌, length, is_some, Some, None, fold, Option, ◌==◌}
use Rattle.fault.specs.declared.Fault.{Fault}
use Rattle.fault.specs.declared.Refusal.TheVariants.{Known, Unknown, Full}
use Rattle.fault.specs.Faults.{fault, refuse_if, first_of}
use Rattle.valuation.specs.declared.benefit.Benefit.{Benefit}
use Rattle.valuation.specs.Admission.{valuation_fault}

-- a promise
pub record Promise : Type 0 where
  pub benefit : Benefit
  pub age : ℕ
  pub amounts : List ℕ

-- a call with all its arguments; of the lent column its length
pub data Call : Type 0 where
  Admit : ℕ → Promise → ℕ → Call
  Amend : ℕ → Promise → ℕ → Call
  Release : ℕ → Call
  Ask : ℕ → Call
  Total : Call
  Count : Call

-- the register: keys with one promise each
pub record Entry : Type 0 where
  pub key : ℕ
  pub promise : Promise

abbrev pub entry : ℕ → Promise → Entry
entry k p = record { key = k; promise = p }

-- the promise that is in force under a key
unfoldable pub in_force : List Entry → ℕ → Option Promise
in_force [] k = None
in_force (e ∷ es) k = cond (e.key == k) (Some e.promise) (in_force es k)

-- the register with a key's promise exchanged, and with a key struck
unfoldable pub exchanged : ℕ → Promise → List Entry → List Entry
exchanged k p [] = []
exchanged k p (e ∷ es) = cond (e.key == k) (entry k p ∷ es) (e ∷ exchanged k p es)

unfoldable pub struck : ℕ → List Entry → List Entry
struck k [] = []
struck k (e ∷ es) = cond (e.key == k) es (e ∷ struck k es)

-- what each call is refused for, in the order of the checks, under the final age z
abbrev pub promise_fault : ℕ → Promise → ℕ → Option Fault
promise_fault z p column = valuation_fault z p.benefit p.age p.amounts column

abbrev pub unknown_fault : List Entry → ℕ → Option Fault
unknown_fault es k = refuse_if (not (is_some (in_force es k))) (fault Unknown 0 0)

abbrev pub refusal : ℕ → List Entry → Call → Option Fault
refusal z es (Admit k p column) = first_of (promise_fault z p column) (first_of (refuse_if (is_some (in_force es k)) (fault Known 0 0)) (refuse_if (length es == 512) (fault Full 0 0)))
refusal z es (Amend k p column) = first_of (promise_fault z p column) (unknown_fault es k)
refusal z es (Release k) = unknown_fault es k
refusal z es (Ask k) = unknown_fault es k
refusal z es Total = None
refusal z es Count = None

-- what a granted call makes of the register
abbrev pub granted : List Entry → Call → List Entry
granted es (Admit k p column) = entry k p ∷ es
granted es (Amend k p column) = exchanged k p es
granted es (Release k) = struck k es
granted es (Ask k) = es
granted es Total = es
granted es Count = es

-- a refused call changes nothing
abbrev pub unless : Option Fault → List Entry → List Entry → List Entry
unless (Some e) before after = before
unless None before after = after

abbrev pub after : ℕ → List Entry → Call → List Entry
after z es call = unless (refusal z es call) es (granted es call)

-- the register after a list of calls, empty at first
abbrev pub register : ℕ → List Call → List Entry
register z calls = fold (after z) [] calls
