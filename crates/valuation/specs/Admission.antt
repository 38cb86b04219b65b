-- What a promise is refused for before it is valued. Assumes nothing.
use Rattle.std.specs.Prelude.{ℕ, not, ◌||◌, List, length, Option, ◌==◌, nat_lt, slice_index}
use Rattle.fault.specs.declared.Fault.{Fault}
use Rattle.fault.specs.declared.Refusal.TheVariants.{Age, Span, Amount, Column}
use Rattle.fault.specs.Faults.{fault, refuse_if, first_of, first_below}
use Rattle.valuation.specs.declared.benefit.Benefit.{Benefit}
use Rattle.valuation.specs.Benefits.{first_age, last_age, span}

-- the first amount above a million
abbrev pub amount_fault_at : List ℕ → ℕ → Option Fault
amount_fault_at amounts k = refuse_if (nat_lt 1000000 (slice_index amounts k)) (fault Amount k 0)

abbrev pub amounts_fault : List ℕ → Option Fault
amounts_fault amounts = first_below (length amounts) (amount_fault_at amounts)

-- the checks of a promise, in their order, under the final age z and with a column of a length
abbrev pub valuation_fault : ℕ → Benefit → ℕ → List ℕ → ℕ → Option Fault
valuation_fault z b x amounts column =
    first_of (refuse_if (nat_lt x (first_age z b) || nat_lt (last_age z b) x) (fault Age 0 0))
    (first_of (refuse_if (not (length amounts == span z b x)) (fault Span 0 0))
    (first_of (amounts_fault amounts)
    (refuse_if (nat_lt column 512) (fault Column 0 0))))
