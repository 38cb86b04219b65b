-- Terms: interest in hundredths of a percent and instalments a year. Assumes nothing.
use Rattle.std.specs.Prelude.{ℕ, ◌+◌, Bool, not, ◌||◌, Option, ◌==◌, nat_lt}
use Rattle.fault.specs.declared.Fault.{Fault}
use Rattle.fault.specs.declared.Refusal.TheVariants.{Interest, Instalments}
use Rattle.fault.specs.Faults.{fault, refuse_if, first_of}
use Rattle.valuation.specs.Fraction.{Fraction, ratio, one, whole, ◌⊕◌, ◌⊗◌, ◌⊘◌}
use Rattle.valuation.specs.Sum.{total}

-- a year is paid in 1, 2, 3, 4, 6 or 12 instalments
abbrev pub listed : ℕ → Bool
listed t = t == 1 || t == 2 || t == 3 || t == 4 || t == 6 || t == 12

abbrev pub terms_fault : ℕ → ℕ → Option Fault
terms_fault interest instalments = first_of (refuse_if (nat_lt 2000 interest) (fault Interest 0 0)) (refuse_if (not (listed instalments)) (fault Instalments 0 0))

-- the interest j of a year
abbrev pub yearly : ℕ → Fraction
yearly interest = ratio interest 10000

-- v, what 1 paid in a year is worth today: 1 / (1 + j)
abbrev pub discount : ℕ → Fraction
discount interest = ratio 10000 (10000 + interest)

-- K, what a year's pension loses by being paid in t instalments: (1 + j)/t times the sum over m from 0 to t − 1 of m / (t + m·j)
abbrev pub loss : ℕ → ℕ → Fraction
loss interest t = ((one ⊕ yearly interest) ⊘ whole t) ⊗ total t 0 (λ m. whole m ⊘ (whole t ⊕ (whole m ⊗ yearly interest)))
