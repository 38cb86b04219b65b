-- Rows that are filled with figures, kind by kind. Assumes nothing.
use Rattle.std.proofs.Common.{◌≡◌, ℕ, ◌<◌, List, length, get_or, ap, ◌∙◌, arith}
use Rattle.basis.specs.declared.kind.Kind.{Kind}
use Rattle.basis.specs.Figures.{Figures, Ended, count, listed}
use Rattle.basis.specs.Listed.{listed_is}
use Rattle.table.specs.declared.rows.Rows.{Rows}
use Rattle.table.specs.Table.{row_of, tabled}

-- rows that hold the figures of every list stand for the figures
pub tabled_is : (f : Figures) (r : Rows) → Ended f → r.final_age ≡ f.final_age → ((k : Kind) (x : ℕ) → x < count r.final_age k → get_or (row_of r k) x 0 ≡ f.figure k x) → tabled r ≡ f
tabled_is f r ended aged each =
    ap (λ z. listed z (λ k x. get_or (row_of r k) x 0)) aged
    ∙ listed_is f (λ k x. get_or (row_of r k) x 0) ended (λ k x l. each k x (omega (arith, l, ap (λ z. count z k) aged)))

-- a row is filled at each age below n
pub record IsFilled (P : ℕ → ℕ → Type 0) (row : List ℕ) (n : ℕ) : Type 0 where
  pub long : length row ≡ 121
  pub told : (x : ℕ) → x < n → P x (get_or row x 0)
