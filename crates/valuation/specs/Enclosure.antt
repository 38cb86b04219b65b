-- What the stated pair does. Assumes nothing.
use Rattle.std.specs.Prelude.{◌≡◌, ℕ, ◌+◌, ◌≤◌, true, List, slice_index}
use Rattle.basis.specs.Figures.{Figures, Lawful}
use Rattle.valuation.specs.declared.benefit.Benefit.{Benefit}
use Rattle.valuation.specs.Fraction.{Proper, whole, ◌≼◌}
use Rattle.valuation.specs.Terms.{listed}
use Rattle.valuation.specs.Exact.{exact_cents}
use Rattle.valuation.specs.Pair.{lower, upper}

-- the exact value is a fraction and lies between the two, and with amounts of at most a million they are at most 3 cents apart
pub record Enclosed (f : Figures) (interest instalments : ℕ) (b : Benefit) (x : ℕ) (amounts : List ℕ) : Type 0 where
  pub proper : Proper (exact_cents f interest instalments b x amounts)
  pub low : whole (lower f interest instalments b x amounts) ≼ exact_cents f interest instalments b x amounts
  pub high : exact_cents f interest instalments b x amounts ≼ whole (upper f interest instalments b x amounts)
  pub gap : ((k : ℕ) → slice_index amounts k ≤ 1000000) → upper f interest instalments b x amounts ≤ lower f interest instalments b x amounts + 3

-- on every lawful basis, under all terms, for every benefit, age and list of amounts
abbrev pub PairsEnclose : Type 0
PairsEnclose = (f : Figures) → Lawful f → (interest instalments : ℕ) → listed instalments ≡ true → (b : Benefit) (x : ℕ) (amounts : List ℕ) → Enclosed f interest instalments b x amounts
