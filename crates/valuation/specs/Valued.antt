-- What a valuation answers. Assumes nothing.
use Rattle.std.specs.Prelude.{◌≡◌, ℕ, ◌+◌, ◌-◌, ◌*◌, ◌<◌, ◌≤◌, List, sum}
use Rattle.basis.specs.Figures.{Figures}
use Rattle.valuation.specs.declared.benefit.Benefit.{Benefit}
use Rattle.valuation.specs.declared.pair.Pair.{Pair}
use Rattle.valuation.specs.Fraction.{Proper, whole, ◌≼◌}
use Rattle.valuation.specs.Exact.{exact_cents}
use Rattle.valuation.specs.Pair.{lower, upper}

-- the pair of a promise that is taken: the stated one, and what it is good for
pub record Valued (f : Figures) (interest instalments : ℕ) (b : Benefit) (x : ℕ) (amounts : List ℕ) (pair : Pair) : Type 0 where
  pub lower_is : pair.lower ≡ lower f interest instalments b x amounts
  pub upper_is : pair.upper ≡ upper f interest instalments b x amounts
  -- the exact value is a fraction, and lies between the two
  pub proper : Proper (exact_cents f interest instalments b x amounts)
  pub low : whole pair.lower ≼ exact_cents f interest instalments b x amounts
  pub high : exact_cents f interest instalments b x amounts ≼ whole pair.upper
  -- they are at most 3 cents apart, and so as near as is promised
  pub ordered : pair.lower ≤ pair.upper
  pub gap : pair.upper ≤ pair.lower + 3
  pub promised : 1000 * (pair.upper - pair.lower) ≤ 20000 + sum amounts
  -- below 2^50, so that the pairs of a stock can be added
  pub small : pair.upper < 1125899906842624
