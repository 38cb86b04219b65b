use Rattle.std.proofs.Common.{◌≡◌, ℕ, ◌<◌}
use Rattle.valuation.specs.Benefits.{name}
use Rattle.valuation.proofs.Named.{benefit_at}
use Rattle.valuation.proofs.benefit.Benefit.from_name.Given as goal

abbrev pub invariant-loop-benefit : goal.invariant-loop-benefit
invariant-loop-benefit l = (i : ℕ) → i < l.benefit-index → name (benefit_at i) ≡ l.text → ⊥
