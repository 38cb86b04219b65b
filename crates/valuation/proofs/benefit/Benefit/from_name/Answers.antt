use Rattle.std.proofs.Common.{◌≡◌, arith}
use Rattle.valuation.specs.Benefits.{name}
use Rattle.valuation.proofs.Named.{each_benefit}
use Rattle.valuation.proofs.benefit.Benefit.from_name.Goals as goal

pub returns : goal.returns
returns c = each_benefit (λ b. name b ≡ c.args.text.now → ⊥) (λ i l. c.loop-benefit.invariant i (omega arith))
