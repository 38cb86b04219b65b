use Rattle.std.proofs.Common.{◌≡◌, ◌+◌, ◌-◌, ◌*◌}
use Rattle.valuation.specs.Fixed.{fixed}
use Rattle.valuation.specs.Rates.{added, part_den}
use Rattle.valuation.proofs.rates.parts_of_year.Given as goal

abbrev pub invariant-loop-m : goal.invariant-loop-m
invariant-loop-m l =
    (l.loss + added (l.t - l.m) l.m (λ m. fixed (m * (10000 + l.interest)) (part_den l.interest l.t m)) ≡ added l.t 0 (λ m. fixed (m * (10000 + l.interest)) (part_den l.interest l.t m)))
    × (l.rest + added (l.t - l.m) l.m (λ m. fixed (10000 * (l.t - m)) (part_den l.interest l.t m)) ≡ added l.t 0 (λ m. fixed (10000 * (l.t - m)) (part_den l.interest l.t m)))
