use Rattle.std.proofs.Common.{◌+◌, ◌-◌, ◌*◌, arith}
use Rattle.valuation.specs.Fixed.{fixed}
use Rattle.valuation.specs.Rates.{part_den}
use Rattle.valuation.proofs.Added.{loss_small, kept_small, fixed_small, added_step, added_end, added_fits}
use Rattle.valuation.proofs.Rating.{loss_below, kept_below}
use Rattle.valuation.proofs.rates.parts_of_year.Goals as goal

pub overflow_add-loss : goal.overflow_add-loss
overflow_add-loss c =
    let i = c.args.interest in
    let t = c.args.t in
    omega (
      arith,
      added_fits t c.loop-m.m c.loop-m.loss c.fixed-loss.result (λ m. fixed (m * (10000 + i)) (part_den i t m)) c.requires.few c.loop-m-test.true c.fixed-loss.ensures.value
          (λ k l. fixed_small (k * (10000 + i)) (part_den i t k) (loss_small i t k c.requires.some l)) c.loop-m.invariant.0,
    )

pub overflow_add-rest : goal.overflow_add-rest
overflow_add-rest c =
    let i = c.args.interest in
    let t = c.args.t in
    omega (
      arith,
      added_fits t c.loop-m.m c.loop-m.rest c.fixed-rest.result (λ m. fixed (10000 * (t - m)) (part_den i t m)) c.requires.few c.loop-m-test.true c.fixed-rest.ensures.value
          (λ k l. fixed_small (10000 * (t - k)) (part_den i t k) (kept_small i t k c.requires.some)) c.loop-m.invariant.1,
    )

pub loop-m-preserved : goal.loop-m-preserved
loop-m-preserved c =
    let i = c.args.interest in
    let t = c.args.t in (
      added_step t c.loop-m.m c.loop-m.loss c.fixed-loss.result (λ m. fixed (m * (10000 + i)) (part_den i t m)) c.loop-m-test.true c.fixed-loss.ensures.value c.loop-m.invariant.0,
      added_step t c.loop-m.m c.loop-m.rest c.fixed-rest.result (λ m. fixed (10000 * (t - m)) (part_den i t m)) c.loop-m-test.true c.fixed-rest.ensures.value c.loop-m.invariant.1,
    )

pub returns : goal.returns
returns c =
    let i = c.args.interest in
    let t = c.args.t in
    record {
      loss = added_end t c.loop-m.m c.loop-m.loss (λ m. fixed (m * (10000 + i)) (part_den i t m)) c.loop-m-test.false c.loop-m.invariant.0;
      kept = added_end t c.loop-m.m c.loop-m.rest (λ m. fixed (10000 * (t - m)) (part_den i t m)) c.loop-m-test.false c.loop-m.invariant.1;
    }

pub invariant_of-result : goal.invariant_of-result
invariant_of-result c =
    let i = c.args.interest in
    let t = c.args.t in
    record { below = omega (arith, loss_below i t c.requires.some, added_end t c.loop-m.m c.loop-m.loss (λ m. fixed (m * (10000 + i)) (part_den i t m)) c.loop-m-test.false c.loop-m.invariant.0) }

pub invariant_of-result-2 : goal.invariant_of-result-2
invariant_of-result-2 c =
    let i = c.args.interest in
    let t = c.args.t in
    record { below = omega (arith, kept_below i t c.requires.some, added_end t c.loop-m.m c.loop-m.rest (λ m. fixed (10000 * (t - m)) (part_den i t m)) c.loop-m-test.false c.loop-m.invariant.1) }
