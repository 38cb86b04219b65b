use Rattle.std.proofs.Common.{◌+◌, length, subst, sym, ap, zero-add, ◌∙◌}
use Rattle.valuation.proofs.Runs.{Ahead, ahead_none, ahead_year}
use Rattle.valuation.proofs.path.run.Goals as goal

pub loop-k-init : goal.loop-k-init
loop-k-init g c =
    let s = g.P.Path.survivals c.args.path.now c.args.basis.now in
    let l = g.P.Path.shares c.args.path.now c.args.basis.now in
    let counted = ap (λ r. r.iter) c.into_iter-k-iterator.ensures.into_iter_gives ∙ c.rev-k-items.ensures.source in
    let rest = ap (λ e. e.iter.rest.now) counted ∙ ap (λ i. i.rest.now) c.enumerate.ensures.source ∙ c.iter.ensures.rest in
    (ap (λ e. e.count) counted ∙ c.enumerate.ensures.count, subst (λ xs. Ahead s l c.args.amounts.now xs 0 0) (sym rest) (ahead_none s l c.args.amounts.now))

pub loop-k-preserved : goal.loop-k-preserved
loop-k-preserved g c =
    let s = g.P.Path.survivals c.args.path.now c.args.basis.now in
    let l = g.P.Path.shares c.args.path.now c.args.basis.now in
    let steps = c.in-Some.ensures.steps in
    let k = steps.1.1 ∙ ap (λ n. n + length c.next.new.self.iter.iter.rest.now) c.loop-k.invariant.0 ∙ zero-add _ in (
      steps.0 ∙ c.loop-k.invariant.0,
      ahead_year s l c.args.amounts.now _ _ c.in-Some.k c.in-Some.amount.now c.loop-k.low c.loop-k.short c.share.result c.survival.result.number c.product-now.result c.of.result
          steps.1.0 k c.requires.modest c.share.ensures.value c.survival.ensures c.share.ensures.modest c.survival.result.below c.product-now.ensures.value c.of.ensures.value c.loop-k.invariant.1,
    )
