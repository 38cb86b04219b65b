use Rattle.std.proofs.Common.{◌≡◌, ◌+◌, [], ◌∷◌, ◌++◌, length, drop, sym, ap, ◌∙◌, subst, arith}
use Rattle.std.proofs.Math.Seq.{drop-append_seam}
use Rattle.std.proofs.lemmas.List.{append-nil, append_assoc, length_push, nil_from_length, take_rest}
use Rattle.pile.specs.Pile.{piled}
use Rattle.pile.specs.Question.{age_below, carried, greatest}
use Rattle.pile.proofs.Reached.{Reached, reached_top, reached_more, reached_bottom, reached_last}
use Rattle.pile.proofs.question.descend.Goals as goal

pub loop-depth-init : goal.loop-depth-init
loop-depth-init c =
    let layers = c.args.layers.now in
    let counted = ap (λ r. r.iter) c.into_iter-depth-iterator.ensures.into_iter_gives ∙ c.rev-depth-items.ensures.source in
    let below = ap (λ e. e.iter.rest.now) counted ∙ ap (λ i. i.rest.now) c.enumerate.ensures.source ∙ c.iter.ensures.rest in (
      ap (λ e. e.count) counted ∙ c.enumerate.ensures.count,
      (
        [],
        sym (append-nil layers) ∙ ap (λ ls. ls ++ []) (sym below),
        λ f lawful z h. subst (λ ls. Reached layers ls [] f c.args.kind c.args.age c.args.age) (sym below) (reached_top layers f c.args.kind c.args.age h),
      ),
    )

pub loop-depth-preserved : goal.loop-depth-preserved
loop-depth-preserved c =
    let layers = c.args.layers.now in
    let steps = c.in-Some.ensures.steps in
    let layer = c.in-Some.layer.now in
    let left = c.next.new.self.iter.iter.rest.now in
    let above = c.loop-depth.invariant.1.0 in
    let split = c.loop-depth.invariant.1.1 ∙ ap (λ ls. ls ++ above) steps.1.0 ∙ append_assoc left (layer ∷ []) above in (
      steps.0 ∙ c.loop-depth.invariant.0,
      (
        layer ∷ above,
        split,
        λ f lawful z h.
            subst (Reached layers left (layer ∷ above) f c.args.kind c.args.age) (ap (λ n. age_below n layer c.args.kind c.loop-depth.age) z ∙ sym c.age_below-age.ensures)
            (reached_more layers _ left above layer f c.args.kind c.args.age c.loop-depth.age lawful steps.1.0 c.if-age-eq-LAST_AGE.false (c.loop-depth.invariant.1.2 f lawful z h)),
      ),
    )

pub returns-then-age-eq-LAST_AGE : goal.returns-then-age-eq-LAST_AGE
returns-then-age-eq-LAST_AGE c = λ f lawful z h.
    let layers = c.args.layers.now in
    let below = c.loop-depth.depth-iterator.iter.iter.rest.now in
    let above = c.loop-depth.invariant.1.0 in
    let steps = c.in-Some.ensures.steps in
    let next : c.in-Some.depth + 1 ≡ length below = omega (arith, steps.1.1, c.loop-depth.invariant.0, ap length steps.1.0, length_push c.next.new.self.iter.iter.rest.now c.in-Some.layer.now) in
    let cut : drop (c.in-Some.depth + 1) layers ≡ above = ap (λ n. drop n layers) next ∙ ap (drop (length below)) c.loop-depth.invariant.1.1 ∙ drop-append_seam below above in
    rw (take_rest layers (c.in-Some.depth + 1), cut)
    (reached_last layers below above f c.args.kind c.args.age c.loop-depth.age lawful c.if-age-eq-LAST_AGE.true (c.loop-depth.invariant.1.2 f lawful z h))

pub returns : goal.returns
returns c = λ f lawful z h.
    let layers = c.args.layers.now in
    let below = c.loop-depth.depth-iterator.iter.iter.rest.now in
    let above = c.loop-depth.invariant.1.0 in
    let none : below ≡ [] = nil_from_length below c.in-None.ensures.steps.1.0 in
    let whole : layers ≡ above = c.loop-depth.invariant.1.1 ∙ ap (λ ls. ls ++ above) none in
    subst (λ ls. carried c.args.kind (greatest f c.args.kind c.loop-depth.age) ls (f.figure c.args.kind c.loop-depth.age) ≡ (piled layers f).figure c.args.kind c.args.age) (sym whole)
    (reached_bottom layers below above f c.args.kind c.args.age c.loop-depth.age none (c.loop-depth.invariant.1.2 f lawful z h))
