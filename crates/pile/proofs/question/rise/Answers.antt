use Rattle.std.proofs.Common.{◌≡◌, ◌+◌, get_or, drop}
use Rattle.std.proofs.lemmas.List.{at_drop_more, at_drop_all}
use Rattle.pile.specs.Question.{chance_above, risen}
use Rattle.pile.proofs.question.rise.Goals as goal

pub loop-layer-preserved : goal.loop-layer-preserved
unfolding risen
loop-layer-preserved c =
    let layers = c.args.layers.now in
    let i = c.loop-layer.layer-index in
    let next : risen (drop i layers) c.loop-layer.chance c.args.most ≡ risen (drop (i + 1) layers) (chance_above (get_or layers i c.layer-item.result) c.loop-layer.chance c.args.most) c.args.most =
    at_drop_more (λ l. risen l c.loop-layer.chance c.args.most) layers i c.layer-item.result c.loop-layer-test.true in
    cc

pub returns : goal.returns
unfolding risen
returns c =
    let end : risen (drop c.loop-layer.layer-index c.args.layers.now) c.loop-layer.chance c.args.most ≡ c.loop-layer.chance =
    at_drop_all (λ l. risen l c.loop-layer.chance c.args.most) c.args.layers.now c.loop-layer.layer-index c.loop-layer-test.false in
    cc
