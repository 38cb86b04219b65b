use Rattle.std.proofs.Common.{◌≡◌, drop}
use Rattle.pile.specs.Question.{risen}
use Rattle.pile.proofs.question.rise.Given as goal

abbrev pub invariant-loop-layer : goal.invariant-loop-layer
invariant-loop-layer l = risen (drop l.layer-index l.layers) l.chance l.most ≡ risen l.layers l.initial.chance l.most
