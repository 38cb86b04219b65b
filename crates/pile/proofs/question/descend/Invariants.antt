use Rattle.std.proofs.Common.{◌≡◌, ◌<◌, List, ◌++◌}
use Rattle.pile.specs.declared.layer.Layer.{Layer}
use Rattle.basis.specs.Figures.{Figures, Lawful, count}
use Rattle.pile.proofs.Reached.{Reached}
use Rattle.pile.proofs.question.descend.Given as goal

abbrev pub invariant-loop-depth : goal.invariant-loop-depth
invariant-loop-depth l =
    let below = l.depth-iterator.iter.iter.rest.now in
    (l.depth-iterator.iter.count ≡ 0)
    × ((above : List Layer)
    × (l.layers ≡ below ++ above)
    × ((f : Figures) → Lawful f → f.final_age ≡ l.final_age → l.initial.age < count f.final_age l.kind → Reached l.layers below above f l.kind l.initial.age l.age))
