use Rattle.std.proofs.Common.{◌<◌, vec_items, sym, ap, ◌∙◌, arith}
use Rattle.basis.specs.Figures.{count}
use Rattle.pile.specs.Pile.{bottom_figures}
use Rattle.pile.specs.Piles.{bottom_lawful, piled_lawful, piled_aged}
use Rattle.pile.proofs.PileBasis.figure.Goals as goal

pub returns-then-age-count : goal.returns-then-age-count
returns-then-age-count c =
    let b = c.args.self.now in
    let f = bottom_figures b.bottom in
    let layers = vec_items b.layers in
    let past = c.count.ensures ∙ ap (λ n. count n c.args.kind) (c.final_age-final_age.ensures ∙ sym (piled_aged layers f)) in
    sym ((piled_lawful layers f (bottom_lawful b.bottom)).ended c.args.kind c.args.age (omega arith))

pub returns : goal.returns
returns c =
    let b = c.args.self.now in
    let f = bottom_figures b.bottom in
    let z = c.final_age-final_age.ensures in
    let here : c.args.age < count f.final_age c.args.kind = omega (arith, c.count.ensures, ap (λ n. count n c.args.kind) z) in
    let told = c.descend-age.ensures f (bottom_lawful b.bottom) (sym z) here in
    cc
