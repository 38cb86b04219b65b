use Rattle.std.proofs.Common.{◌-◌, arith}
use Rattle.valuation.specs.Columns.{level_of, level_share}
use Rattle.valuation.proofs.Descents.{level_end, down_none, down_more, next_value}
use Rattle.valuation.proofs.Shares.{levels_bound}
use Rattle.valuation.proofs.rates.Rates.fill.Goals as goal

pub loop-age-init : goal.loop-age-init
loop-age-init g c =
    let f = g.B.Basis.figures c.args.basis.now in
    let i = c.args.self.now.interest in
    let t = c.args.self.now.instalments in
    let stream = c.args.stream in
    down_none (level_of f i t stream.population stream.level) c.args.part.now (level_end f i t stream.population (level_share f i t stream.population stream.level) 121 (omega arith)) (omega arith)

pub overflow_add-later : goal.overflow_add-later
overflow_add-later g c =
    let f = g.B.Basis.figures c.args.basis.now in
    let rates = c.args.self.now in
    let stream = c.args.stream in
    let k = c.loop-age.age in
    let next = next_value f rates.interest rates.instalments stream.population (level_share f rates.interest rates.instalments stream.population stream.level) k c.loop-age.later c.level_share-share.result c.goes_on-goes_on.result.number c.of.result
    (omega arith) (omega arith) c.level_share-share.ensures c.goes_on-goes_on.ensures c.of.ensures.value c.loop-age.invariant.here in
    omega (arith, next, levels_bound f (g.met.B.Basis.lawful c.args.basis.now) rates.interest rates.instalments rates.some rates.few stream.population stream.level (k - 1))

pub loop-age-preserved : goal.loop-age-preserved
loop-age-preserved g c =
    let f = g.B.Basis.figures c.args.basis.now in
    let rates = c.args.self.now in
    let stream = c.args.stream in
    let k = c.loop-age.age in
    let next = next_value f rates.interest rates.instalments stream.population (level_share f rates.interest rates.instalments stream.population stream.level) k c.loop-age.later c.level_share-share.result c.goes_on-goes_on.result.number c.of.result
    (omega arith) (omega arith) c.level_share-share.ensures c.goes_on-goes_on.ensures c.of.ensures.value c.loop-age.invariant.here in
    down_more _ c.loop-age.part k c.loop-age.later _ (omega arith) (omega arith) next c.loop-age.invariant
