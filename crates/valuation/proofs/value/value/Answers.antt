use Rattle.std.proofs.Common.{arith}
use Rattle.valuation.proofs.Granted.{granted}
use Rattle.valuation.proofs.Pairing.{span_few, sum_small, valued_sum}
use Rattle.valuation.proofs.value.value.Goals as goal

pub invariant_of-sum_of : goal.invariant_of-sum_of
invariant_of-sum_of g c =
    let z = (g.B.Basis.figures c.args.basis.now).final_age in
    let passed = granted z c.args.promise.benefit c.args.promise.age c.args.promise.amounts.now _ c.in_ok-check_promise.ensures.0 in
    let years = span_few z (g.met.B.Basis.lawful c.args.basis.now).aged.1 c.args.promise.benefit in
    record { aged = omega (arith, passed.aged, years 0); few = omega (arith, passed.spanned, years c.args.promise.age); modest = passed.modest }

pub sum_of-low-requires : goal.sum_of-low-requires
sum_of-low-requires g c =
    let z = (g.B.Basis.figures c.args.basis.now).final_age in
    let passed = granted z c.args.promise.benefit c.args.promise.age c.args.promise.amounts.now _ c.in_ok-check_promise.ensures.0 in
    record { long = omega (arith, passed.room); spanned = passed.spanned }

pub overflow_add-upper : goal.overflow_add-upper
overflow_add-upper g c =
    let p = c.args.promise in
    let modest = (granted _ p.benefit p.age p.amounts.now _ c.in_ok-check_promise.ensures.0).modest in
    omega (arith, sum_small (g.B.Basis.figures c.args.basis.now) (g.met.B.Basis.lawful c.args.basis.now) c.args.terms.interest c.args.terms.instalments c.args.terms.usual p.benefit p.age p.amounts.now modest _ _ _ _ c.from.ensures.0 c.from.ensures.1 c.sum_of-low.ensures.high)

pub overflow_add-upper-2 : goal.overflow_add-upper-2
overflow_add-upper-2 g c =
    let p = c.args.promise in
    let modest = (granted _ p.benefit p.age p.amounts.now _ c.in_ok-check_promise.ensures.0).modest in
    omega (arith, sum_small (g.B.Basis.figures c.args.basis.now) (g.met.B.Basis.lawful c.args.basis.now) c.args.terms.interest c.args.terms.instalments c.args.terms.usual p.benefit p.age p.amounts.now modest _ _ _ _ c.from.ensures.0 c.from.ensures.1 c.sum_of-low.ensures.high)

pub returns-clause-answer : goal.returns-clause-answer
returns-clause-answer g c =
    let p = c.args.promise in
    let modest = (granted _ p.benefit p.age p.amounts.now _ c.in_ok-check_promise.ensures.0).modest in
    (c.in_ok-check_promise.ensures.0, valued_sum (g.B.Basis.figures c.args.basis.now) (g.met.B.Basis.lawful c.args.basis.now) c.args.terms.interest c.args.terms.instalments c.args.terms.usual p.benefit p.age p.amounts.now modest _ _ _ _ c.from.ensures.0 c.from.ensures.1 c.sum_of-low.ensures.low c.sum_of-low.ensures.high)
