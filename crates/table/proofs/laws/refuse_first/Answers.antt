use Rattle.std.proofs.Common.{◌≡◌, ◌<◌, ◌≤◌, true, false, Some, None, refl, ap, sym, ◌∙◌, ⊎_elim, rules, arith}
use Rattle.std.proofs.lemmas.Bool.{cases_lt}
use Rattle.std.proofs.lemmas.Iterator.{first_from_Range}
use Rattle.basis.specs.Figures.{rank}
use Rattle.fault.specs.Faults.{fault}
use Rattle.fault.proofs.Firsts.{first_passed, first_found}
use Rattle.table.proofs.laws.refuse_first.Goals as goal

pub returns-in-Some : goal.returns-in-Some
returns-in-Some g c = λ check checks.
    let ages = c.args.ages in
    let age = c.in-Some.age in
    let found = first_from_Range ages _ _ (Some age) (λ x. ages.start ≤ x → x < ages.end → check x ≡ Some (fault c.args.refusal (rank c.args.kind) x)) (λ x. ages.start ≤ x → x < ages.end → check x ≡ None) c.in-Some.ensures.ran
    (λ x q k from to. checks.1 x true from to (search rules)) (λ x q k. (search rules, λ from to. checks.1 x false from to (search rules))) in
    let met : fault c.args.refusal (rank c.args.kind) age ≡ c.new.result = ap (λ n. fault c.args.refusal n age) (sym c.rank.ensures) ∙ sym c.new.ensures in
    first_found age ages.end check c.new.result (first_passed age check (λ k l. ⊎_elim (checks.0 k) (λ from. found.3 k from l from (omega arith)) (cases_lt k ages.start))) (found.2 found.0 found.1 ∙ ap Some met) found.1

pub returns : goal.returns
returns g c = λ check checks.
    let ages = c.args.ages in
    let none = first_from_Range ages _ _ None (λ x. x ≡ x) (λ x. ages.start ≤ x → x < ages.end → check x ≡ None) c.in-None.ensures.ran
    (λ x q k. refl) (λ x q k. (search rules, λ from to. checks.1 x false from to (search rules))) in
    (first_passed ages.end check (λ k l. ⊎_elim (checks.0 k) (λ from. none k from l from l) (cases_lt k ages.start)), tt)
