use Rattle.std.proofs.Common.{◌≡◌, ℕ, subst}
use Rattle.fault.specs.Faults.{Outcome}
use Rattle.basis.specs.Figures.{Figures}
use Rattle.basis.specs.StraightLine.{straight_line, straight_line_fault}
use Rattle.speed.specs.Repeated.{repeated_at}
use Rattle.speed.proofs.dotselm_on_line.Goals as goal

same_line : (on : Figures → ℕ) (z i r : ℕ) → z ≡ 65 → i ≡ 5000 → r ≡ on (straight_line z i) → r ≡ on (straight_line 65 5000)
same_line on z i r old ill e = cc

pub returns : goal.returns
returns c =
    let made = (subst (λ r. Outcome r (straight_line_fault 65 5000) (λ b. (b.final_age ≡ 65) × (b.invalidity ≡ 5000))) c.unwrap-line.ensures c.new.ensures).1 in
    same_line (λ f. repeated_at f c.args.interest c.args.instalments c.args.benefit c.args.age c.args.times) _ _ _ made.0 made.1 c.repeat_at.ensures
