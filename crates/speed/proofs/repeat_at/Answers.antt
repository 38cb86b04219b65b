use Rattle.std.proofs.Common.{◌≡◌, ℕ, ◌≤◌, take, replicate, ap, ◌∙◌}
use Rattle.std.proofs.lemmas.List.{take-replicate}
use Rattle.valuation.specs.declared.benefit.Benefit.{Benefit}
use Rattle.valuation.specs.Benefits.{span}
use Rattle.valuation.proofs.Pairing.{span_few}
use Rattle.speed.proofs.repeat_at.Goals as goal

-- the first n of as many years as a promise can have
first_years : (asked z : ℕ) (b : Benefit) (x n : ℕ) → asked ≡ z → z ≤ 80 → n ≡ span asked b x → take {A = ℕ} n (replicate 121 12000) ≡ replicate (span z b x) 12000
first_years asked z b x n same old years =
    ap (λ k. take {A = ℕ} k (replicate 121 12000)) (years ∙ ap (λ a. span a b x) same) ∙ take-replicate (span z b x) 121 12000 (span_few z old b x)

pub repeat-requires : goal.repeat-requires
repeat-requires g c =
    let aged = (g.met.B.Basis.lawful c.args.basis.now).aged in
    first_years _ _ c.in-Some.benefit c.args.age c.span-years.result c.final_age.ensures aged.1 c.span-years.ensures
