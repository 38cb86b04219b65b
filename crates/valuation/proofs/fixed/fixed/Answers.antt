use Rattle.std.proofs.Common.{◌≡◌, ℕ, ◌+◌, ◌*◌, ◌/◌, ◌%◌, ◌<◌, sym, ap, ◌∙◌, arith}
use Rattle.std.proofs.lemmas.Nat.{div-add-mod'}
use Rattle.std.proofs.Math.Nat.{mul-add-div_right}
use Rattle.valuation.proofs.Added.{fixed_small}
use Rattle.valuation.proofs.fixed.fixed.Goals as goal

-- a division of 2^56 times n as one of 2^43 times n, and one of 2^13 times what that leaves
two_steps : (n d : ℕ) → 0 < d → (n * 8796093022208 / d) * 8192 + (n * 8796093022208 % d) * 8192 / d ≡ n * 72057594037927936 / d
two_steps n d h =
    let q = n * 8796093022208 / d in
    let r = n * 8796093022208 % d in
    let parts : q * d + r ≡ n * 8796093022208 = div-add-mod' (n * 8796093022208) d in
    let whole : q * 8192 * d + r * 8192 ≡ n * 72057594037927936 = omega (arith, ap (λ m. m * 8192) parts) in
    sym (ap (λ m. m / d) (sym whole) ∙ mul-add-div_right h (q * 8192) (r * 8192))

pub returns-then-d-le2000000 : goal.returns-then-d-le2000000
returns-then-d-le2000000 c =
    let same = two_steps c.args.n c.args.d c.requires.some in
    record { value = same; below = λ h. omega (arith, same, fixed_small c.args.n c.args.d h) }
