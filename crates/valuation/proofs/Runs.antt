-- The loop of the one sum: what it has after some years, one year more, and at its end. Assumes nothing.
use Rattle.std.proofs.Common.{◌≡◌, ℕ, suc, ◌+◌, ◌-◌, ◌*◌, ◌/◌, ◌<◌, ◌≤◌, List, [], ◌∷◌, ◌++◌, length, get_or, sym, refl, ap, subst, ◌∙◌, add_assoc, mul-le-mul_left, arith}
use Rattle.std.proofs.lemmas.List.{append-nil, append_assoc, length_push, length-append}
use Rattle.std.proofs.Math.Seq.{get_or-append_seam}
use Rattle.std.proofs.Math.Nat.{div-le_of_le-mul}
use Rattle.valuation.specs.Fixed.{scale, product}
use Rattle.valuation.specs.Pair.{running, slack, weight}
use Rattle.valuation.proofs.Levels.{shrinks}

-- the years from k on are done
abbrev pub Run : (ℕ → ℕ) → (ℕ → ℕ) → List ℕ → ℕ → ℕ → ℕ → Type 0
Run s l amounts k low short =
    (low ≡ running s l (λ j. weight (get_or amounts j 0)) (length amounts - k) k)
    × (short ≡ slack (λ j. weight (get_or amounts j 0)) (length amounts - k) k)
    × (low ≤ 26214400000000000 * (length amounts - k))
    × (short ≤ 12212 * (length amounts - k))

running_none : (s l w : ℕ → ℕ) (k : ℕ) → running s l w 0 k ≡ 0
unfolding running
running_none s l w k = refl

slack_none : (w : ℕ → ℕ) (k : ℕ) → slack w 0 k ≡ 0
unfolding slack
slack_none w k = refl

pub run_none : (s l : ℕ → ℕ) (amounts : List ℕ) → Run s l amounts (length amounts) 0 0
run_none s l amounts =
    let w : ℕ → ℕ = λ j. weight (get_or amounts j 0) in
    let n = length amounts in
    let nothing : n - n ≡ 0 = omega arith in
    (sym (ap (λ m. running s l w m n) nothing ∙ running_none s l w n), sym (ap (λ m. slack w m n) nothing ∙ slack_none w n), omega arith, omega arith)

running_more : (s l w : ℕ → ℕ) (m k : ℕ) → running s l w (suc m) k ≡ product (w k) (l k) + product (s k) (running s l w m (suc k))
unfolding running
running_more s l w m k = refl

slack_more : (w : ℕ → ℕ) (m k : ℕ) → slack w (suc m) k ≡ slack w m (suc k) + w k * 8388608 / scale + 4
unfolding slack
slack_more w m k = refl

-- one year's part is at most 250 times its weight
year_bound : (a share : ℕ) → a ≤ 1000000 → share ≤ 250 * scale → product (weight a) share ≤ 26214400000000000
year_bound a share h modest = div-le_of_le-mul scale (omega (arith, mul-le-mul_left (weight a) modest, mul-le-mul_left (250 * scale) h))

part_bound : (a : ℕ) → a ≤ 1000000 → weight a * 8388608 / scale ≤ 12208
part_bound a h = div-le_of_le-mul scale (omega arith)

pub run_more : (s l : ℕ → ℕ) (amounts : List ℕ) (k low short share surv : ℕ) → 0 < k → k ≤ length amounts → get_or amounts (k - 1) 0 ≤ 1000000 → share ≡ l (k - 1) → surv ≡ s (k - 1) → share ≤ 250 * scale → surv ≤ scale
    → Run s l amounts k low short
    → Run s l amounts (k - 1) (product (weight (get_or amounts (k - 1) 0)) share + product surv low) (short + (weight (get_or amounts (k - 1) 0) * 8388608 / scale + 4))
run_more s l amounts k low short share surv pos inside small es ev modest below run =
    let w : ℕ → ℕ = λ j. weight (get_or amounts j 0) in
    let n = length amounts in
    let j = k - 1 in
    let years : n - j ≡ suc (n - k) = omega arith in
    let next : suc j ≡ k = omega arith in (
      ap (λ x. product (w j) x + product surv low) es ∙ ap (λ x. product (w j) (l j) + product x low) ev ∙ ap (λ x. product (w j) (l j) + product (s j) x) (run.0 ∙ ap (running s l w (n - k)) (sym next))
          ∙ sym (ap (λ m. running s l w m j) years ∙ running_more s l w (n - k) j),
      ap (λ x. x + (w j * 8388608 / scale + 4)) (run.1 ∙ ap (slack w (n - k)) (sym next)) ∙ sym (add_assoc (slack w (n - k) (suc j)) (w j * 8388608 / scale) 4) ∙ sym (ap (λ m. slack w m j) years ∙ slack_more w (n - k) j),
      omega (arith, run.2, year_bound (get_or amounts j 0) share small modest, shrinks surv low below),
      omega (arith, run.3, part_bound (get_or amounts j 0) small),
    )

-- the same, of the numbers that the code has
pub run_year : (s l : ℕ → ℕ) (amounts : List ℕ) (k low short share surv this later : ℕ) → 0 < k → k ≤ length amounts → get_or amounts (k - 1) 0 ≤ 1000000 → share ≡ l (k - 1) → surv ≡ s (k - 1) → share ≤ 250 * scale → surv ≤ scale
    → this ≡ product (weight (get_or amounts (k - 1) 0)) share → later ≡ product surv low → Run s l amounts k low short
    → Run s l amounts (k - 1) (this + later) (short + (weight (get_or amounts (k - 1) 0) * 8388608 / scale + 4))
run_year s l amounts k low short share surv this later pos inside small es ev modest below et el run =
    let next = run_more s l amounts k low short share surv pos inside small es ev modest below run in
    (ap (λ x. x + later) et ∙ ap (λ x. product (weight (get_or amounts (k - 1) 0)) share + x) el ∙ next.0, next.1, omega (arith, et, el, next.2), next.3)

-- the years that the loop has still to do are the first of all
abbrev pub Ahead : (ℕ → ℕ) → (ℕ → ℕ) → List ℕ → List ℕ → ℕ → ℕ → Type 0
Ahead s l amounts rest low short = ((done : List ℕ) × (amounts ≡ rest ++ done)) × Run s l amounts (length rest) low short

pub ahead_none : (s l : ℕ → ℕ) (amounts : List ℕ) → Ahead s l amounts amounts 0 0
ahead_none s l amounts = (([], sym (append-nil amounts)), run_none s l amounts)

pub ahead_year : (s l : ℕ → ℕ) (amounts rest left : List ℕ) (k a low short share surv this later : ℕ) → rest ≡ left ++ a ∷ [] → k ≡ length left → ((j : ℕ) → get_or amounts j 0 ≤ 1000000) → share ≡ l k → surv ≡ s k → share ≤ 250 * scale → surv ≤ scale
    → this ≡ product (weight a) share → later ≡ product surv low → Ahead s l amounts rest low short → Ahead s l amounts left (this + later) (short + (weight a * 8388608 / scale + 4))
ahead_year s l amounts rest left k a low short share surv this later er ek modest es ev small below et el ahead =
    let n = length rest in
    let whole = ahead.0.1 ∙ ap (λ xs. xs ++ ahead.0.0) er ∙ append_assoc left (a ∷ []) ahead.0.0 in
    let longer : n ≡ length left + 1 = ap length er ∙ length_push left a in
    let inside : n ≤ length amounts = omega (arith, ap length ahead.0.1 ∙ length-append rest ahead.0.0) in
    let last : n - 1 ≡ length left = omega (arith, longer) in
    let year : n - 1 ≡ k = last ∙ sym ek in
    let amount : get_or amounts (n - 1) 0 ≡ a = ap (λ j. get_or amounts j 0) last ∙ ap (λ xs. get_or xs (length left) 0) whole ∙ get_or-append_seam left a ahead.0.0 0 in
    let run = run_year s l amounts n low short share surv this later (omega (arith, longer)) inside (modest (n - 1)) (es ∙ ap l (sym year)) (ev ∙ ap s (sym year)) small below (et ∙ ap (λ b. product (weight b) share) (sym amount)) el ahead.1 in (
      (a ∷ ahead.0.0, whole),
      subst (λ j. Run s l amounts j (this + later) (short + (weight a * 8388608 / scale + 4))) last
          (subst (λ b. Run s l amounts (n - 1) (this + later) (short + (weight b * 8388608 / scale + 4))) amount run),
    )
