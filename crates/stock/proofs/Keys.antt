-- Tests against one key, and what is found under it. Assumes nothing.
use Rattle.std.proofs.Common.{◌≡◌, ℕ, Bool, true, false, cond, eqb, sym, refl, ap, ◌∙◌}
use Rattle.std.proofs.lemmas.Bool.{true≢false, eqb-true, eqb-false, ne_eqb}

-- of two tests that are not both true, either may come first
pub swap : {X : Type 0} (s t : Bool) (x y z : X) → (s ≡ true → t ≡ false) → cond t y (cond s x z) ≡ cond s x (cond t y z)
swap false t x y z h = refl
swap true true x y z h = absurd (true≢false (h refl))
swap true false x y z h = refl

-- a test that is true only where the first is
pub skip : {X : Type 0} (s t : Bool) (x y z : X) → (s ≡ false → t ≡ false) → cond s x z ≡ cond s x (cond t y z)
skip true t x y z h = refl
skip false true x y z h = absurd (true≢false (h refl))
skip false false x y z h = refl

-- a key that differs from another differs from all that equal it
pub other_key : (a key k : ℕ) → eqb a key ≡ false → eqb key k ≡ true → eqb a k ≡ false
other_key a key k differs same = ap (eqb a) (sym (eqb-true key k same)) ∙ differs

pub same_key : (a key k : ℕ) → a ≡ key → eqb key k ≡ false → eqb a k ≡ false
same_key a key k same differs = ap (λ n. eqb n k) same ∙ differs

pub turned : (a b : ℕ) → eqb a b ≡ false → eqb b a ≡ false
turned a b h = ne_eqb b a (λ e. eqb-false a b h (sym e))
