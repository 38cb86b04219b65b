-- Registers in which each promise stands equally often have equal sums of whatever depends on the promise alone. Assumes nothing.
use Rattle.std.proofs.Common.{◌≡◌, ℕ, ◌+◌, ◌<◌, Bool, true, cond, List, [], ◌∷◌, Decides, sum_by, sym, refl, ap, ◌∙◌, arith}
use Rattle.std.proofs.lemmas.Slice.Eq.{compares_Decides}
use Rattle.std.proofs.lemmas.List.Sums.{sum_by-cons}
use Rattle.std.proofs.lemmas.Bool.{and_parts, and_from, eqb-true, eq-eqb, cond_both}
use Rattle.valuation.specs.Benefits.{name}
use Rattle.valuation.specs.declared.benefit.Benefit.{Benefit}
use Rattle.valuation.specs.declared.benefit.Benefit.TheVariants.{Retired, Population, Invalid, Widow, RetiredWidow, PopulationWidow, InvalidWidow, Active, ActiveRetirement, ActiveInvalidity, ActiveInvalidityRetirement, ActiveDeathWidow, ActiveRetiredWidow, ActiveOrRetiredWidow, ActiveInvalidWidow, ActiveWidow}
use Rattle.stock.specs.Register.{Promise, Entry}
use Rattle.stock.specs.Law.{same_numbers, same, often, EquallyOften}

same_numbers_decides : (ms ns : List ℕ) → Decides (same_numbers ms ns) (ms ≡ ns)
unfolding same_numbers
same_numbers_decides = compares_Decides same_numbers (record { empty = refl; shorter = λ n ns. refl; longer = λ m ms. refl; heads = λ m n ms ns. refl })

-- the benefit that has a name, so that benefits with equal names are equal
abbrev first_named : List Benefit → List ℕ → Benefit
first_named [] ns = Retired
first_named (b ∷ bs) ns = cond (same_numbers (name b) ns) b (first_named bs ns)

abbrev named : List ℕ → Benefit
named = first_named (Retired ∷ Population ∷ Invalid ∷ Widow ∷ RetiredWidow ∷ PopulationWidow ∷ InvalidWidow ∷ Active ∷ ActiveRetirement ∷ ActiveInvalidity ∷ ActiveInvalidityRetirement ∷ ActiveDeathWidow ∷ ActiveRetiredWidow ∷ ActiveOrRetiredWidow ∷ ActiveInvalidWidow ∷ ActiveWidow ∷ [])

named_back : (b : Benefit) → named (name b) ≡ b
unfolding same_numbers
named_back Retired = refl
named_back Population = refl
named_back Invalid = refl
named_back Widow = refl
named_back RetiredWidow = refl
named_back PopulationWidow = refl
named_back InvalidWidow = refl
named_back Active = refl
named_back ActiveRetirement = refl
named_back ActiveInvalidity = refl
named_back ActiveInvalidityRetirement = refl
named_back ActiveDeathWidow = refl
named_back ActiveRetiredWidow = refl
named_back ActiveOrRetiredWidow = refl
named_back ActiveInvalidWidow = refl
named_back ActiveWidow = refl

same_name : (b c : Benefit) → name b ≡ name c → b ≡ c
same_name b c e = sym (named_back b) ∙ ap named e ∙ named_back c

-- promises are the same just if they are equal
same_equal : (p q : Promise) → same p q ≡ true → p ≡ q
same_equal p q e =
    let parts = and_parts _ _ e in
    let rest = and_parts _ _ parts.1 in
    let benefit = same_name p.benefit q.benefit ((same_numbers_decides _ _).0 parts.0) in
    let age = eqb-true p.age q.age rest.0 in
    let amounts = (same_numbers_decides p.amounts q.amounts).0 rest.1 in
    λ k. record { benefit = benefit k; age = age k; amounts = amounts k }

same_itself : (p : Promise) → same p p ≡ true
same_itself p = and_from _ _ ((same_numbers_decides _ _).1 refl) (and_from _ _ (eq-eqb _ _ refl) ((same_numbers_decides _ _).1 refl))

-- the sum of what depends on the promise alone
abbrev sum_of : (Promise → ℕ) → List Entry → ℕ
sum_of g es = sum_by (λ e. g e.promise) es

sum_of_cons : (g : Promise → ℕ) (e : Entry) (es : List Entry) → sum_of g (e ∷ es) ≡ g e.promise + sum_of g es
sum_of_cons g e es = sum_by-cons (λ d. g d.promise) e es

abbrev one : Bool → ℕ
one b = cond b 1 0

-- how often a promise p stands in a register is the sum of `one_if p`
abbrev one_if : Promise → Promise → ℕ
one_if p q = one (same q p)

-- the promise of the first entry stands there
stands : (e : Entry) (es : List Entry) → 0 < often (e ∷ es) e.promise
stands e es = omega (arith, sum_of_cons (one_if e.promise) e es, ap one (same_itself e.promise))

-- the register without the first entry that has a promise
abbrev without : Promise → List Entry → List Entry
without p [] = []
without p (e ∷ es) = cond (same e.promise p) es (e ∷ without p es)

-- a sum, and so a count, is what a promise that stands there adds, and what is left without it
take_out : (g : Promise → ℕ) (p : Promise) (es : List Entry) → 0 < often es p → sum_of g es ≡ g p + sum_of g (without p es)
take_out g p [] some = absurd (omega arith)
take_out g p (e ∷ es) some =
    cond_both (same e.promise p) es (e ∷ without p es) (λ ds. sum_of g (e ∷ es) ≡ g p + sum_of g ds)
    (λ yes. sum_of_cons g e es ∙ ap (λ q. g q + sum_of g es) (same_equal e.promise p yes))
    (λ no. omega (arith, sum_of_cons g e es, take_out g p es (omega (arith, sum_of_cons (one_if p) e es, ap one no)), sum_of_cons g e (without p es)))

pub equal_sums : (g : Promise → ℕ) (es ds : List Entry) → EquallyOften es ds → sum_by (λ e. g e.promise) es ≡ sum_by (λ e. g e.promise) ds
equal_sums g [] [] equally = refl
equal_sums g [] (d ∷ ds) equally = absurd (omega (arith, equally d.promise, stands d ds))
equal_sums g (e ∷ es) ds equally =
    let p = e.promise in
    let some : 0 < often ds p = omega (arith, equally p, stands e es) in
    let fewer : EquallyOften es (without p ds) = λ q. omega (arith, equally q, sum_of_cons (one_if q) e es, take_out (one_if q) p ds some) in
    omega (arith, sum_of_cons g e es, equal_sums g es (without p ds) fewer, take_out g p ds some)
