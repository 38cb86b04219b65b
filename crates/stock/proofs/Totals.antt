-- The totals of a register enclose its exact sum. Assumes nothing.
use Rattle.std.proofs.Common.{ℕ, ◌+◌, ◌*◌, ◌≤◌, List, [], ◌∷◌, length, sum_by, sym, subst, mul-le-mul_right, mul-pos, arith}
use Rattle.std.specs.List.{AllByRecursion}
use Rattle.std.proofs.lemmas.List.Sums.{sum_by-cons}
use Rattle.basis.specs.Figures.{Figures}
use Rattle.valuation.specs.Fraction.{Fraction, Proper, whole, ◌⊕◌, ◌≼◌}
use Rattle.stock.specs.Register.{Entry}
use Rattle.stock.specs.Law.{exact_of, exact_sum, pair_of, totals, Enclosing}
use Rattle.stock.specs.Told.{Worth}

-- bounds added up
add_low : (l m : ℕ) (x y : Fraction) → whole l ≼ x → whole m ≼ y → whole (l + m) ≼ (x ⊕ y)
add_low l m x y h k = omega (arith, mul-le-mul_right y.den h, mul-le-mul_right x.den k)

add_high : (l m : ℕ) (x y : Fraction) → x ≼ whole l → y ≼ whole m → (x ⊕ y) ≼ whole (l + m)
add_high l m x y h k = omega (arith, mul-le-mul_right y.den h, mul-le-mul_right x.den k)

module _ (f : Figures) (interest t : ℕ) where
  abbrev lower_of : Entry → ℕ
  lower_of e = (pair_of f interest t e.promise).lower

  abbrev upper_of : Entry → ℕ
  upper_of e = (pair_of f interest t e.promise).upper

  proper_sum : (es : List Entry) → AllByRecursion (Worth f interest t) es → Proper (exact_sum f interest t es)
  unfolding exact_sum
  proper_sum [] worth = omega arith
  proper_sum (e ∷ es) worth = mul-pos worth.0.valued.proper (proper_sum es worth.1)

  low_sum : (es : List Entry) → AllByRecursion (Worth f interest t) es → whole (sum_by lower_of es) ≼ exact_sum f interest t es
  unfolding exact_sum
  low_sum [] worth = omega arith
  low_sum (e ∷ es) worth = subst (λ n. whole n ≼ exact_sum f interest t (e ∷ es)) (sym (sum_by-cons lower_of e es)) (add_low (lower_of e) (sum_by lower_of es) (exact_of f interest t e.promise) (exact_sum f interest t es) worth.0.valued.low (low_sum es worth.1))

  high_sum : (es : List Entry) → AllByRecursion (Worth f interest t) es → exact_sum f interest t es ≼ whole (sum_by upper_of es)
  unfolding exact_sum
  high_sum [] worth = omega arith
  high_sum (e ∷ es) worth = subst (λ n. exact_sum f interest t (e ∷ es) ≼ whole n) (sym (sum_by-cons upper_of e es)) (add_high (upper_of e) (sum_by upper_of es) (exact_of f interest t e.promise) (exact_sum f interest t es) worth.0.valued.high (high_sum es worth.1))

  gap_sum : (es : List Entry) → AllByRecursion (Worth f interest t) es → sum_by upper_of es ≤ sum_by lower_of es + 3 * length es
  gap_sum [] worth = omega arith
  gap_sum (e ∷ es) worth = omega (arith, sum_by-cons upper_of e es, sum_by-cons lower_of e es, worth.0.valued.gap, gap_sum es worth.1)

  pub enclosing : (es : List Entry) → AllByRecursion (Worth f interest t) es → Enclosing f interest t es (totals f interest t es)
  enclosing es worth = record { proper = proper_sum es worth; low = low_sum es worth; high = high_sum es worth; gap = omega (arith, gap_sum es worth) }
