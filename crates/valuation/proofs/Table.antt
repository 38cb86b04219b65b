-- The table of known figures, by one computed test. Assumes nothing.
use Rattle.std.proofs.Common.{◌≡◌, ◌*◌, Bool, true, ◌&&◌, eqb, ltb, List, [], ◌∷◌, refl}
use Rattle.std.specs.List.{AllByRecursion}
use Rattle.std.proofs.lemmas.Bool.{and_parts, ltb-true, eqb-true}
use Rattle.valuation.specs.Fraction.{Fraction}
use Rattle.valuation.specs.Sum.{total}
use Rattle.valuation.specs.Exact.{value, level, wid, retiring, retiring_widow, turning_invalid, turning_invalid_widow}
use Rattle.valuation.specs.Known.{Row, Holds, rows}
use Rattle.valuation.proofs.Backward.{backward, remaining, same_value}
use Rattle.valuation.proofs.Fractions.{same_trans}

-- the value by the backward sum has a denominator above 0, and equals what is expected
found : Row → Fraction
found r = value r.figures r.interest r.instalments backward r.benefit r.age r.amounts

right : Fraction → Fraction → Bool
right x e = ltb 0 x.den && eqb (x.num * e.den) (e.num * x.den)

all_right : List Row → Bool
all_right [] = true
all_right (r ∷ rs) = right (found r) r.expected && all_right rs

holds : (r : Row) → right (found r) r.expected ≡ true → Holds r
unfolding found right
holds r h =
    let x = value r.figures r.interest r.instalments backward r.benefit r.age r.amounts in
    let parts = and_parts (ltb 0 x.den) (eqb (x.num * r.expected.den) (r.expected.num * x.den)) h in
    same_trans _ x r.expected (ltb-true 0 x.den parts.0) (same_value r.figures r.interest r.instalments r.benefit r.age r.amounts) (eqb-true _ _ parts.1)

all_hold : (rs : List Row) → all_right rs ≡ true → AllByRecursion Holds rs
unfolding all_right
all_hold [] h = tt
all_hold (r ∷ rs) h =
    let parts = and_parts (right (found r) r.expected) (all_right rs) h in
    (holds r parts.0, all_hold rs parts.1)

tested : all_right rows ≡ true
unfolding all_right right found backward remaining total level wid retiring retiring_widow turning_invalid turning_invalid_widow
tested = refl

pub table_holds : AllByRecursion Holds rows
table_holds = all_hold rows tested
