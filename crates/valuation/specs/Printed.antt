-- How a pair is printed, as in "100 to 102". Assumes nothing.
use Rattle.std.specs.Prelude.{ℕ, List, ◌++◌, codes, decimal}
use Rattle.valuation.specs.declared.pair.Pair.{Pair}

abbrev pub pair_text : Pair → List ℕ
pair_text pair = decimal pair.lower ++ (codes " to " ++ decimal pair.upper)
