use Rattle.std.proofs.Common.{refl}
use Rattle.valuation.proofs.Table.{table_holds}
use Rattle.valuation.proofs.known.known_figures.Goals as goal

pub returns : goal.returns
returns c = record { counted = refl; known = record { table = table_holds; years = refl; refused = λ amounts column. refl } }
