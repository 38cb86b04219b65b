use Rattle.std.proofs.Common.{refl}
use Rattle.valuation.proofs.Pairing.{pairs_enclose}
use Rattle.valuation.proofs.pair.greatest_gap.Goals as goal

pub returns : goal.returns
returns c = record { cents = refl; encloses = pairs_enclose }
