use Rattle.std.proofs.Common.{rules}
use Rattle.pile.specs.Piles.{piled_aged}
use Rattle.pile.proofs.PileBasis.final_age.Goals as goal

pub returns : goal.returns
returns c = search (rules, piled_aged)
