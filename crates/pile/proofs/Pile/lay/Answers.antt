use Rattle.std.proofs.Common.{rules}
use Rattle.pile.specs.Piles.{piled_more}
use Rattle.pile.proofs.Pile.lay.Goals as goal

pub returns : goal.returns
returns c = search (rules, piled_more)
