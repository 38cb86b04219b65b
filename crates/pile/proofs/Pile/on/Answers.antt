use Rattle.std.proofs.Common.{rules}
use Rattle.pile.specs.Pile.{piled}
use Rattle.pile.proofs.Pile.on.Goals as goal

pub returns : goal.returns
unfolding piled
returns c = search rules
