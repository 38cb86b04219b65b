use Rattle.std.proofs.Common.{◌≡◌, ℕ, ◌<◌, false, None, get_or}
use Rattle.stock.specs.Slots.{has_key}
use Rattle.stock.proofs.slots.Slots.place_of.Given as goal

abbrev pub invariant-loop-i : goal.invariant-loop-i
invariant-loop-i l = (j : ℕ) → j < l.i → has_key l.key (get_or l.self.records j None) ≡ false
