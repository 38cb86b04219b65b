use Rattle.protocol.proofs.Digits.{Read}
use Rattle.protocol.proofs.numbers.number.Given as goal

abbrev pub invariant-loop-byte : goal.invariant-loop-byte
invariant-loop-byte l = Read l.word l.byte-index l.n
