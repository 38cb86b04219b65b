use Rattle.std.proofs.Common.{get_or, sym, ◌∙◌}
use Rattle.protocol.proofs.Digits.{digit_is, read_none, read_more, no_number}
use Rattle.protocol.proofs.numbers.number.Goals as goal

pub loop-byte-init : goal.loop-byte-init
loop-byte-init c = read_none c.args.word.now

pub loop-byte-preserved : goal.loop-byte-preserved
loop-byte-preserved c = read_more c.args.word.now c.loop-byte.byte-index c.loop-byte.n c.min-n.result c.loop-byte-test.true (digit_is (get_or c.args.word.now c.loop-byte.byte-index 0) ∙ sym c.if-not-is_ascii_digit.ensures.value) c.min-n.ensures c.loop-byte.invariant

pub returns-then-not-is_ascii_digit : goal.returns-then-not-is_ascii_digit
returns-then-not-is_ascii_digit c = no_number c.args.word.now c.loop-byte.byte-index c.loop-byte-test.true (digit_is (get_or c.args.word.now c.loop-byte.byte-index 0) ∙ sym c.if-not-is_ascii_digit.ensures.value)
