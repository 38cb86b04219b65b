use Rattle.std.proofs.Common.{◌≡◌}
use Rattle.table.specs.Book.{placed, in_order, bytes32}
use Rattle.table.specs.Table.{tabled}
use Rattle.table.proofs.book_writer.put_body.Given as goal

abbrev pub invariant-loop-age : goal.invariant-loop-age
invariant-loop-age l = l.buffer ≡ placed l.initial.buffer l.place (in_order l.age (λ x. bytes32 ((tabled l.rows).figure l.kind x)))
