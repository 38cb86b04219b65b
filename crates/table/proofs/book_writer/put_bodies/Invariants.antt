use Rattle.std.proofs.Common.{◌≡◌}
use Rattle.table.specs.Book.{placed, in_order, body_bytes, kind_at}
use Rattle.table.specs.Table.{tabled}
use Rattle.table.proofs.book_writer.put_bodies.Given as goal

abbrev pub invariant-loop-kind : goal.invariant-loop-kind
invariant-loop-kind l = l.buffer ≡ placed l.initial.buffer 37 (in_order l.kind-index (λ i. body_bytes (tabled l.rows) (kind_at i)))
