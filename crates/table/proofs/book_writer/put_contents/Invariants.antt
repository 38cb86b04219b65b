use Rattle.std.proofs.Common.{◌≡◌}
use Rattle.table.specs.Book.{placed, in_order, entry_bytes, kind_at}
use Rattle.table.proofs.book_writer.put_contents.Given as goal

abbrev pub invariant-loop-kind : goal.invariant-loop-kind
invariant-loop-kind l = l.buffer ≡ placed l.initial.buffer 2 (in_order l.kind-index (λ i. entry_bytes l.rows.final_age (kind_at i)))
