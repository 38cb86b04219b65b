use Rattle.std.proofs.Common.{◌≡◌, None}
use Rattle.fault.specs.Faults.{first_below}
use Rattle.table.specs.Book.{entry_fault, kind_at}
use Rattle.table.proofs.book_reader.Opened.check_contents.Given as goal

abbrev pub invariant-loop-kind : goal.invariant-loop-kind
invariant-loop-kind l = first_below l.kind-index (λ i. entry_fault l.self.book.now l.self.final_age (kind_at i)) ≡ None
