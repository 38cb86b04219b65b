use Rattle.std.proofs.Common.{arith}
use Rattle.table.specs.Table.{tabled}
use Rattle.table.proofs.RoundTrips.{rewritten}
use Rattle.table.proofs.Table.rewrite.Goals as goal

pub returns : goal.returns
returns c =
    let read = c.in_ok-from_book.ensures in
    record {
      answer = rewritten c.write.result c.args.book.now c.args.buffer.now c.write.new.buffer (tabled c.in_ok-from_book.field-0.rows)
          (λ i. omega (arith, c.type_inv.book i)) read.0 read.1 c.write.ensures.answer;
      kept = c.write.ensures.kept;
    }
