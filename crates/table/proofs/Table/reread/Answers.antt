use Rattle.std.proofs.Common.{◌≡◌, ◌-◌, take, ap, arith}
use Rattle.table.specs.Table.{tabled, tabled_lawful}
use Rattle.table.proofs.RoundTrips.{reread}
use Rattle.table.proofs.Table.reread.Goals as goal

pub returns : goal.returns
returns c =
    let self = c.args.self.now in
    let lawful = tabled_lawful self.rows self.aged self.limited self.exits self.seamless self.closed in
    let n = c.in_ok-length.length in
    let whole : n - 0 ≡ n = omega arith in
    let wrote = c.in_ok-length.ensures.answer in
    let round = reread (λ t. tabled t.rows) c.from_book.result (tabled self.rows) c.args.buffer.now c.write.new.buffer (take (n - 0) c.write.new.buffer) n lawful wrote.0 wrote.1.0 wrote.1.1
    (ap (λ m. take m c.write.new.buffer) whole) c.from_book.ensures in
    record { answer = round.0; kept = round.1 }
