use Rattle.std.proofs.Common.{refl}
use Rattle.table.specs.Table.{tabled}
use Rattle.table.proofs.Placed.{placed_book}
use Rattle.table.proofs.book_writer.put_book.Goals as goal

pub returns : goal.returns
returns c =
    placed_book c.args.buffer.now c.put.new.buffer c.put_contents.new.buffer c.put_bodies.new.buffer (tabled c.args.rows.now) c.args.rows.now.final_age refl c.requires
    c.put.ensures c.put_contents.ensures c.put_bodies.ensures
