use Rattle.std.proofs.Common.{◌∙◌, rules}
use Rattle.basis.specs.Listed.{listed_outside}
use Rattle.table.specs.Book.{decoded}
use Rattle.table.proofs.Filled.{tabled_is}
use Rattle.table.proofs.book_reader.Whole.rows.Goals as goal

pub returns : goal.returns
returns c =
    let opened = c.args.self.now.opened in
    tabled_is (decoded opened.book.now) c.from_fn.result (listed_outside _ _) (c.from_fn.ensures.aged ∙ opened.told) (λ k x l. search (rules, c.from_fn.ensures.told k x l))
