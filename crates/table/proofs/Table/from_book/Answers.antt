use Rattle.std.proofs.Common.{◌∙◌, ap}
use Rattle.basis.specs.Figures.{Lawful}
use Rattle.basis.specs.Listed.{listed_outside}
use Rattle.table.specs.Book.{decoded}
use Rattle.table.specs.Table.{tabled}
use Rattle.table.proofs.Exits.{passed_up}
use Rattle.table.proofs.Lawfulness.{figures_lawful, book_by_figures}
use Rattle.table.proofs.Table.from_book.Goals as goal

pub returns-in_err-check_figures : goal.returns-in_err-check_figures
returns-in_err-check_figures c =
    let opened = c.in_ok-opened.opened in
    let by = book_by_figures c.args.book.now opened.book.now opened.final_age (tabled c.rows-rows.result) c.in_ok-opened.ensures.1 opened.told c.in_ok-opened.ensures.0 c.in_ok-check_contents.ensures.0 c.in_ok-whole.ensures.0
    (c.rows-rows.ensures ∙ ap (λ o. decoded o.book.now) c.in_ok-whole.ensures.1) in
    passed_up _ _ _ _ c.from_residual-in_err-check_figures.ensures.1 (by.0 ∙ c.in_err-check_figures.ensures)

pub invariant_of-result : goal.invariant_of-result
invariant_of-result c =
    let rows = c.rows-rows.result in
    let lawful : Lawful (tabled rows) = figures_lawful (tabled rows) rows.old_enough rows.young_enough (listed_outside rows.final_age _) c.in_ok-check_figures.ensures.0 in
    record { aged = lawful.aged; limited = lawful.limited; exits = lawful.exits; seamless = lawful.seamless; closed = lawful.closed }

pub returns : goal.returns
returns c =
    let opened = c.in_ok-opened.opened in
    let by = book_by_figures c.args.book.now opened.book.now opened.final_age (tabled c.rows-rows.result) c.in_ok-opened.ensures.1 opened.told c.in_ok-opened.ensures.0 c.in_ok-check_contents.ensures.0 c.in_ok-whole.ensures.0
    (c.rows-rows.ensures ∙ ap (λ o. decoded o.book.now) c.in_ok-whole.ensures.1) in
    (by.0 ∙ c.in_ok-check_figures.ensures.0, by.1)
