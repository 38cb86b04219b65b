use Rattle.std.proofs.Common.{sym, subst}
use Rattle.basis.specs.Figures.{Lawful}
use Rattle.table.specs.Table.{tabled}
use Rattle.basis.specs.StraightLines.{straight_line_lawful}
use Rattle.table.proofs.Table.new.Goals as goal

pub invariant_of-result : goal.invariant_of-result
invariant_of-result c =
    let start = c.unwrap-start.result in
    let lawful : Lawful (tabled c.from.result) =
    subst Lawful (sym c.from.ensures) (straight_line_lawful start.final_age start.invalidity start.old_enough start.young_enough start.modest) in
    record { aged = lawful.aged; limited = lawful.limited; exits = lawful.exits; seamless = lawful.seamless; closed = lawful.closed }
