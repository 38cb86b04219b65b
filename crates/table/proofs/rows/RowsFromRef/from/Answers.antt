use Rattle.std.proofs.Common.{◌∙◌, rules}
use Rattle.table.proofs.Filled.{tabled_is}
use Rattle.table.proofs.rows.RowsFromRef.from.Goals as goal

pub returns : goal.returns
returns g c =
    let basis = c.args.basis.now in
    tabled_is (g.B.Basis.figures basis) c.from_fn.result (g.met.B.Basis.lawful basis).ended (c.from_fn.ensures.aged ∙ c.final_age.ensures) (λ k x l. search (rules, c.from_fn.ensures.told k x l))
