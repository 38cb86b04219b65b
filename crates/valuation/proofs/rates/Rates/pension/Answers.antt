use Rattle.std.proofs.Common.{ap, ◌∙◌}
use Rattle.valuation.specs.Rates.{kept_number, loss_number, paid_number}
use Rattle.valuation.specs.Pair.{pension_number}
use Rattle.valuation.proofs.rates.Rates.pension.Goals as goal

pub returns : goal.returns
unfolding pension_number
returns g c =
    let rates = c.args.self.now in
    ◌∙◌ {b = paid_number (kept_number rates.interest rates.instalments) (loss_number rates.interest rates.instalments) c.goes_on.result.number} c.paid.ensures (ap (paid_number (kept_number rates.interest rates.instalments) (loss_number rates.interest rates.instalments)) c.goes_on.ensures)
