use Rattle.valuation.proofs.Pairing.{listed_some, listed_few}
use Rattle.valuation.proofs.rates.RatesFromTerms.from.Goals as goal

pub invariant_of-result : goal.invariant_of-result
invariant_of-result c =
    let terms = c.args.terms in
    let some = listed_some terms.instalments terms.usual in
    record {
      discounted = c.new.ensures;
      lost = c.parts_of_year.ensures.loss;
      rest = c.parts_of_year.ensures.kept;
      some = some;
      few = listed_few terms.instalments terms.usual;
    }
