use Rattle.std.proofs.lemmas.Bool.{lt-ltb, le-ltb}
use Rattle.fault.proofs.Firsts.{first_none, first_more, first_found, refuse_some, none_refuse}
use Rattle.valuation.proofs.admission.check_amounts.Goals as goal

pub loop-k-init : goal.loop-k-init
loop-k-init c = first_none _

pub loop-k-preserved : goal.loop-k-preserved
loop-k-preserved c = first_more c.loop-k.k _ c.loop-k.invariant (none_refuse _ _ (le-ltb _ _ c.if-amount-gt-GREATEST_AMOUNT.false))

pub returns-then-amount-gt-GREATEST_AMOUNT : goal.returns-then-amount-gt-GREATEST_AMOUNT
returns-then-amount-gt-GREATEST_AMOUNT c =
    first_found c.loop-k.k _ _ _ c.loop-k.invariant (refuse_some _ _ c.new.result (lt-ltb _ _ c.if-amount-gt-GREATEST_AMOUNT.true) c.new.ensures) c.loop-k-test.true
