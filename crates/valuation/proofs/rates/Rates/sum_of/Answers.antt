use Rattle.std.proofs.Common.{sym, ◌∙◌}
use Rattle.valuation.proofs.Pairing.{reads_stream, summed_life, summed_active}
use Rattle.valuation.proofs.rates.Rates.sum_of.Goals as goal

pub returns-in-Some : goal.returns-in-Some
returns-in-Some g c =
    let told = c.along_life.ensures in
    let s = summed_life _ _ _ _ _ _ _ c.args.taken.promise.benefit _ (sym c.stream.ensures ∙ c.in-Some.is) c.requires.spanned told.low told.short in
    record { low = s.0; high = s.1 }

pub returns-in-None : goal.returns-in-None
returns-in-None g c =
    let told = c.along_active.ensures in
    let s = summed_active _ _ _ _ _ _ _ c.args.taken.promise.benefit (sym c.stream.ensures ∙ c.in-None.is) c.requires.spanned told.low told.short in
    record { low = s.0; high = s.1 }

pub along_life-requires : goal.along_life-requires
along_life-requires g c = reads_stream _ _ _ _ c.args.taken.promise.benefit _ (sym c.stream.ensures ∙ c.in-Some.is) c.fill_widows.ensures
