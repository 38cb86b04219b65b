-- What is handed in, as the register has it, and the answers that a register dictates. Assumes nothing.
use Rattle.std.specs.Prelude.{◌≡◌, ℕ, List, length}
use Rattle.basis.specs.Figures.{Figures}
use Rattle.valuation.specs.declared.pair.Pair.{Pair}
use Rattle.valuation.specs.declared.promise.Promise.{Promise as LentPromise}
use Rattle.stock.specs.declared.call.Call.{Call as LentCall}
use Rattle.stock.specs.declared.call.Call.TheVariants.{Total as LentTotal, Count as LentCount, Promise as LentAsk, Release as LentRelease, Admit as LentAdmit, Amend as LentAmend}
use Rattle.stock.specs.declared.call.Answer.{Answer}
use Rattle.stock.specs.declared.call.Answer.TheVariants.{Done, Cents, Number}
use Rattle.stock.specs.Register.{Promise, Entry, Call, Admit, Amend, Release, Ask, Total, Count}
use Rattle.stock.specs.Told.{PairOf, TotalOf}

abbrev pub promised : LentPromise → Promise
promised p = record { benefit = p.benefit; age = p.age; amounts = p.amounts.now }

abbrev pub told : LentCall → Call
told LentTotal = Total
told LentCount = Count
told (LentAsk k) = Ask k
told (LentRelease k) = Release k
told (LentAdmit k p column) = Admit k (promised p) column
told (LentAmend k p column) = Amend k (promised p) column

-- the answer of a granted call, from a register
abbrev pub Answers : Figures → ℕ → ℕ → Call → List Entry → Answer → Type 0
Answers f interest instalments (Admit k p column) es answer = answer ≡ Done
Answers f interest instalments (Amend k p column) es answer = answer ≡ Done
Answers f interest instalments (Release k) es answer = answer ≡ Done
Answers f interest instalments (Ask k) es answer = (pair : Pair) × (answer ≡ Cents pair) × PairOf f interest instalments es k pair
Answers f interest instalments Total es answer = (pair : Pair) × (answer ≡ Cents pair) × TotalOf f interest instalments es pair
Answers f interest instalments Count es answer = answer ≡ Number (length es)
