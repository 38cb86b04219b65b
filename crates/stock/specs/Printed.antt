-- A call and an answer as they are printed. Assumes nothing.
use Rattle.std.specs.Prelude.{ℕ, List, ◌++◌, codes, decimal}
use Rattle.valuation.specs.Benefits.{name}
use Rattle.valuation.specs.declared.promise.Promise.{Promise}
use Rattle.stock.specs.declared.call.Call.{Call}
use Rattle.stock.specs.declared.call.Call.TheVariants.{Total, Count, Promise as Ask, Release, Admit, Amend}
use Rattle.stock.specs.declared.call.Answer.{Answer}
use Rattle.stock.specs.declared.call.Answer.TheVariants.{Done, Cents, Number}

-- a key and its promise, as in "3 r 65"
abbrev keyed : ℕ → Promise → List ℕ
keyed k p = decimal k ++ (codes " " ++ (name p.benefit ++ (codes " " ++ decimal p.age)))

abbrev pub call_text : Call → List ℕ
call_text Total = codes "total"
call_text Count = codes "count"
call_text (Ask k) = codes "promise " ++ decimal k
call_text (Release k) = codes "release " ++ decimal k
call_text (Admit k p column) = codes "admit " ++ keyed k p
call_text (Amend k p column) = codes "amend " ++ keyed k p

abbrev pub answer_text : Answer → List ℕ
answer_text Done = codes "done"
answer_text (Cents pair) = decimal pair.lower ++ (codes " to " ++ (decimal pair.upper ++ codes " cents"))
answer_text (Number n) = decimal n
