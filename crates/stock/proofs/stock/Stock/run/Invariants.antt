use Rattle.std.proofs.Common.{List, ◌++◌, map, take}
use Rattle.stock.specs.Handed.{told}
use Rattle.stock.specs.Register.{Call}
use Rattle.stock.specs.Stocks.{HasHad, Kept}
use Rattle.stock.proofs.stock.Stock.run.Given as goal

abbrev pub invariant-loop-call : goal.invariant-loop-call
invariant-loop-call g l = record {
  had : (h : List Call) → HasHad g.B.Basis.figures l.initial.self h → HasHad g.B.Basis.figures l.self (h ++ map told (take l.call-index l.calls));
  kept : Kept l.initial.self l.self;
}
