-- What a stock answers, on its own basis and terms. Assumes nothing.
use Rattle.std.specs.Prelude.{◌≡◌, ℕ, List, OnErr, Result}
use Rattle.fault.specs.declared.Fault.{Fault}
use Rattle.basis.specs.Figures.{Figures}
use Rattle.valuation.specs.declared.pair.Pair.{Pair}
use Rattle.stock.specs.declared.call.Answer.{Answer}
use Rattle.stock.specs.declared.stock.Stock.{Stock}
use Rattle.stock.specs.Handed.{Answers}
use Rattle.stock.specs.Register.{Promise, Entry, Call}
use Rattle.stock.specs.Told.{Worthy, Had, Heeds, Told, PairOf, TotalOf}

-- a granted call that tells nothing
abbrev pub Silent : {X : Type 0} → List Entry → X → Type 0
Silent es x = Unit {0}

-- the basis and the terms stay
abbrev pub Kept : {B : Type 0} → Stock B → Stock B → Type 0
Kept before after = (after.basis ≡ before.basis) × (after.terms ≡ before.terms)

-- For bases that have these figures.
module _ {B : Type 0} (figures : B → Figures) where
  -- on a stock's basis and terms: a promise with its pair, the pair under a key, the totals, and the answer of a call
  abbrev pub WorthyIn : Stock B → Promise → Pair → Type 0
  WorthyIn s p pair = Worthy (figures s.basis) s.terms.interest s.terms.instalments p pair

  abbrev pub PairIn : Stock B → ℕ → List Entry → Pair → Type 0
  PairIn s key es pair = PairOf (figures s.basis) s.terms.interest s.terms.instalments es key pair

  abbrev pub TotalIn : Stock B → List Entry → Pair → Type 0
  TotalIn s es total = TotalOf (figures s.basis) s.terms.interest s.terms.instalments es total

  abbrev pub AnswerIn : Stock B → Call → List Entry → Answer → Type 0
  AnswerIn s call es answer = Answers (figures s.basis) s.terms.interest s.terms.instalments call es answer

  -- a stock that has had these calls
  abbrev pub HasHad : Stock B → List Call → Type 0
  HasHad s h = Had (figures s.basis) s.terms.interest s.terms.instalments h s.slots.records

  -- whatever calls a stock has had, this one is answered as their register says, and then it has had this one too
  abbrev pub Heeded : {X : Type 0} → Stock B → Stock B → Call → Result X Fault → (List Entry → X → Type 0) → Type 0
  Heeded before after call r P = Heeds (figures before.basis) before.terms.interest before.terms.instalments before.slots.records after.slots.records call r P

  -- the same of a call that is never refused and changes nothing
  abbrev pub Tells : Stock B → Call → (List Entry → Type 0) → Type 0
  Tells s call P = Told (figures s.basis) s.terms.interest s.terms.instalments s.slots.records call P

  -- a call that may change the stock is heeded, basis and terms stay, and a refusal changes nothing at all
  pub record Answered {X : Type 0} (before after : Stock B) (call : Call) (r : Result X Fault) (P : List Entry → X → Type 0) : Type 0 where
    pub heeds : Heeded before after call r P
    pub kept : Kept before after
    pub still : OnErr r (after ≡ before)
