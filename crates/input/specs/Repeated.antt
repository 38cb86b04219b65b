-- What a word gives as a repeated amount. Assumes nothing.
use Rattle.std.specs.Prelude.{ℕ, ◌==◌, Bool, cond, List, [], ◌∷◌, length, Result, IfErr}
use Rattle.std.specs.List.{position_or_len, before_first, after_first}
use Rattle.std.specs.Result.{OkIff}
use Rattle.std.specs.Str.Parse.{IsParseIntError, error_kind, without_leading_plus}
use Rattle.std.specs.declared.num.IntErrorKind.TheVariants.{PosOverflow}
use Rattle.std.specs.declared.num.ParseIntError.{ParseIntError}
use Rattle.input.specs.Number.{IsUnsigned, number_of}
use Rattle.input.specs.declared.Repeated.{Repeated}

-- the byte of `*`
abbrev pub is_star : ℕ → Bool
is_star b = b == 42

-- a word with no `*`
abbrev pub plain : List ℕ → Bool
plain word = position_or_len is_star word == length word

-- what says how often: what stands before the first `*`, or `1` where there is none
abbrev pub times_text : List ℕ → List ℕ
times_text word = cond (plain word) (49 ∷ []) (before_first is_star word)

-- what says how much: what stands after the first `*`, or the whole word
abbrev pub amount_text : List ℕ → List ℕ
amount_text word = cond (plain word) word (after_first is_star word)

-- why a text writes no number
abbrev pub IsErrorOf : List ℕ → ParseIntError → Type 0
IsErrorOf text e = IsParseIntError 10 text (without_leading_plus text) PosOverflow (error_kind e)

-- the two numbers where both can be read, and else the error of the amount, or that of the times where the amount is
-- right
pub record ReadsRepeated (word : List ℕ) (r : Result Repeated ParseIntError) : Type 0 where
  pub value : OkIff r (IsUnsigned 32 (amount_text word) × IsUnsigned 16 (times_text word)) (record { times = number_of (times_text word); amount = number_of (amount_text word) })
  pub amount_error : ¬ IsUnsigned 32 (amount_text word) → IfErr r (IsErrorOf (amount_text word))
  pub times_error : IsUnsigned 32 (amount_text word) → IfErr r (IsErrorOf (times_text word))
