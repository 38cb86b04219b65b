-- What a word gives as a number. Assumes nothing.
use Rattle.std.specs.Prelude.{ℕ, ◌^◌, ◌<◌, List}
use Rattle.std.specs.Str.Parse.{IsNumeral, digits_value, without_leading_plus}

-- the number that a text writes, and whether it is one of k bits
abbrev pub number_of : List ℕ → ℕ
number_of text = digits_value 10 (without_leading_plus text)

abbrev pub IsUnsigned : ℕ → List ℕ → Type 0
IsUnsigned k text = IsNumeral 10 (without_leading_plus text) × (number_of text < 2 ^ k)
