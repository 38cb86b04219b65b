-- Numbers in plain decimal digits. Assumes nothing.
use Rattle.std.specs.Prelude.{ℕ, ◌+◌, ◌-◌, ◌*◌, Bool, true, cond, ◌&&◌, List, [], ◌∷◌, length, Some, None, Option, nat_lt}

-- a digit, and whether there are digits alone
abbrev pub digit : ℕ → Bool
digit b = nat_lt 47 b && nat_lt b 58

unfoldable pub digits : List ℕ → Bool
digits [] = true
digits (b ∷ bs) = digit b && digits bs

-- what the digits after a number make of it
unfoldable pub value_after : ℕ → List ℕ → ℕ
value_after n [] = n
value_after n (b ∷ bs) = value_after (n * 10 + (b - 48)) bs

-- a number that fits 32 bits
abbrev pub number_of : List ℕ → Option ℕ
number_of w = cond (nat_lt 0 (length w) && (digits w && nat_lt (value_after 0 w) 4294967296)) (Some (value_after 0 w)) None
