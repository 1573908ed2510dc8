-- Numbers in decimal digits, as bytes.
use Rattle.std.specs.Prelude.{ℕ, ◌+◌, ◌-◌, ◌*◌, Bool, true, false, not, ◌&&◌, ◌==◌, nat_lt, min, if◌then◌else◌, List, [], ◌∷◌, Option, Some, None}

-- a byte from 0 to 9
abbrev pub is_digit : ℕ → Bool
is_digit b = not (nat_lt b 48) && nat_lt b 58

-- the number whose decimal digits are those of n and then these, or nothing where a byte is no digit
abbrev pub decimal_from : ℕ → List ℕ → Option ℕ
decimal_from n [] = Some n
decimal_from n (b ∷ bytes) = if is_digit b then decimal_from (10 * n + (b - 48)) bytes else None

-- one digit more for a number that is cut to `most`
abbrev pub one_more : ℕ → ℕ → ℕ → Option ℕ
one_more most n b = if is_digit b then Some (min most (10 * n + (b - 48))) else None

-- digits begin with 0 only where they are just that, and there is one at least
abbrev pub canonical : List ℕ → Bool
canonical [] = false
canonical (b ∷ []) = true
canonical (b ∷ c ∷ bytes) = not (b == 48)
