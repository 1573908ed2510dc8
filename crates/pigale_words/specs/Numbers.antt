-- Numbers that words spell.
use Rattle.std.specs.Prelude.{ℕ, ◌&&◌, not, nat_lt, if◌then◌else◌, List, Option, Some, None, option_and_then}
use Rattle.decimals.specs.Numbers.{canonical, decimal_from}

-- the number, if it is from `least` to `most`
abbrev pub within : ℕ → ℕ → ℕ → Option ℕ
within least most n = if not (nat_lt n least) && not (nat_lt most n) then Some n else None

-- The number from `least` to `most` that a text spells in decimal: digits alone, which begin with 0 only where they are just that.
abbrev pub number_in : ℕ → ℕ → List ℕ → Option ℕ
number_in least most text = if canonical text then option_and_then (within least most) (decimal_from 0 text) else None
