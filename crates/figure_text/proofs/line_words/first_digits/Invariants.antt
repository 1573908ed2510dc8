-- The digits before this place give the number.
use Rattle.std.proofs.Common.{◌≡◌, ℕ, ◌+◌, ◌-◌, ◌^◌, ◌<◌, ◌≤◌, take, drop, get_or}
use Rattle.std.specs.Prelude.{Some}
use Rattle.decimals.specs.Numbers.{decimal_from}
use Rattle.figure_text.proofs.line_words.first_digits.Given as goal

abbrev pub invariant-loop-i : goal.invariant-loop-i
invariant-loop-i l =
    record {
      near : l.value < 10 ^ l.i;
      before : (j : ℕ) → l.at ≤ j → j < l.at + l.i → get_or l.line j 0 ≡ 32 → ⊥;
      value : decimal_from 0 (take (l.at + l.i - l.at) (drop l.at l.line)) ≡ Some l.value;
    }
