-- The digits that are left give the same number.
use Rattle.std.proofs.Common.{◌≡◌, ◌≤◌, drop}
use Rattle.std.specs.Prelude.{min, option_map}
use Rattle.decimals.specs.Numbers.{decimal_from}
use Rattle.decimals.proofs.decimal_number.Given as goal

abbrev pub invariant-loop-byte : goal.invariant-loop-byte
invariant-loop-byte l =
    record {
      near : l.value ≤ l.most;
      same : option_map (min l.most) (decimal_from l.value (drop l.byte-index l.text)) ≡ option_map (min l.most) (decimal_from 0 l.text);
    }
