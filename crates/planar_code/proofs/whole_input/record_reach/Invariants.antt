-- The bytes passed are what the scanner has.
use Rattle.std.proofs.Common.{◌≡◌, ◌≤◌, ◌-◌, [], length, take}
use Rattle.planar_code.specs.Scan.{Passes}
use Rattle.planar_code.proofs.whole_input.record_reach.Given as goal

abbrev pub invariant-loop-passed : goal.invariant-loop-passed
invariant-loop-passed l = record {
  within : l.passed ≤ length l.rest;
  bytes : l.scanner.bytes ≡ take l.passed l.rest;
  passes : Passes [] (take l.passed l.rest);
}

abbrev pub decreases-loop-passed : goal.decreases-loop-passed
decreases-loop-passed l = length l.rest - l.passed
