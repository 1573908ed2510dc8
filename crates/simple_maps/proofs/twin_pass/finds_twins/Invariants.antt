use Rattle.std.proofs.Common.{◌≡◌, length}
use Rattle.simple_maps.proofs.PassedLemmas.{HasPassed}
use Rattle.simple_maps.proofs.twin_pass.finds_twins.Given as goal

abbrev pub invariant-loop-v : goal.invariant-loop-v
invariant-loop-v l = record {
  tails : length l.tails ≡ length l.entries;
  twins : length l.twins ≡ length l.entries;
  vertices : length l.newest ≡ length l.ends;
  passed : HasPassed l.entries l.ends l.tails l.twins l.newest l.start l.v;
}
