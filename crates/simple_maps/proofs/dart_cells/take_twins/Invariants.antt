-- Where nothing was wrong so far, the darts before d are tried.
use Rattle.std.proofs.Common.{◌≡◌, ℕ, ◌<◌, length}
use Rattle.simple_maps.specs.Pass.{IsTried}
use Rattle.simple_maps.proofs.dart_cells.take_twins.Given as goal

abbrev pub invariant-loop-d : goal.invariant-loop-d
invariant-loop-d l = record {
  twins : length l.twins ≡ length l.entries;
  tried : l.wrong ≡ 0 → (e : ℕ) → e < l.d → IsTried l.entries l.tails l.twins l.cells l.n e;
}
