use Rattle.std.proofs.Common.{◌≡◌, ◌+◌, ◌≤◌, length}
use Rattle.std.specs.Vec.{vec_capacity}
use Rattle.map_lists.specs.Cuts.{AreCuts}
use Rattle.left_right_test.proofs.embedding.ends_of.Given as goal

abbrev pub invariant-loop-vertex : goal.invariant-loop-vertex
invariant-loop-vertex l = record {
  cuts : AreCuts 0 l.ends.items l.end;
  low : l.end ≤ l.total;
  count : length l.ends.items + 1 ≡ l.vertex;
  most : l.vertex ≤ l.n + 1;
  room : l.n + 1 ≤ vec_capacity l.ends;
}
