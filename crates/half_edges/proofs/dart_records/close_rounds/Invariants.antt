use Rattle.std.proofs.Common.{◌≡◌, ◌∷◌, ℕ, ◌<◌, ◌≤◌, length, get_or}
use Rattle.std.specs.Vec.{vec_capacity}
use Rattle.half_edges.specs.Rounds.{AreRounds, AreRoundVertices}
use Rattle.half_edges.proofs.dart_records.close_rounds.Given as goal

abbrev pub invariant-loop-v : goal.invariant-loop-v
invariant-loop-v l = record {
  start_is : l.start ≡ get_or (0 ∷ l.ends) l.v 0;
  before : (w : ℕ) → w < l.v → get_or l.ends w 0 ≤ l.start;
  rounds : AreRounds l.ends l.fn.darts l.darts l.v;
  vertices : AreRoundVertices l.ends l.vertices.items l.v;
  room : length l.ends ≤ vec_capacity l.vertices;
}
