use Rattle.std.proofs.Common.{◌≡◌, ◌<◌, ℕ}
use Rattle.half_edges.specs.Arena.{steps, head_of}
use Rattle.half_edges.proofs.dart_records.dart_to.Given as goal

abbrev pub invariant-loop-k : goal.invariant-loop-k
invariant-loop-k l = record {
  at : l.d ≡ steps l.darts l.first l.k;
  none : (k : ℕ) → k < l.k → ¬ (head_of l.darts (steps l.darts l.first k) ≡ l.head);
}
