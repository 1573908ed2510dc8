use Rattle.std.proofs.Common.{ℕ, ◌<◌, ◌≤◌, length}
use Rattle.graph_search.specs.Cuts.{IsSeparatingPair}
use Rattle.convex_class.specs.Passing.{IsUnused}
use Rattle.convex_class.proofs.face_pairs.uncut_map.UncutMap.first_pair.Given as goal

abbrev pub invariant-loop-u : goal.invariant-loop-u
invariant-loop-u l = record {
  none : (a b : ℕ) → a < l.u → ¬ IsSeparatingPair l.self.map.now.lists a b;
  unused : (x : ℕ) → l.u ≤ x → x < length l.self.map.now.lists → IsUnused l.marks x;
}
