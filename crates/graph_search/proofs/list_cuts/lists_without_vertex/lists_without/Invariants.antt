use Rattle.std.proofs.Common.{◌≡◌, ◌<◌, ℕ, length}
use Rattle.map_theory.specs.Maps.{list_of}
use Rattle.graph_search.specs.Without.{list_without}
use Rattle.graph_search.proofs.list_cuts.lists_without_vertex.lists_without.Given as goal

abbrev pub invariant-loop-v : goal.invariant-loop-v
invariant-loop-v l = record {
  count : length l.rest ≡ l.v;
  each : (x : ℕ) → x < l.v → list_of l.rest x ≡ list_without l.u x (list_of l.lists x);
}
