use Rattle.std.proofs.Common.{◌≡◌, ◌-◌, ◌≤◌, ◌&&◌, nat_lt, length, take, count_by}
use Rattle.map_theory.specs.Maps.{list_of}
use Rattle.vertex_rounds.proofs.RoundLemmas.{LeavesFrom, place_at}
use Rattle.bar_check.proofs.edge_indices.edges_until.Given as goal

abbrev pub invariant-round : goal.invariant-round
invariant-round l = record {
  dart : LeavesFrom l.map l.fn.v.0 l.d.0;
  count : l.count ≡ count_by (λ w. nat_lt l.fn.v.0 w && nat_lt w l.fn.end) (take (place_at l.map l.fn.v.0 l.d.0) (list_of l.map.lists l.fn.v.0));
  few : l.count ≤ place_at l.map l.fn.v.0 l.d.0;
}

abbrev pub decreases-round : goal.decreases-round
decreases-round l = length (list_of l.map.lists l.fn.v.0) - place_at l.map l.fn.v.0 l.d.0
