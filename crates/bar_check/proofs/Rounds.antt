-- A round of a vertex's edges comes to its end.
use Rattle.std.proofs.Common.{◌≡◌, ℕ, ◌-◌, ◌<◌, length, Some, arith}
use Rattle.half_edges.specs.Map.{Map, IsHalfMap, dart_at}
use Rattle.map_theory.specs.Maps.{list_of}
use Rattle.vertex_rounds.specs.Rounds.{IsLaterDart}
use Rattle.vertex_rounds.proofs.RoundLemmas.{head_at, LeavesFrom, place_at, at_place, place_at-later}

-- behind the next dart fewer are left
pub fewer_left : (map : Map) → IsHalfMap map → (v d e : ℕ) → LeavesFrom map v d → ((w u : ℕ) → dart_at map d ≡ Some (w, u) → IsLaterDart map w u e) → length (list_of map.lists v) - place_at map v e < length (list_of map.lists v) - place_at map v d
fewer_left map h v d e dart next =
    omega (arith, place_at-later map v d e (next v (head_at map d) dart), (at_place map h v d dart).0)
