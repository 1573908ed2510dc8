-- What the searches for met edges say of crossings, and of a vertex's edges.
use Rattle.std.proofs.Common.{◌≡◌, ℕ, ◌+◌, ◌<◌, Bool, List, length, Option, Some, None, sym, inl, ⊎_elim, arith}
use Rattle.std.specs.Option.{MatchOption, option_map}
use Rattle.map_lists.specs.Lists.{Lists}
use Rattle.map_lists.specs.declared.ids.VertexId.{VertexId}
use Rattle.map_lists.specs.declared.ids.DartId.{DartId}
use Rattle.map_lists.specs.declared.items.Ends.{Ends}
use Rattle.pg_plane.specs.declared.grid_points.Point.{Point}
use Rattle.map_theory.specs.Maps.{Dart}
use Rattle.half_edges.specs.Map.{Map, IsHalfMap, IsLive, dart_at}
use Rattle.vertex_rounds.specs.First.{FindsFirst}
use Rattle.vertex_rounds.specs.Least.{IsLeastPair}
use Rattle.vertex_rounds.specs.Rounds.{HasEdge, dart_of}
use Rattle.vertex_rounds.proofs.DartIds.{has_dart, head_is}
use Rattle.draw_check.specs.Faults.{EdgesCross, LiesOnEdge}
use Rattle.draw_check.specs.Loops.{IsMet, IsMetFrom}
use Rattle.vertex_rounds.proofs.FirstLemmas.{Decides, least_pair}
use Rattle.vertex_rounds.proofs.LeastLemmas.{IsLeastPair-alike}
use Rattle.draw_check.specs.declared.edge_meetings.Probe.{Probe}
use Rattle.draw_check.specs.declared.edge_meetings.Probe.TheVariants.{Edge, Vertex}

-- the head of a dart is one of as many vertices as there are lists
pub head_below : (map : Map) → IsHalfMap map → (d u n : ℕ) → IsLive map d → option_map (λ (x : Dart). x.1) (dart_at map d) ≡ Some u → n ≡ length map.lists → u < n
head_below map h d u n live e same =
    omega (arith, head_is map d u live e, h.simple.in_range (dart_of map d).0 (dart_of map d).1 (has_dart map h d live))

module _ (lists : Lists) (points : List Point) (a b : VertexId) (edge : HasEdge lists a.0 b.0) where
  met_by_edge : (c d : ℕ) → EdgesCross lists points a.0 b.0 c d → IsMetFrom lists points (Edge a b) (a.0 + 1) c d
  met_by_edge c d h =
      record {
        late = ⊎_elim (λ less. omega arith) (λ same. absurd (h.apart.0 (sym same.0))) h.order;
        met = record { edge = h.second; meets = (h.apart.0, h.apart.1, h.apart.2, h.apart.3, h.cross) };
      }

  edges_cross : (c d : ℕ) → IsMetFrom lists points (Edge a b) (a.0 + 1) c d → EdgesCross lists points a.0 b.0 c d
  edges_cross c d h =
      let m = h.met.meets in
      record { first = edge; second = h.met.edge; order = inl (omega arith); apart = (m.0, m.1, m.2, m.3); cross = m.4 }

  -- the first edge from a + 1 on that meets an edge is the first later one that crosses it
  pub first_cross : (found : Option Ends) → MatchOption found ((c d : ℕ) → ¬ IsMetFrom lists points (Edge a b) (a.0 + 1) c d) (λ e. IsLeastPair (IsMetFrom lists points (Edge a b) (a.0 + 1)) e.a.0 e.b.0) → MatchOption found ((c d : ℕ) → ¬ EdgesCross lists points a.0 b.0 c d) (λ e. IsLeastPair (EdgesCross lists points a.0 b.0) e.a.0 e.b.0)
  first_cross None h = λ c d x. h c d (met_by_edge c d x)
  first_cross (Some e) h = IsLeastPair-alike (IsMetFrom lists points (Edge a b) (a.0 + 1)) (EdgesCross lists points a.0 b.0) edges_cross met_by_edge e.a.0 e.b.0 h

-- an edge that a vertex meets is one on which it lies
module _ (lists : Lists) (points : List Point) (v : VertexId) where
  pub met_by_vertex : (a b : ℕ) → LiesOnEdge lists points v.0 a b → IsMetFrom lists points (Vertex v) 0 a b
  met_by_vertex a b h = record { late = omega arith; met = record { edge = h.edge; meets = (h.not_first, h.not_second, h.on) } }

  pub lies_on_edge : v.0 < length lists → (a b : ℕ) → IsMetFrom lists points (Vertex v) 0 a b → LiesOnEdge lists points v.0 a b
  lies_on_edge within a b h = let m = h.met.meets in record { vertex = within; edge = h.met.edge; not_first = m.0; not_second = m.1; on = m.2 }

-- what a search for darts answers for the first edge that is met
pub first_late : (map : Map) (known : IsHalfMap map) (points : List Point) (probe : Probe) (from : ℕ) (says : DartId → Bool → Type 0) (found : Option (VertexId × VertexId)) → FindsFirst map says from found → Decides map says from (IsMet map.lists points probe)
    → MatchOption found ((a b : ℕ) → ¬ IsMetFrom map.lists points probe from a b) (λ p. IsLeastPair (IsMetFrom map.lists points probe from) p.0.0 p.1.0)
first_late map known points probe from says found f decides =
    least_pair map known says (IsMetFrom map.lists points probe from) from found f (λ d live late r s.
    let is = decides d live late r s in
    (λ t. record { late = late; met = is.0 t }, λ x. is.1 x.met)) (λ v u x. (x.late, x.met.edge.1))
