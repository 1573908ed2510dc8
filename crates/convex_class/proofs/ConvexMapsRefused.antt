-- Answers that wrong bodies would give: the clauses refuse them.
use Rattle.std.proofs.Common.{◌≡◌, ◌<◌, length, arith}
use Rattle.map_lists.specs.Lists.{Lists}
use Rattle.map_lists.specs.declared.ids.VertexId.{VertexId}
use Rattle.convex_peeling.specs.Polyhedral.{IsThreeConnected}
use Rattle.convex_class.specs.Convexity.{BreaksConvex}
use Rattle.refusals.specs.declared.conditions.Refusal.TheVariants.{SeparatingPair}

-- the greater vertex of a separating pair is named first
greater_vertex_first : (lists : Lists) (u v : VertexId) → v.0 < u.0 → ¬ BreaksConvex lists (SeparatingPair u v)
greater_vertex_first lists u v less w = let h = w.1.is_pair.0 in omega arith

-- three vertices are enough
three_vertices : (lists : Lists) → length lists ≡ 3 → ¬ IsThreeConnected lists
three_vertices lists e w = let h = w.some in omega arith
