-- What the search for blocked edges says of bars in their way.
use Rattle.std.proofs.Common.{ℕ, Option, Some, None, refl}
use Rattle.map_theory.specs.Maps.{HasDart}
use Rattle.std.specs.Option.{MatchOption}
use Rattle.map_lists.specs.Lists.{Lists}
use Rattle.map_lists.specs.declared.ids.VertexId.{VertexId}
use Rattle.std.specs.Prelude.{length}
use Rattle.pg_plane.specs.declared.figures.BarFigure.{BarFigure}
use Rattle.vertex_rounds.specs.Least.{IsLeast}
use Rattle.vertex_rounds.specs.Rounds.{HasEdge}
use Rattle.drawings.specs.Bars.{column_of}
use Rattle.bar_check.specs.Faults.{GoesThrough}
use Rattle.bar_check.specs.Loops.{IsStruckBelow, IsBlockedFrom, IsBlockedEdge}

module _ (lists : Lists) (fig : BarFigure) (a b : ℕ) where
  -- an edge that goes through a bar is blocked
  pub blocked : (v : ℕ) → GoesThrough lists fig a b v → IsBlockedEdge lists fig a b
  blocked v h = record { edge = h.edge; blocked = (v, (h.vertex, h.struck)) }

  -- the least bar in its way is the least that it goes through
  pub first_in_way : HasEdge lists a b → (found : Option VertexId) → MatchOption found ((v : ℕ) → ¬ IsStruckBelow (length lists) fig a b (column_of lists fig a b) v) (λ (v : VertexId). IsLeast (IsStruckBelow (length lists) fig a b (column_of lists fig a b)) v.0) → MatchOption found ((v : ℕ) → ¬ GoesThrough lists fig a b v) (λ (v : VertexId). IsLeast (GoesThrough lists fig a b) v.0)
  first_in_way edge None h = λ v through. h v (through.vertex, through.struck)
  first_in_way edge (Some v) h = record {
    here = record { edge = edge; vertex = h.here.0; struck = h.here.1 };
    before = λ u l through. h.before u l (through.vertex, through.struck);
  }

module _ (lists : Lists) (fig : BarFigure) (a : ℕ) where
  -- the least head of such a dart is that of the least blocked edge
  pub least_blocked_edge : (found : Option VertexId) → MatchOption found ((b : ℕ) → HasDart lists a b → ¬ IsBlockedFrom lists fig a a b) (λ (b : VertexId). IsLeast (λ x. HasDart lists a x × IsBlockedFrom lists fig a a x) b.0)
      → MatchOption found ((b : ℕ) → ¬ IsBlockedEdge lists fig a b) (λ (b : VertexId). IsLeast (IsBlockedEdge lists fig a) b.0)
  least_blocked_edge None none = λ b x. none b x.edge.1 (refl, x.edge.0, x.blocked)
  least_blocked_edge (Some b) least = record {
    here = record { edge = (least.here.1.1, least.here.0); blocked = least.here.1.2 };
    before = λ t less x. least.before t less (x.edge.1, (refl, x.edge.0, x.blocked));
  }
