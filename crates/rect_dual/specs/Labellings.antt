-- What contracts see of an edge labelling.
use Rattle.std.specs.Prelude.{ℕ, ◌<◌, ◌≡◌, List, slice_index_or, Some}
use Rattle.half_edges.specs.Map.{Map, dart_at}
use Rattle.rect_runs.specs.Corners.{End, run_in, rise_out, run_out, rise_in}
use Rattle.rect_orders.specs.Labellings.{IsFrameEdge, IsEdgeLabelling}
use Rattle.rect_dual.specs.declared.labels.label_types.Label.{Label}
use Rattle.rect_dual.specs.declared.labels.label_types.Label.TheVariants.{RiseOut, RiseIn, RunOut, RunIn, Frame}

-- the label of a dart whose edge stands so at the vertex that the dart leaves
abbrev pub label_of : End → Label
label_of run_in = RunIn
label_of rise_out = RiseOut
label_of run_out = RunOut
label_of rise_in = RiseIn

-- The label of the dart from u to v: `Frame` where its edge is one of the outer face, which goes along s, d, p and t, and else that of how it stands at u.
pub record IsLabelOf (s d p t : ℕ) (end : ℕ → ℕ → End) (u v : ℕ) (label : Label) : Type 0 where
  pub frame : IsFrameEdge s d p t u v → label ≡ Frame
  pub inner : ¬ IsFrameEdge s d p t u v → label ≡ label_of (end u v)

-- the label of a dart, by its id
abbrev pub label_in : List Label → ℕ → Label
label_in labels id = slice_index_or labels id Frame

-- The darts of the first k ids have such labels.
abbrev pub AreLabelsOf : Map → ℕ → ℕ → ℕ → ℕ → (ℕ → ℕ → End) → ℕ → List Label → Type 0
AreLabelsOf map s d p t end k labels = (id u v : ℕ) → id < k → dart_at map id ≡ Some (u, v) → IsLabelOf s d p t end u v (label_in labels id)

-- These are the labels of the map's darts in an edge labelling of it: `Frame` for both darts of each edge of the outer face, and for no other.
pub record IsLabellingIn (map : Map) (s d p t : ℕ) (labels : List Label) : Type 0 where
  pub end : ℕ → ℕ → End
  pub labelling : IsEdgeLabelling map.lists s d p t end
  pub labels_are : (id u v : ℕ) → dart_at map id ≡ Some (u, v) → IsLabelOf s d p t end u v (label_in labels id)
