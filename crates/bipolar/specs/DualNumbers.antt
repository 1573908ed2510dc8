-- The dual numbers of an st-order: the faces numbered from left to right, and the edges by their left faces.
use Rattle.std.specs.Prelude.{ℕ, ◌+◌, ◌<◌, ◌≡◌, nat_lt, if◌then◌else◌, List, length, slice_index}
use Rattle.map_lists.specs.Lists.{Lists}
use Rattle.map_theory.specs.Maps.{Dart, HasDart, edge_count}
use Rattle.map_theory.specs.Paths.{SameFace}
use Rattle.drawings.specs.Bars.{edge_number}

-- the edge goes upwards from u to v; the face of the dart (u, v) is on its left, and that of (v, u) on its right
abbrev pub IsUpward : Lists → List ℕ → ℕ → ℕ → Type 0
IsUpward lists rank u v = HasDart lists u v × (slice_index rank u < slice_index rank v)

-- A number for each face, told by its darts: 0 for the face of (s, t), and for any other one more than the greatest number among the left faces of the edges that have it on their right.
pub record IsFaceNumbering (lists : Lists) (rank : List ℕ) (s t : ℕ) (number : Dart → ℕ) : Type 0 where
  pub of_faces : (d e : Dart) → HasDart lists d.0 d.1 → HasDart lists e.0 e.1 → SameFace lists d e → number d ≡ number e
  pub first : number (s, t) ≡ 0
  pub greatest : (u v : ℕ) → IsUpward lists rank u v → ¬ SameFace lists (s, t) (v, u) → number (u, v) < number (v, u)
  pub reached : (d : Dart) → HasDart lists d.0 d.1 → ¬ SameFace lists (s, t) d → (u : ℕ) × (v : ℕ) × IsUpward lists rank u v × SameFace lists d (v, u) × (number d ≡ number (u, v) + 1)

-- the number of an edge, in the order of edges, by either end first
abbrev pub number_between : Lists → ℕ → ℕ → ℕ
number_between lists u v = if nat_lt u v then edge_number lists u v else edge_number lists v u

-- a number for each edge, in the order of edges: that of the face on its left
pub record AreEdgeNumbers (lists : Lists) (rank : List ℕ) (number : Dart → ℕ) (columns : List ℕ) : Type 0 where
  pub count : length columns ≡ edge_count lists
  pub left : (u v : ℕ) → IsUpward lists rank u v → slice_index columns (number_between lists u v) ≡ number (u, v)

-- The dual numbers of the edges of an st-order for the dart (s, t).
abbrev pub AreDualNumbers : Lists → List ℕ → ℕ → ℕ → List ℕ → Type 0
AreDualNumbers lists rank s t columns =
    (number : Dart → ℕ) × IsFaceNumbering lists rank s t number × AreEdgeNumbers lists rank number columns
