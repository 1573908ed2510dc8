-- Maps in which two faces have at most a vertex or an edge in common, and three-connected maps.
use Rattle.std.specs.Prelude.{ℕ, ◌≤◌, ◌≡◌, ◌≢◌, ◌⊎◌, length}
use Rattle.map_lists.specs.Lists.{Lists}
use Rattle.map_theory.specs.Maps.{HasDart, IsSimpleMap, component_count}
use Rattle.map_theory.specs.Paths.{SameFace}
use Rattle.graph_search.specs.Cuts.{IsCutVertex, IsSeparatingPair}

-- u and v are an edge between the face of the one dart and that of the other, with a side on each
abbrev pub IsEdgeBetween : Lists → ℕ × ℕ → ℕ × ℕ → ℕ → ℕ → Type 0
IsEdgeBetween lists d e u v = HasDart lists u v × ((SameFace lists d (u, v) × SameFace lists e (v, u)) ⊎ (SameFace lists d (v, u) × SameFace lists e (u, v)))

-- No face passes a vertex twice, each edge lies between two faces, and two faces with two common vertices have these as an edge between them.
pub record IsPolyhedral (lists : Lists) : Type 0 where
  pub once : (x y z : ℕ) → HasDart lists x y → HasDart lists x z → SameFace lists (x, y) (x, z) → y ≡ z
  pub apart : (x y : ℕ) → HasDart lists x y → ¬ SameFace lists (x, y) (y, x)
  pub share : (u v a b c e : ℕ) → u ≢ v → HasDart lists u a → HasDart lists v b → HasDart lists u c → HasDart lists v e → SameFace lists (u, a) (v, b) → SameFace lists (u, c) (v, e) → ¬ SameFace lists (u, a) (u, c) → IsEdgeBetween lists (u, a) (u, c) u v

-- A connected simple map with at least four vertices, no cut vertex and no separating pair.
pub record IsThreeConnected (lists : Lists) : Type 0 where
  pub simple : IsSimpleMap lists
  pub some : 4 ≤ length lists
  pub connected : component_count lists ≡ 1
  pub uncut : (v : ℕ) → ¬ IsCutVertex lists v
  pub unpaired : (u v : ℕ) → ¬ IsSeparatingPair lists u v
