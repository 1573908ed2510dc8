-- Maps with a quadrangle as their outer face, triangles inside, at least one vertex inside, and no triangle of edges that is no face.
use Rattle.std.specs.Prelude.{ℕ, ◌<◌, ◌≢◌, ◌⊎◌, length}
use Rattle.map_lists.specs.Lists.{Lists}
use Rattle.map_theory.specs.Maps.{HasDart}
use Rattle.map_theory.specs.Paths.{SameFace}
use Rattle.plane_laws.specs.Laws.{IsTriangle}
use Rattle.plane_peeling.specs.Restricted.{IsFaceOfThree}
use Rattle.conn_parts.specs.BiconnectedMaps.{IsBiconnectedMap}
use Rattle.drawings.specs.Duals.{top_vertex, right_vertex, bottom_vertex, HasFrame}

-- the dart (v, u) is on the outer face, that of the dart from vertex 0 to the first entry of its list
abbrev pub IsOuter : Lists → ℕ → ℕ → Type 0
IsOuter lists v u = SameFace lists (0, top_vertex lists) (v, u)

-- the face of the dart (v, u) is another than the outer one, and is not walked by three darts
pub record HasLargeFace (lists : Lists) (v u : ℕ) : Type 0 where
  pub dart : HasDart lists v u
  pub inner : ¬ IsOuter lists v u
  pub large : ¬ IsTriangle lists (v, u)

-- each face but the outer one is a triangle
abbrev pub HasTriangles : Lists → Type 0
HasTriangles lists = (v u : ℕ) → HasDart lists v u → ¬ IsOuter lists v u → IsTriangle lists (v, u)

-- a, b and c rise and are adjacent in pairs, and the three edges bound no face
pub record IsSeparating (lists : Lists) (a b c : ℕ) : Type 0 where
  pub first : a < b
  pub second : b < c
  pub low : HasDart lists a b
  pub high : HasDart lists b c
  pub across : HasDart lists a c
  pub no_face : ¬ (IsFaceOfThree lists a b c ⊎ IsFaceOfThree lists b a c)

-- none do so
abbrev pub NoneSeparating : Lists → Type 0
NoneSeparating lists = (a b c : ℕ) → ¬ IsSeparating lists a b c

-- v is a vertex off the outer face, where that is a quadrangle
pub record IsInner (lists : Lists) (v : ℕ) : Type 0 where
  pub vertex : v < length lists
  pub not_first : v ≢ 0
  pub not_top : v ≢ top_vertex lists
  pub not_right : v ≢ right_vertex lists
  pub not_bottom : v ≢ bottom_vertex lists

-- some vertex is off the outer face, where that is a quadrangle
abbrev pub HasInner : Lists → Type 0
HasInner lists = (v : ℕ) × IsInner lists v

-- A biconnected map, of which the outer face is a quadrangle, each other face is a triangle, no triangle separates, and some vertex is inside.
pub record IsRectMap (lists : Lists) : Type 0 where
  pub biconnected : IsBiconnectedMap 3 lists
  pub frame : HasFrame lists
  pub faces : HasTriangles lists
  pub triangles : NoneSeparating lists
  pub inner : HasInner lists
