-- What the removals read of a map, and how far they have come by it.
use Rattle.std.specs.Prelude.{ℕ, ◌<◌, ◌≡◌, Bool, true, List, [], length}
use Rattle.convex_laws.specs.Removed.{HasRows}
use Rattle.convex_orders.specs.declared.map_tables.Tables.{Tables}
use Rattle.convex_orders.specs.declared.removals.RowTables.{RowTables}
use Rattle.convex_orders.specs.Contours.{vertices_of, AreInner}
use Rattle.convex_orders.specs.Counts.{AreCounts}
use Rattle.convex_orders.specs.Moved.{HaveSize, AreNone}
use Rattle.convex_orders.specs.Noted.{AreRims}
use Rattle.convex_orders.specs.Shown.{is_set}
use Rattle.convex_orders.specs.Splits.{IsRemovablePlace}
use Rattle.convex_orders.specs.Standing.{Stands}

-- the vertex at place j of the list may go, by counts along the list
pub record CanGo (tables : Tables) (marks : List Bool) (ws : List ℕ) (j : ℕ) : Type 0 where
  pub places : List ℕ
  pub edges : List ℕ
  pub counts : AreCounts tables.lists tables.faces.own tables.faces.count ws places edges
  pub marks_long : length marks ≡ tables.faces.count
  pub place : IsRemovablePlace tables.faces.own tables.faces.other marks places edges ws j

-- Before the first removal: no vertex, no row, nothing counted, and each face with a mark.
pub record IsBlank (tables : Tables) (state : RowTables) : Type 0 where
  pub marks_long : length state.marks.items ≡ tables.faces.count
  pub all : (f : ℕ) → f < tables.faces.count → is_set state.marks.items f ≡ true
  pub left : state.contour.left.items ≡ []
  pub right : state.contour.right.items ≡ []
  pub rims : AreRims state.rims (length tables.lists)
  pub size : HaveSize state.counts tables.faces.count
  pub none : AreNone state.counts
  pub rows : HasRows state.rows 0

-- What is kept from removal to removal: the counts along the contour, and the numbers inside of its edges.
pub record IsKept (tables : Tables) (state : RowTables) : Type 0 where
  pub marks_long : length state.marks.items ≡ tables.faces.count
  pub some : 0 < length state.contour.left.items
  pub rims : AreRims state.rims (length tables.lists)
  pub inner : AreInner tables.lists tables.faces.own (vertices_of state.contour) state.rims.inner.items
  pub counts : AreCounts tables.lists tables.faces.own tables.faces.count (vertices_of state.contour) state.counts.places.items state.counts.edges.items

-- how far the removals have come
abbrev pub StandsBy : Tables → RowTables → ℕ → Type 0
StandsBy tables state bound = Stands tables.lists tables.faces.own state.marks.items tables.tail tables.head (vertices_of state.contour) state.rows bound
