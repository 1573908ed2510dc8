-- A graph over the vertices of a map: what stands before what as a wood has it.
use Rattle.std.specs.Prelude.{ℕ, ◌<◌, ◌≡◌, ◌⊎◌, List, [], ◌∷◌, ◌++◌, length, Contains}
use Rattle.map_lists.specs.Lists.{Lists}
use Rattle.map_theory.specs.Maps.{list_of}
use Rattle.graph_search.specs.Arcs.{arcs_of}
use Rattle.wood_runs.specs.Parents.{Colour, one, two, three}
use Rattle.schnyder_wood.specs.Parents.{Parents, parent_in, IsRoot}

-- u is the parent of a colour of v, which is no root
abbrev pub HasParent : Parents → Colour → ℕ → ℕ → Type 0
HasParent wood c v u = (¬ IsRoot wood v) × (parent_in wood c v ≡ u)

-- e is the parent of colour one or two of r
abbrev pub ComesDown : Parents → ℕ → ℕ → Type 0
ComesDown wood e r = HasParent wood one r e ⊎ HasParent wood two r e

-- from root one to root two, and from that to root three
abbrev pub JoinsRoots : Parents → ℕ → ℕ → Type 0
JoinsRoots wood e r = ((e ≡ wood.root_one) × (r ≡ wood.root_two)) ⊎ ((e ≡ wood.root_two) × (r ≡ wood.root_three))

-- r is the parent of colour three of e, or e and r are roots, one after the other
abbrev pub GoesUp : Parents → ℕ → ℕ → Type 0
GoesUp wood e r = HasParent wood three e r ⊎ JoinsRoots wood e r

-- e stands before r
abbrev pub IsArc : Parents → ℕ → ℕ → Type 0
IsArc wood e r = ComesDown wood e r ⊎ GoesUp wood e r

-- r was put behind a row, if e stands before it
abbrev pub IsArcPut : Parents → ℕ → ℕ → List ℕ → List ℕ → Type 0
IsArcPut wood e r old new = (IsArc wood e r × (new ≡ old ++ r ∷ [])) ⊎ ((¬ IsArc wood e r) × (new ≡ old))

-- the row has those of a list before which e stands
pub record AreArcs (wood : Parents) (e : ℕ) (list row : List ℕ) : Type 0 where
  pub from : (r : ℕ) → Contains row r → Contains list r × IsArc wood e r
  pub to : (r : ℕ) → Contains list r → IsArc wood e r → Contains row r

-- for each vertex the neighbours before which it stands
pub record AreWoodArcs (lists : Lists) (wood : Parents) (arcs : List (List ℕ)) : Type 0 where
  pub count : length arcs ≡ length lists
  pub rows : (e : ℕ) → e < length lists → AreArcs wood e (list_of lists e) (arcs_of arcs e)
