-- The dual graph: an arc from the face on the left of each edge to that on its right.
use Rattle.std.specs.Prelude.{ℕ, ◌<◌, ◌≤◌, ◌≡◌, List, [], ◌∷◌, ◌++◌, length, slice_index, Some, Contains}
use Rattle.map_theory.specs.Maps.{list_of}
use Rattle.half_edges.specs.Map.{Map, dart_at}
use Rattle.euler_faces.specs.FaceWalks.{walk_at}
use Rattle.graph_search.specs.Arcs.{arcs_of}

-- the dart (u, v) stands in walk f
abbrev pub InWalk : Map → List (List ℕ) → ℕ → ℕ → ℕ → Type 0
InWalk map walks f u v = (f < length walks) × ((d : ℕ) × Contains (walk_at walks f) d × (dart_at map d ≡ Some (u, v)))

-- where the dart (u, v) goes upwards, the face on its right was appended; where it goes downwards, nothing was
pub record IsPutRight (map : Map) (walks : List (List ℕ)) (rank : List ℕ) (u v : ℕ) (old new : List ℕ) : Type 0 where
  pub up : slice_index rank u < slice_index rank v → (r : ℕ) × (new ≡ old ++ r ∷ []) × InWalk map walks r v u
  pub down : slice_index rank v ≤ slice_index rank u → new ≡ old

-- the row has exactly the faces on the right of those of the darts `ids` that go upwards
pub record AreRightFaces (map : Map) (walks : List (List ℕ)) (rank ids row : List ℕ) : Type 0 where
  pub from : (r : ℕ) → Contains row r → (d : ℕ) × (u : ℕ) × (v : ℕ) × Contains ids d × (dart_at map d ≡ Some (u, v)) × (slice_index rank u < slice_index rank v) × InWalk map walks r v u
  pub to : (d u v : ℕ) → Contains ids d → dart_at map d ≡ Some (u, v) → slice_index rank u < slice_index rank v → (r : ℕ) × Contains row r × InWalk map walks r v u

-- exactly the faces on the right of those of the darts `ids` that go upwards were appended
pub record ArePutRight (map : Map) (walks : List (List ℕ)) (rank ids old new : List ℕ) : Type 0 where
  pub row : List ℕ
  pub grown : new ≡ old ++ row
  pub faces : AreRightFaces map walks rank ids row

-- for each face, those on the right of the upward darts of its walk
pub record AreFaceArcs (map : Map) (walks : List (List ℕ)) (rank : List ℕ) (arcs : List (List ℕ)) : Type 0 where
  pub count : length arcs ≡ length walks
  pub rows : (f : ℕ) → f < length walks → AreRightFaces map walks rank (walk_at walks f) (arcs_of arcs f)

-- x is the number of the face of the dart (u, v)
abbrev pub IsNumberOf : Map → List (List ℕ) → List ℕ → ℕ → ℕ → ℕ → Type 0
IsNumberOf map walks numbers u v x = (f : ℕ) × InWalk map walks f u v × (x ≡ slice_index numbers f)

-- x is the number of the face on the left of the edge between u and v
pub record IsLeftNumber (map : Map) (walks : List (List ℕ)) (rank numbers : List ℕ) (u v x : ℕ) : Type 0 where
  pub up : slice_index rank u < slice_index rank v → IsNumberOf map walks numbers u v x
  pub down : slice_index rank v ≤ slice_index rank u → IsNumberOf map walks numbers v u x

-- for the first entries of v's list, as many as the row has, the number of the face on the left of the edge to it
pub record AreLeftNumbers (map : Map) (walks : List (List ℕ)) (rank numbers : List ℕ) (v : ℕ) (row : List ℕ) : Type 0 where
  pub entries : (i : ℕ) → i < length row → IsLeftNumber map walks rank numbers v (slice_index (list_of map.lists v) i) (slice_index row i)

-- for the first `count` entries of v's list, the numbers of the faces on the left of their edges were appended
pub record ArePutNumbers (map : Map) (walks : List (List ℕ)) (rank numbers : List ℕ) (v count : ℕ) (old new : List ℕ) : Type 0 where
  pub row : List ℕ
  pub grown : new ≡ old ++ row
  pub size : length row ≡ count
  pub left : AreLeftNumbers map walks rank numbers v row

-- for each vertex a row: for each entry of its list, the number of the face on the left of that edge
pub record AreNumberRows (map : Map) (walks : List (List ℕ)) (rank numbers : List ℕ) (rows : List (List ℕ)) : Type 0 where
  pub count : length rows ≡ length map.lists
  pub sizes : (v : ℕ) → v < length map.lists → length (arcs_of rows v) ≡ length (list_of map.lists v)
  pub each : (v : ℕ) → v < length map.lists → AreLeftNumbers map walks rank numbers v (arcs_of rows v)
