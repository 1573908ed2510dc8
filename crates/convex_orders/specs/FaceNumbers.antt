-- A number for each face, told for each entry of the lists: that of the face of its dart, and that of the face of the dart back.
use Rattle.std.specs.Prelude.{ℕ, ◌<◌, ◌≡◌, ◌↔◌, List, ◌++◌, length, slice_index, Contains, Some}
use Rattle.map_lists.specs.Lists.{Lists}
use Rattle.map_theory.specs.Maps.{list_of, HasDart, place_of}
use Rattle.half_edges.specs.Map.{Map, dart_at}
use Rattle.euler_faces.specs.FaceWalks.{AreFaces, walk_at}
use Rattle.convex_peeling.specs.Contours.{face_of}

-- what a table over the entries has at the dart (x, y)
abbrev pub entry : Lists → Lists → ℕ → ℕ → ℕ
entry lists table x y = slice_index (list_of table x) (place_of y (list_of lists x))

-- the table has a number below count for each entry
pub record IsTable (lists table : Lists) (count : ℕ) : Type 0 where
  pub rows : length table ≡ length lists
  pub sizes : (v : ℕ) → v < length lists → length (list_of table v) ≡ length (list_of lists v)
  pub below : (v i : ℕ) → v < length lists → i < length (list_of table v) → slice_index (list_of table v) i < count

-- Two darts have one number where their faces are one; the other table has the number of the dart back.
pub record AreFaceNumbers (lists own other : Lists) (count : ℕ) : Type 0 where
  pub own_table : IsTable lists own count
  pub other_table : IsTable lists other count
  pub alike : (x y u v : ℕ) → HasDart lists x y → HasDart lists u v → (entry lists own x y ≡ entry lists own u v) ↔ (face_of lists x y ≡ face_of lists u v)
  pub back : (x y : ℕ) → HasDart lists x y → entry lists other x y ≡ entry lists own y x

-- v is a vertex of a map with these faces
pub record HasFacesAt (map : Map) (walks : List (List ℕ)) (v : ℕ) : Type 0 where
  pub faces : AreFaces map walks
  pub vertex : v < length map.lists

-- the dart (u, v) stands in walk f
abbrev pub InWalk : Map → List (List ℕ) → ℕ → ℕ → ℕ → Type 0
InWalk map walks f u v = (f < length walks) × ((d : ℕ) × Contains (walk_at walks f) d × (dart_at map d ≡ Some (u, v)))

-- a row of numbers for the first entries of the list of v: of the darts that leave v
pub record AreOwn (map : Map) (walks : List (List ℕ)) (v : ℕ) (row : List ℕ) : Type 0 where
  pub each : (i : ℕ) → i < length row → InWalk map walks (slice_index row i) v (slice_index (list_of map.lists v) i)

-- of the darts that come to v
pub record AreOther (map : Map) (walks : List (List ℕ)) (v : ℕ) (row : List ℕ) : Type 0 where
  pub each : (i : ℕ) → i < length row → InWalk map walks (slice_index row i) (slice_index (list_of map.lists v) i) v

-- a row was appended: `size` numbers, of which P holds
pub record IsRowPut (P : List ℕ → Type 0) (size : ℕ) (old new : List ℕ) : Type 0 where
  pub row : List ℕ
  pub grown : new ≡ old ++ row
  pub long : length row ≡ size
  pub is : P row
