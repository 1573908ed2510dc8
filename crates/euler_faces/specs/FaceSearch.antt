-- The walks of the faces met so far, where the darts are gone over by their numbers.
use Rattle.std.specs.Prelude.{ℕ, ◌<◌, ◌≡◌, Bool, List, length, slice_index}
use Rattle.classes.specs.Classes.{label}
use Rattle.classes.proofs.Marks.{IsCounting}
use Rattle.map_theory.specs.Maps.{dart_count, face_classes}
use Rattle.half_edges.specs.Map.{Map, id_bound}
use Rattle.euler_faces.specs.Numbers.{number_at, mark_of}
use Rattle.euler_faces.specs.Search.{marks_by}
use Rattle.euler_faces.specs.FaceWalks.{walk_at, first_number, IsFaceWalk}

-- The walk along the whole face whose least dart has the number `first`.
pub record IsWholeWalk (map : Map) (ids : List ℕ) (first : ℕ) : Type 0 where
  pub is_walk : IsFaceWalk map ids
  pub begins : first_number map ids ≡ first
  pub labels : (i : ℕ) → i < length ids → label (face_classes map.lists) (number_at map (slice_index ids i)) ≡ first
  pub whole : (y : ℕ) → y < dart_count map.lists → label (face_classes map.lists) y ≡ first → (i : ℕ) × (i < length ids) × (number_at map (slice_index ids i) ≡ y)

-- The walks of the faces whose least dart has a number below n, in the order of those numbers.
pub record AreWalksBelow (map : Map) (walks : List (List ℕ)) (n : ℕ) : Type 0 where
  pub each : (f : ℕ) → f < length walks → IsWholeWalk map (walk_at walks f) (first_number map (walk_at walks f))
  pub below : (f : ℕ) → f < length walks → first_number map (walk_at walks f) < n
  pub rising : (f g : ℕ) → f < g → g < length walks → first_number map (walk_at walks f) < first_number map (walk_at walks g)
  pub found : (j : ℕ) → j < n → label (face_classes map.lists) j ≡ j → (f : ℕ) × (f < length walks) × (first_number map (walk_at walks f) ≡ j)

-- what stands in place of the face of a dart that was not met yet
abbrev pub no_face : ℕ
no_face = 4294967295

-- which darts have a face, by their ids
abbrev pub with_face : List ℕ → List Bool
with_face of = marks_by no_face of

-- The faces whose least dart has a number below n have been walked: their darts have their faces in `of`, and no others have one.
pub record AreWalked (map : Map) (walks : List (List ℕ)) (of : List ℕ) (n : ℕ) : Type 0 where
  pub size : length of ≡ id_bound map
  pub counting : IsCounting (face_classes map.lists) (mark_of map (with_face of)) (length walks) n
  pub walked : AreWalksBelow map walks n
  pub placed : (f i : ℕ) → f < length walks → i < length (walk_at walks f) → slice_index of (slice_index (walk_at walks f) i) ≡ f
