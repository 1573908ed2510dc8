-- The faces of a map by the numbers of its darts: a number for each face, and the arcs from each to those on its right.
use Rattle.std.specs.Prelude.{ℕ, ◌+◌, ◌<◌, ◌≤◌, ◌≡◌, true, false, nat_lt, if◌then◌else◌, List, [], ◌∷◌, ◌++◌, length, map, slice_index, slice_index_or, All, Contains}
use Rattle.classes.specs.Classes.{class_count}
use Rattle.classes.proofs.Classes.{Together}
use Rattle.classes.proofs.Marks.{IsCounting}
use Rattle.map_lists.specs.Lists.{Lists}
use Rattle.map_lists.specs.Cuts.{cut, AreCuts}
use Rattle.map_theory.specs.Maps.{Dart, IsSimpleMap, darts, dart_count, dart_number, face_classes}
use Rattle.simple_maps.specs.Tables.{AreTwins}
use Rattle.euler_faces.specs.Numbers.{mark_at}
use Rattle.euler_faces.specs.FaceSearch.{with_face}
use Rattle.graph_search.specs.Arcs.{arcs_of, HasArc}
use Rattle.bipolar.specs.DualNumbers.{IsUpward}

-- the lists of a map, one behind another, and for each dart the number of its twin
pub record AreDarts (entries ends twins : List ℕ) : Type 0 where
  pub cuts : AreCuts 0 ends (length entries)
  pub few : length ends < 4096
  pub simple : IsSimpleMap (cut 0 ends entries)
  pub are_twins : AreTwins (darts (cut 0 ends entries)) twins (length (darts (cut 0 ends entries)))

-- the dart with number i
abbrev pub dart_of : Lists → ℕ → Dart
dart_of lists i = slice_index_or (darts lists) i (0, 0)

-- it goes upwards
abbrev pub GoesUp : Lists → List ℕ → ℕ → Type 0
GoesUp lists rank i = slice_index rank (dart_of lists i).0 < slice_index rank (dart_of lists i).1

-- the number of the face of the dart (u, v)
abbrev pub face_of : Lists → List ℕ → ℕ → ℕ → ℕ
face_of lists of u v = slice_index of (dart_number lists (u, v))

-- `of` has for each dart the number of its face, below `count`, and each such number is one of a face.
pub record AreFaceNumbers (lists : Lists) (of : List ℕ) (count : ℕ) : Type 0 where
  pub size : length of ≡ dart_count lists
  pub all : count ≡ class_count (face_classes lists)
  pub below : (i : ℕ) → i < dart_count lists → slice_index of i < count
  pub one : (i j : ℕ) → i < dart_count lists → j < dart_count lists → slice_index of i ≡ slice_index of j → Together (face_classes lists) i j
  pub alike : (i j : ℕ) → i < dart_count lists → j < dart_count lists → Together (face_classes lists) i j → slice_index of i ≡ slice_index of j
  pub some : (f : ℕ) → f < count → (i : ℕ) × (i < dart_count lists) × (slice_index of i ≡ f)

-- for each face the faces on the right of the upward edges on its left
pub record AreFaceArcs (lists : Lists) (rank of : List ℕ) (count : ℕ) (arcs : List (List ℕ)) : Type 0 where
  pub count_is : length arcs ≡ count
  pub from : (e r : ℕ) → HasArc arcs e r → (u : ℕ) × (v : ℕ) × IsUpward lists rank u v × (face_of lists of u v ≡ e) × (face_of lists of v u ≡ r)
  pub to : (u v : ℕ) → IsUpward lists rank u v → HasArc arcs (face_of lists of u v) (face_of lists of v u)

-- a twin was put behind others where the dart goes upwards
pub record IsPutUp (rank : List ℕ) (tail head twin : ℕ) (old new : List ℕ) : Type 0 where
  pub up : slice_index rank tail < slice_index rank head → new ≡ old ++ twin ∷ []
  pub down : slice_index rank head ≤ slice_index rank tail → new ≡ old

-- the dart with number i has got a face
abbrev pub IsNew : List ℕ → List ℕ → ℕ → Type 0
IsNew before after i = (mark_at (with_face before) i ≡ false) × (mark_at (with_face after) i ≡ true)

-- The twins of the upward ones among the darts that have got a face were put behind others.
pub record ArePutTwins (lists : Lists) (rank twins before after old new : List ℕ) : Type 0 where
  pub row : List ℕ
  pub grown : new ≡ old ++ row
  pub from : (t : ℕ) → Contains row t → (i : ℕ) × (i < dart_count lists) × IsNew before after i × GoesUp lists rank i × (slice_index twins i ≡ t)
  pub to : (i : ℕ) → i < dart_count lists → IsNew before after i → GoesUp lists rank i → Contains row (slice_index twins i)

-- the twins of the upward darts with the face f
pub record AreTwinsOf (lists : Lists) (rank twins of : List ℕ) (f : ℕ) (row : List ℕ) : Type 0 where
  pub from : (t : ℕ) → Contains row t → (i : ℕ) × (i < dart_count lists) × (mark_at (with_face of) i ≡ true) × (slice_index of i ≡ f) × GoesUp lists rank i × (slice_index twins i ≡ t)
  pub to : (i : ℕ) → i < dart_count lists → mark_at (with_face of) i ≡ true → slice_index of i ≡ f → GoesUp lists rank i → Contains row (slice_index twins i)

-- Of the faces whose least dart has a number below n each dart has its face's number, and others have none; and there is a row of twins for each of these faces.
pub record AreNumberedBelow (lists : Lists) (rank twins of arcs ends : List ℕ) (n : ℕ) : Type 0 where
  pub size : length of ≡ dart_count lists
  pub counting : IsCounting (face_classes lists) (mark_at (with_face of)) (length ends) n
  pub below : (i : ℕ) → i < dart_count lists → mark_at (with_face of) i ≡ true → slice_index of i < length ends
  pub one : (i j : ℕ) → i < dart_count lists → j < dart_count lists → mark_at (with_face of) i ≡ true → mark_at (with_face of) j ≡ true → slice_index of i ≡ slice_index of j → Together (face_classes lists) i j
  pub alike : (i j : ℕ) → i < dart_count lists → j < dart_count lists → mark_at (with_face of) i ≡ true → mark_at (with_face of) j ≡ true → Together (face_classes lists) i j → slice_index of i ≡ slice_index of j
  pub some : (f : ℕ) → f < length ends → (i : ℕ) × (i < dart_count lists) × (mark_at (with_face of) i ≡ true) × (slice_index of i ≡ f)
  pub within : All (λ t. t < dart_count lists) arcs
  pub cuts : AreCuts 0 ends (length arcs)
  pub rows : (f : ℕ) → f < length ends → AreTwinsOf lists rank twins of f (arcs_of (cut 0 ends arcs) f)

-- the number of the left face of the edge between v and u
abbrev pub left_at : Lists → List ℕ → List ℕ → List ℕ → ℕ → ℕ → ℕ
left_at lists rank of numbers v u =
    slice_index numbers (if nat_lt (slice_index rank v) (slice_index rank u) then face_of lists of v u else face_of lists of u v)

abbrev pub rows_since : (ℕ → ℕ → ℕ) → ℕ → Lists → Lists
rows_since x v [] = []
rows_since x v (us ∷ lists) = map (x v) us ∷ rows_since x (v + 1) lists

-- for each vertex such numbers of its edges, in the order of its list
abbrev pub left_rows : Lists → List ℕ → List ℕ → List ℕ → Lists
left_rows lists rank of numbers = rows_since (left_at lists rank of numbers) 0 lists
