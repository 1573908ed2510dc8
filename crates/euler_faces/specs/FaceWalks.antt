-- The faces of a map, each walked once along the face step from its dart with the least number.
use Rattle.std.specs.Prelude.{ℕ, ◌+◌, ◌^◌, ◌<◌, ◌≤◌, ◌≡◌, List, [], map, length, slice_index, slice_index_or, Contains, option_map}
use Rattle.map_theory.specs.Maps.{face_step}
use Rattle.half_edges.specs.Map.{Map, IsLive, dart_at}
use Rattle.map_lists.specs.declared.ids.DartId.{DartId}
use Rattle.euler_faces.specs.Numbers.{number_at}

-- the numbers of ids
abbrev pub ids_of : List DartId → List ℕ
ids_of ds = map (λ d. d.0) ds

-- the walk of face f
abbrev pub walk_at : List (List ℕ) → ℕ → List ℕ
walk_at walks f = slice_index_or walks f []

-- the number of the dart at which a walk begins
abbrev pub first_number : Map → List ℕ → ℕ
first_number map walk = number_at map (slice_index walk 0)

-- A walk along one face: at least one dart, all live; the entry after each, cyclically, is its face step; and no dart twice. It begins at the dart with the least number.
pub record IsFaceWalk (map : Map) (walk : List ℕ) : Type 0 where
  pub some : 0 < length walk
  pub live : (i : ℕ) → i < length walk → IsLive map (slice_index walk i)
  pub steps : (i : ℕ) → i < length walk → dart_at map (slice_index_or walk (i + 1) (slice_index walk 0)) ≡ option_map (face_step map.lists) (dart_at map (slice_index walk i))
  pub once : (i j : ℕ) → i < length walk → j < length walk → slice_index walk i ≡ slice_index walk j → i ≡ j
  pub least : (i : ℕ) → i < length walk → first_number map walk ≤ number_at map (slice_index walk i)

-- The walks of all faces: each live dart stands in one walk and no other, and walks stand in the order of the numbers of their first darts.
pub record AreFaces (map : Map) (walks : List (List ℕ)) : Type 0 where
  pub each : (f : ℕ) → f < length walks → IsFaceWalk map (walk_at walks f)
  pub all : (d : ℕ) → IsLive map d → (f : ℕ) × (f < length walks) × Contains (walk_at walks f) d
  pub apart : (f g d : ℕ) → f < length walks → g < length walks → Contains (walk_at walks f) d → Contains (walk_at walks g) d → f ≡ g
  pub rising : (f g : ℕ) → f < g → g < length walks → first_number map (walk_at walks f) < first_number map (walk_at walks g)

-- `of` has for each dart of a walk the place of the walk
pub record AreNumbered (walks : List (List ℕ)) (of : List ℕ) : Type 0 where
  pub few : length walks < 2 ^ 32
  pub within : (f i : ℕ) → f < length walks → i < length (walk_at walks f) → slice_index (walk_at walks f) i < length of
  pub placed : (f i : ℕ) → f < length walks → i < length (walk_at walks f) → slice_index of (slice_index (walk_at walks f) i) ≡ f
