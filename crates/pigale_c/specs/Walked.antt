-- The walks of faces in arrays: of each dart its tail.
use Rattle.std.specs.Prelude.{ℕ, ◌<◌, ◌≡◌, ◌⊎◌, List, [], length, slice_index, slice_index_or, Some}
use Rattle.map_lists.specs.Cuts.{joined, ends_from}
use Rattle.map_lists.specs.Lists.{Lists}
use Rattle.refusals.specs.Conditions.{fault_refusal}
use Rattle.half_edges.specs.Map.{Map, dart_at}
use Rattle.euler_faces.specs.FaceWalks.{AreFaces, walk_at}
use Rattle.pigale_c.specs.Arrays.{lists_in, IsGivenMap}
use Rattle.pigale_c.specs.Failures.{Fails}
use Rattle.pigale_c.specs.Written.{AreWritten, HasNoRoom}
use Rattle.pigale_c.specs.declared.outcome.Outcome.{Outcome}
use Rattle.pigale_c.specs.declared.outcome.Outcome.TheVariants.{Served, Failed}
use Rattle.pigale_c.specs.declared.outcome.Failure.TheVariants.{BadArgument}

-- a row has the tails of the darts of a walk
pub record HasTails (map : Map) (walk row : List ℕ) : Type 0 where
  pub count : length row ≡ length walk
  pub each : (i : ℕ) → i < length walk → (u : ℕ) × (dart_at map (slice_index walk i) ≡ Some (slice_index row i, u))

-- rows have the tails of walks
pub record AreTails (map : Map) (walks rows : List (List ℕ)) : Type 0 where
  pub count : length rows ≡ length walks
  pub each : (f : ℕ) → f < length walks → HasTails map (walk_at walks f) (slice_index_or rows f [])

-- The rows are the faces of a map with these lists, each along the face step from its first dart, in the order of these.
pub record IsFaced (lists : Lists) (rows : List (List ℕ)) : Type 0 where
  pub map : Map
  pub lists_are : map.lists ≡ lists
  pub walks : List (List ℕ)
  pub faces : AreFaces map walks
  pub tails : AreTails map walks rows

-- The arrays have the walks of the faces, and a number how many there are; or the call failed, and they are as they were.
abbrev pub AreFacesWritten : List ℕ → List ℕ → List ℕ → List ℕ → ℕ → List ℕ → List ℕ → ℕ → Outcome → Type 0
AreFacesWritten ends neighbours face_ends walk count face_ends' walk' count' Served =
    IsGivenMap ends neighbours × (rows : List (List ℕ)) × IsFaced (lists_in ends neighbours) rows × AreWritten (ends_from 0 rows) (joined rows) face_ends walk face_ends' walk' × (count' ≡ length rows)
AreFacesWritten ends neighbours face_ends walk count face_ends' walk' count' (Failed BadArgument) =
    ((¬ IsGivenMap ends neighbours) ⊎ ((rows : List (List ℕ)) × IsFaced (lists_in ends neighbours) rows × HasNoRoom (ends_from 0 rows) (joined rows) face_ends walk)) × (face_ends' ≡ face_ends) × (walk' ≡ walk) × (count' ≡ count)
AreFacesWritten ends neighbours face_ends walk count face_ends' walk' count' (Failed failure) =
    Fails (IsGivenMap ends neighbours) (λ refusal. fault_refusal (lists_in ends neighbours) ≡ Some refusal) failure × (face_ends' ≡ face_ends) × (walk' ≡ walk) × (count' ≡ count)
AreFacesWritten ends neighbours face_ends walk count face_ends' walk' count' outcome = ⊥
