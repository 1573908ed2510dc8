-- The faces that a search meets with an odd number.
use Rattle.std.specs.Prelude.{ℕ, ◌+◌, ◌*◌, Bool, not, ◌&&◌, ◌==◌, List, slice_index}
use Rattle.euler_faces.specs.Numbers.{mark_at}
use Rattle.euler_faces.specs.FaceWalks.{walk_at}

-- the face is not the outer one, and its first dart is met with an odd number
abbrev pub is_counted : List (List ℕ) → List Bool → ℕ → ℕ → Bool
is_counted walks met outer f = not (f == outer) && mark_at met (2 * slice_index (walk_at walks f) 0 + 1)
