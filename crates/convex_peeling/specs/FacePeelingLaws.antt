-- The laws of contours of faces that are left.
use Rattle.std.specs.Prelude.{ℕ, suc, ◌+◌, ◌<◌, ◌≤◌, ◌≡◌, ◌⊎◌, Bool, length}
use Rattle.map_lists.specs.Lists.{Lists}
use Rattle.map_theory.specs.Maps.{list_of, IsSimpleMap, IsPlane}
use Rattle.convex_peeling.specs.Polyhedral.{IsPolyhedral}
use Rattle.convex_peeling.specs.Contours.{face_of, IsContour, IsOpen, IsBegun, IsRemovable}
use Rattle.convex_peeling.specs.Removals.{Removal, IsTakenOff}

-- The whole contour is of the face inside of the base, or some vertex is removable.
abbrev pub SomeRemovable : Type 0
SomeRemovable =
    (lists : Lists) (alive : ℕ → Bool) (w : ℕ → ℕ) (r : ℕ) → IsSimpleMap lists → IsPlane lists → IsPolyhedral lists → IsContour lists alive w r → IsBegun lists alive w r
    → ((i : ℕ) → i < r → face_of lists (w (suc i)) (w i) ≡ face_of lists (w 0) (w r)) ⊎ ((j : ℕ) × IsRemovable lists alive w r j)

-- each vertex has at least three neighbours
abbrev pub HasThree : Lists → Type 0
HasThree lists = (v : ℕ) → v < length lists → 3 ≤ length (list_of lists v)

-- an edge is taken off at each vertex that goes
abbrev pub AreOpen : Lists → (ℕ → Bool) → (ℕ → ℕ) → Removal → Type 0
AreOpen lists alive w o = (q : ℕ) → q < o.vertices → IsOpen lists alive (w (suc (o.first + q)))

-- In a polyhedral map whose vertices have three neighbours or more, once the removals have begun: the whole contour is of the face inside of the base, or there is a further removal.
abbrev pub SomeTakenOff : Type 0
SomeTakenOff =
    (lists : Lists) (alive : ℕ → Bool) (w : ℕ → ℕ) (r : ℕ) → IsSimpleMap lists → IsPlane lists → IsPolyhedral lists → HasThree lists → IsContour lists alive w r → IsBegun lists alive w r
    → ((i : ℕ) → i < r → face_of lists (w (suc i)) (w i) ≡ face_of lists (w 0) (w r)) ⊎ ((o : Removal) × IsTakenOff lists alive w r o × IsContour lists o.alive o.contour o.places × AreOpen lists alive w o)
