-- What is left of a map where faces have been taken off from outside: its contour, and which face may go next.
use Rattle.std.specs.Prelude.{ℕ, suc, ◌+◌, ◌<◌, ◌≤◌, ◌≡◌, Bool, true, false}
use Rattle.classes.specs.Classes.{label, count_below, class_count}
use Rattle.map_lists.specs.Lists.{Lists}
use Rattle.map_theory.specs.Maps.{HasDart, dart_count, dart_number, face_classes}

-- the face of the dart from x to y, by its least dart
abbrev pub face_of : Lists → ℕ → ℕ → ℕ
face_of lists x y = label (face_classes lists) (dart_number lists (x, y))

-- the face passes a vertex
abbrev pub Passes : Lists → ℕ → ℕ → Type 0
Passes lists face v = (x : ℕ) × HasDart lists v x × (face_of lists v x ≡ face)

-- A dart of the rim: its own face is taken off, that on the other side of its edge is left.
pub record IsRim (lists : Lists) (alive : ℕ → Bool) (x y : ℕ) : Type 0 where
  pub dart : HasDart lists x y
  pub outside : alive (face_of lists x y) ≡ false
  pub inside : alive (face_of lists y x) ≡ true

-- The contour of the faces that are left: vertices at the places 0 to r, no two the same. From each to the next there is a dart of the rim, and one, the base, from the last to the first, which stands once more at place r + 1; and there are no others.
pub record IsContour (lists : Lists) (alive : ℕ → Bool) (w : ℕ → ℕ) (r : ℕ) : Type 0 where
  pub distinct : (i j : ℕ) → i ≤ r → j ≤ r → w i ≡ w j → i ≡ j
  pub round : w (suc r) ≡ w 0
  pub edge : (i : ℕ) → i ≤ r → IsRim lists alive (w i) (w (suc i))
  pub only : (x y : ℕ) → IsRim lists alive x y → (i : ℕ) × (i ≤ r) × (w i ≡ x) × (w (suc i) ≡ y)

-- An edge at v is taken off: both its faces are.
abbrev pub IsOpen : Lists → (ℕ → Bool) → ℕ → Type 0
IsOpen lists alive v = (x : ℕ) × HasDart lists v x × (alive (face_of lists v x) ≡ false) × (alive (face_of lists x v) ≡ false)

-- The dart that comes to the base along its face has been taken off.
abbrev pub IsBegun : Lists → (ℕ → Bool) → (ℕ → ℕ) → ℕ → Type 0
IsBegun lists alive w r = (e : ℕ) × HasDart lists e (w r) × (face_of lists e (w r) ≡ face_of lists (w r) (w 0)) × (alive (face_of lists (w r) e) ≡ false)

-- A face meets the contour in one stretch: between two places that it passes all edges of the contour are its own. The base does not count.
abbrev pub IsStretch : Lists → (ℕ → ℕ) → ℕ → ℕ → Type 0
IsStretch lists w r face = (a i b : ℕ) → a ≤ i → i < b → b ≤ r → Passes lists face (w a) → Passes lists face (w b) → face_of lists (w (suc i)) (w i) ≡ face

-- A vertex of the contour that may go: not of the base, an edge at it is taken off, and each face there that is left meets the contour in one stretch.
pub record IsRemovable (lists : Lists) (alive : ℕ → Bool) (w : ℕ → ℕ) (r j : ℕ) : Type 0 where
  pub after : 0 < j
  pub before : j < r
  pub open_at : IsOpen lists alive (w j)
  pub stretches : (x : ℕ) → HasDart lists (w j) x → alive (face_of lists (w j) x) ≡ true → IsStretch lists w r (face_of lists (w j) x)

-- The contour where just the face of the base (s, d) is taken off: it goes from d to s.
pub record IsFirst (lists : Lists) (s d : ℕ) (alive : ℕ → Bool) (w : ℕ → ℕ) (r : ℕ) : Type 0 where
  pub contour : IsContour lists alive w r
  pub first : w 0 ≡ d
  pub last : w r ≡ s
  pub outer : (x y : ℕ) → HasDart lists x y → alive (face_of lists x y) ≡ false → face_of lists x y ≡ face_of lists s d
  pub taken : alive (face_of lists s d) ≡ false
  pub labels : (face : ℕ) → alive face ≡ true → label (face_classes lists) face ≡ face
  pub counts : count_below alive (dart_count lists) + 1 ≡ class_count (face_classes lists)
