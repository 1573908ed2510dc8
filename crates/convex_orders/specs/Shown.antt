-- The faces that are left as marks on their numbers, and their contour as a list.
use Rattle.std.specs.Prelude.{ℕ, suc, ◌+◌, ◌<◌, ◌≤◌, ◌≡◌, ◌≢◌, Bool, true, false, List, length, slice_index, slice_index_or}
use Rattle.map_lists.specs.Lists.{Lists}
use Rattle.map_theory.specs.Maps.{HasDart, IsPlane}
use Rattle.convex_peeling.specs.Polyhedral.{IsThreeConnected}
use Rattle.convex_peeling.specs.Contours.{face_of, IsContour, IsBegun}
use Rattle.convex_peeling.specs.Removals.{Removal, IsTakenOff}
use Rattle.convex_peeling.specs.FacePeelingLaws.{AreOpen}
use Rattle.convex_orders.specs.FaceNumbers.{entry}

-- the mark of a number
abbrev pub is_set : List Bool → ℕ → Bool
is_set marks f = slice_index_or marks f false

-- a map of the class, with a base
pub record IsBased (lists : Lists) (s d : ℕ) : Type 0 where
  pub plane : IsPlane lists
  pub three : IsThreeConnected lists
  pub base : HasDart lists s d

-- the marks are those of the faces that are left
abbrev pub AreMarks : Lists → Lists → List Bool → (ℕ → Bool) → Type 0
AreMarks lists own marks alive = (x y : ℕ) → HasDart lists x y → is_set marks (entry lists own x y) ≡ alive (face_of lists x y)

-- The marks are those of the faces that are left, and their contour goes from d to s.
pub record IsShown (lists own : Lists) (marks : List Bool) (s d : ℕ) (alive : ℕ → Bool) (w : ℕ → ℕ) (r : ℕ) : Type 0 where
  pub contour : IsContour lists alive w r
  pub marks_are : AreMarks lists own marks alive
  pub first : w 0 ≡ d
  pub last : w r ≡ s

-- the list has what stands at the places 0 to r
pub record IsListOf (ws : List ℕ) (w : ℕ → ℕ) (r : ℕ) : Type 0 where
  pub long : length ws ≡ suc r
  pub each : (i : ℕ) → i ≤ r → slice_index ws i ≡ w i

-- The list has the contour up to place a, and goes on to the vertex `end` at place b.
pub record IsTrace (lists own : Lists) (marks : List Bool) (items : List ℕ) (end : ℕ) (alive : ℕ → Bool) (w : ℕ → ℕ) (r a b : ℕ) : Type 0 where
  pub contour : IsContour lists alive w r
  pub marks_are : AreMarks lists own marks alive
  pub from : IsListOf items w a
  pub order : a < b
  pub within : b ≤ r
  pub to : w b ≡ end

pub record SomeTrace (lists own : Lists) (marks : List Bool) (items : List ℕ) (end : ℕ) : Type 0 where
  pub alive : ℕ → Bool
  pub w : ℕ → ℕ
  pub r : ℕ
  pub a : ℕ
  pub b : ℕ
  pub trace : IsTrace lists own marks items end alive w r a b

-- a dart whose own face is not marked, and that of the dart back is
pub record IsRimIn (lists own other : Lists) (marks : List Bool) (x y : ℕ) : Type 0 where
  pub dart : HasDart lists x y
  pub outside : is_set marks (entry lists own x y) ≡ false
  pub inside : is_set marks (entry lists other x y) ≡ true

-- The contour in the list had the removal o, after which the marks are those of what is left.
pub record IsOffBy (lists own : Lists) (marks : List Bool) (s d : ℕ) (ws : List ℕ) (alive : ℕ → Bool) (w : ℕ → ℕ) (r : ℕ) (o : Removal) : Type 0 where
  pub contour : IsContour lists alive w r
  pub list : IsListOf ws w r
  pub off : IsTakenOff lists alive w r o
  pub next : IsShown lists own marks s d o.alive o.contour o.places

-- it is the removal of what stands strictly between the places `first` and `end`
pub record IsOffAt (lists own : Lists) (marks : List Bool) (s d : ℕ) (ws : List ℕ) (first end : ℕ) (alive : ℕ → Bool) (w : ℕ → ℕ) (r : ℕ) (o : Removal) : Type 0 where
  pub off_by : IsOffBy lists own marks s d ws alive w r o
  pub first_is : o.first ≡ first
  pub end_is : o.first + o.vertices + 1 ≡ end

pub record SomeOff (lists own : Lists) (marks : List Bool) (s d : ℕ) (ws : List ℕ) (first end : ℕ) : Type 0 where
  pub alive : ℕ → Bool
  pub w : ℕ → ℕ
  pub r : ℕ
  pub o : Removal
  pub is : IsOffAt lists own marks s d ws first end alive w r o

-- A removal at each of whose vertices an edge is taken off.
pub record GoesOff (lists own : Lists) (marks : List Bool) (alive : ℕ → Bool) (w : ℕ → ℕ) (r : ℕ) : Type 0 where
  pub o : Removal
  pub off : IsTakenOff lists alive w r o
  pub contour : IsContour lists o.alive o.contour o.places
  pub open_at : AreOpen lists alive w o
  pub marks_are : AreMarks lists own marks o.alive

-- Place j is one of those from which on the removal is found.
pub record GoesOffNear (lists own : Lists) (marks : List Bool) (alive : ℕ → Bool) (w : ℕ → ℕ) (r j : ℕ) : Type 0 where
  pub go : GoesOff lists own marks alive w r
  pub low : go.o.first ≤ j
  pub high : j ≤ go.o.first + go.o.vertices + 1

-- It takes off what stands strictly between the places `first` and `end`.
pub record GoesOffAt (lists own : Lists) (marks : List Bool) (alive : ℕ → Bool) (w : ℕ → ℕ) (r first end : ℕ) : Type 0 where
  pub go : GoesOff lists own marks alive w r
  pub first_is : go.o.first ≡ first
  pub end_is : go.o.first + go.o.vertices + 1 ≡ end

-- What a choice is made of: the removals have begun, and the contour in the list is not all of the face inside of the base.
pub record IsChoice (lists own : Lists) (marks : List Bool) (s d : ℕ) (ws : List ℕ) (alive : ℕ → Bool) (w : ℕ → ℕ) (r : ℕ) : Type 0 where
  pub shown : IsShown lists own marks s d alive w r
  pub begun : IsBegun lists alive w r
  pub list : IsListOf ws w r
  pub other : (i : ℕ) × (i < r) × (entry lists own (w (suc i)) (w i) ≢ entry lists own d s)
