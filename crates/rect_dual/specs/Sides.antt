-- Sides of boxes in tables.
use Rattle.std.specs.Prelude.{ℕ, ◌+◌, ◌<◌, ◌≤◌, ◌≡◌, ◌⊎◌, List, slice_index}
use Rattle.contour_runs.specs.Runs.{Step}
use Rattle.rect_runs.specs.Numbers.{turn_of}
use Rattle.rect_runs.specs.Boxes.{rights, highs}

-- for each of n steps the place of its turn in its row
abbrev pub AreTurnPlaces : (ℕ → Step) → ℕ → List ℕ → Type 0
AreTurnPlaces steps n places = (k : ℕ) → k < n → (steps k).first + slice_index places k ≡ turn_of steps k

-- a vertex of the piece of a row has a new side
pub record IsInPiece (row : List ℕ) (from to v : ℕ) : Type 0 where
  pub place : ℕ
  pub low : from ≤ place
  pub high : place < to
  pub vertex : slice_index row place ≡ v

-- each vertex of the piece has the side, and each other one what it had
abbrev pub IsWritten : (old new : List ℕ) → List ℕ → ℕ → ℕ → ℕ → Type 0
IsWritten old new row from to side =
    (v : ℕ) → (IsInPiece row from to v × (slice_index new v ≡ side)) ⊎ (¬ IsInPiece row from to v × (slice_index new v ≡ slice_index old v))

-- the sides of the first m vertices after n steps
pub record AreSides (steps : ℕ → Step) (n m : ℕ) (x y : ℕ → ℕ) (width ceiling : ℕ) (right high : List ℕ) : Type 0 where
  pub rights_are : (v : ℕ) → v < m → slice_index right v ≡ rights steps x width n v
  pub highs_are : (v : ℕ) → v < m → slice_index high v ≡ highs steps y ceiling n v
