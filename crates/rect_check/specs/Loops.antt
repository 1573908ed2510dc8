-- What the loops of the check go over: marks, pairs that fit, the last rectangles of rows, and edges that are missed.
use Rattle.std.specs.Prelude.{ℕ, ◌+◌, ◌<◌, ◌≤◌, ◌≡◌, ◌≢◌, ◌⊎◌, Bool, true, false, List, length, slice_index, slice_index_or, ℤ, pos, ◌≤ℤ◌, ◌<ℤ◌}
use Rattle.map_lists.specs.Lists.{Lists}
use Rattle.map_theory.specs.Maps.{HasDart}
use Rattle.pg_plane.specs.declared.figures.RectFigure.{RectFigure}
use Rattle.drawings.specs.Duals.{number_at, IsSpan, DoMeet, ShareSide, HasFrame, top_vertex, right_vertex, bottom_vertex}

-- v has a mark
abbrev pub IsMarked : List Bool → ℕ → Type 0
IsMarked marks v = slice_index_or marks v false ≡ true

-- each vertex that has a mark in `old` has one in `new` too
abbrev pub AreKept : (old new : List Bool) → Type 0
AreKept old new = (v : ℕ) → IsMarked old v → IsMarked new v

-- u and v are adjacent, or both have a mark
abbrev pub AreJoined : Lists → List Bool → ℕ → ℕ → Type 0
AreJoined lists marks u v = HasDart lists u v ⊎ (IsMarked marks u × IsMarked marks v)

-- two rectangles do not meet, and where they share a side their vertices are adjacent or marked
pub record DoFit (lists : Lists) (marks : List Bool) (fig : RectFigure) (u v : ℕ) : Type 0 where
  pub apart : ¬ DoMeet fig u v
  pub joined : ShareSide fig u v → AreJoined lists marks u v

-- The rectangles along one of the two axes: that of v goes from its begin to its end, over the rows from its low to its high.
pub record Sides : Type 0 where
  pub begin : List ℤ
  pub end : List ℤ
  pub low : List ℤ
  pub high : List ℤ

-- along the level axis
abbrev pub across : RectFigure → Sides
across fig = record { begin = fig.x1; end = fig.x2; low = fig.y1; high = fig.y2 }

-- along the upright one
abbrev pub upwards : RectFigure → Sides
upwards fig = record { begin = fig.y1; end = fig.y2; low = fig.x1; high = fig.x2 }

-- row y is one of those of v
abbrev pub HasRow : (low high : List ℤ) → ℕ → ℕ → Type 0
HasRow low high v y = (number_at low v ≤ℤ pos y) × (pos y <ℤ number_at high v)

-- v begins at the end of u or behind it, and where it begins there they are adjacent or marked
pub record DoesFollow (lists : Lists) (marks : List Bool) (axis : Sides) (u v : ℕ) : Type 0 where
  pub behind : number_at axis.end u ≤ℤ number_at axis.begin v
  pub joined : number_at axis.end u ≡ number_at axis.begin v → AreJoined lists marks u v

-- v follows u if they have a row in common
abbrev pub FollowsInRows : Lists → List Bool → Sides → ℕ → ℕ → Type 0
FollowsInRows lists marks axis u v =
    (y : ℕ) → HasRow axis.low axis.high u y → HasRow axis.low axis.high v y → DoesFollow lists marks axis u v

-- of each two one follows the other if they have a row in common
abbrev pub AreRanked : Lists → List Bool → Sides → Type 0
AreRanked lists marks axis =
    (u v : ℕ) → u ≢ v → u < length lists → v < length lists → (FollowsInRows lists marks axis u v) ⊎ (FollowsInRows lists marks axis v u)

-- of the first i vertices of an order, each follows those before it
abbrev pub DoFollow : Lists → List Bool → Sides → List ℕ → ℕ → Type 0
DoFollow lists marks axis order i =
    (j k : ℕ) → j < k → k < i → FollowsInRows lists marks axis (slice_index order j) (slice_index order k)

-- an order of numbers below n has each of them
pub record HasEachVertex (n : ℕ) (order : List ℕ) : Type 0 where
  pub below : (i : ℕ) → i < length order → slice_index order i < n
  pub each : (v : ℕ) → v < n → (i : ℕ) × (i < length order) × (slice_index order i ≡ v)

-- in its row each of the first i vertices of an order is the one that the row's entry is one more than, or ends before that begins
abbrev pub HaveLast : Sides → List ℕ → ℕ → (ℕ → ℕ) → Type 0
HaveLast axis order i row =
    (j y : ℕ) → j < i → HasRow axis.low axis.high (slice_index order j) y → (t : ℕ) × (row y ≡ t + 1) × HasRow axis.low axis.high t y × (((slice_index order j) ≡ t) ⊎ (number_at axis.end (slice_index order j) ≤ℤ number_at axis.begin t))

-- The rows lie in runs, each with one entry. At the row where a run begins, one list has its entry, and another the row where it ends; at other rows that list has 0. No run has a row from p on before q.
pub record AreRuns (last until : List ℕ) (row : ℕ → ℕ) (p q : ℕ) : Type 0 where
  pub within : (s : ℕ) → slice_index until s ≤ length until
  pub each : (y : ℕ) → y < length until → (y < p) ⊎ (q ≤ y) → (s : ℕ) × (s ≤ y) × (y < slice_index until s) × (slice_index last s ≡ row y)
  pub apart : (s z : ℕ) → s < z → z < slice_index until s → slice_index until z ≡ 0
  pub none : (z : ℕ) → p ≤ z → z < q → slice_index until z ≡ 0
  pub before : (s : ℕ) → s < p → slice_index until s ≤ p

-- the rows from low on before high have got an entry
pub record IsFilled (old new : ℕ → ℕ) (low high entry : ℕ) : Type 0 where
  pub inside : (y : ℕ) → low ≤ y → y < high → new y ≡ entry
  pub outside : (y : ℕ) → (y < low) ⊎ (high ≤ y) → new y ≡ old y

-- runs put into rows without any from low on before high, of all up to a row behind these
abbrev pub IsRunPut : (last last' until until' : List ℕ) → (low high entry : ℕ) → Type 0
IsRunPut last last' until until' low high entry =
    (row new : ℕ → ℕ) (top : ℕ) → high ≤ top → AreRuns last until row low top → IsFilled row new low high entry → AreRuns last' until' new high top

-- the runs from row low on up to another row are taken away; v follows the last vertices in them, and from row high on they have this entry
pub record AreTaken (lists : Lists) (marks : List Bool) (axis : Sides) (last until : List ℕ) (row : ℕ → ℕ) (low high v reached entry : ℕ) : Type 0 where
  pub runs : AreRuns last until row low reached
  pub follow : (y u : ℕ) → low ≤ y → y < reached → row y ≡ u + 1 → DoesFollow lists marks axis u v
  pub rest : (y : ℕ) → high ≤ y → y < reached → row y ≡ entry

-- what was taken away reaches up to a row that is not before high
pub record HasReached (lists : Lists) (marks : List Bool) (axis : Sides) (last until until' : List ℕ) (low high v reached entry : ℕ) : Type 0 where
  pub order : high ≤ reached
  pub within : reached ≤ length until'
  pub vertex : entry ≤ length lists
  pub taken : (row : ℕ → ℕ) → AreRuns last until row low low → AreTaken lists marks axis last until' row low high v reached entry

-- each run of rows has the last of the first i vertices of an order in it, or none
pub record AreLast (lists : Lists) (axis : Sides) (order : List ℕ) (i : ℕ) (last until : List ℕ) : Type 0 where
  pub vertices : (y : ℕ) → slice_index last y ≤ length lists
  pub row : ℕ → ℕ
  pub runs : AreRuns last until row 0 0
  pub each : HaveLast axis order i row

-- what goes from number v of one list to that of another is not empty, and lies from 0 to n - 2
abbrev pub AreSpans : ℕ → (first last : List ℤ) → Type 0
AreSpans n first last = (v : ℕ) → v < n → IsSpan n (number_at first v) (number_at last v)

-- the edge from u to a greater vertex v is missed: they do not share a side
pub record IsMissed (lists : Lists) (fig : RectFigure) (u v : ℕ) : Type 0 where
  pub order : u < v
  pub dart : HasDart lists u v
  pub missed : ¬ ShareSide fig u v

-- each two fit
abbrev pub AreFitting : Lists → List Bool → RectFigure → Type 0
AreFitting lists marks fig = (u v : ℕ) → u < v → v < length lists → DoFit lists marks fig u v

-- each two that share a side are adjacent or marked
abbrev pub AllJoined : Lists → List Bool → RectFigure → Type 0
AllJoined lists marks fig = (u v : ℕ) → u < v → v < length lists → ShareSide fig u v → AreJoined lists marks u v

-- a length that a rectangle may have
pub record IsLength (z : ℤ) : Type 0 where
  pub low : pos 0 ≤ℤ z
  pub high : z ≤ℤ pos 65535
