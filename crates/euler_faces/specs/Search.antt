-- A search from a vertex: which vertices are marked, and of which the neighbours are still to be marked.
use Rattle.std.specs.Prelude.{ℕ, ◌+◌, ◌<◌, ◌≤◌, ◌≡◌, ◌⊎◌, ◌==◌, Bool, true, false, not, List, map, length, slice_index}
use Rattle.classes.specs.Classes.{count_below, label}
use Rattle.map_lists.specs.Lists.{Lists}
use Rattle.map_theory.specs.Maps.{HasDart, component_classes}
use Rattle.classes.proofs.Classes.{Together}
use Rattle.euler_faces.specs.Numbers.{mark_at}

-- all neighbours of a vertex are marked
abbrev pub AllMarked : Lists → List Bool → ℕ → Type 0
AllMarked lists marked u = (w : ℕ) → HasDart lists u w → mark_at marked w ≡ true

-- a vertex stands in the queue from place `next` on and before `filled`
abbrev pub Waits : List ℕ → ℕ → ℕ → ℕ → Type 0
Waits queue next filled u = (i : ℕ) × (next ≤ i) × (i < filled) × (slice_index queue i ≡ u)

-- The search from start has marked vertices of its component. Each marked vertex waits or is open, or all its neighbours are marked.
pub record IsSearching (lists : Lists) (old marked : List Bool) (queue : List ℕ) (next filled start : ℕ) (open_at : ℕ → Type 0) : Type 0 where
  pub stays : (u : ℕ) → u < length lists → mark_at old u ≡ true → mark_at marked u ≡ true
  pub only : (u : ℕ) → u < length lists → mark_at marked u ≡ true → (mark_at old u ≡ true) ⊎ Together (component_classes lists) start u
  pub closed : (u : ℕ) → u < length lists → mark_at marked u ≡ true → Waits queue next filled u ⊎ (open_at u ⊎ AllMarked lists marked u)
  pub waiting : (u : ℕ) → Waits queue next filled u → (u < length lists) × Together (component_classes lists) start u

-- how many vertices below n are not marked
abbrev pub unmarked_below : List Bool → ℕ → ℕ
unmarked_below marked n = count_below (λ u. not (mark_at marked u)) n

-- no vertex is open
abbrev pub None_open : ℕ → Type 0
None_open u = ⊥

-- which entries have a number, where `none` stands at one that has none
abbrev pub marks_by : ℕ → List ℕ → List Bool
marks_by none numbers = map (λ x. not (x == none)) numbers

-- some entries more have this number, and all others are as they were
pub record IsNumberedBy (none : ℕ) (old new : List ℕ) (number : ℕ) : Type 0 where
  pub marked : (u : ℕ) → mark_at (marks_by none old) u ≡ true → mark_at (marks_by none new) u ≡ true
  pub stays : (u : ℕ) → mark_at (marks_by none old) u ≡ true → slice_index new u ≡ slice_index old u
  pub here : (u : ℕ) → mark_at (marks_by none old) u ≡ false → mark_at (marks_by none new) u ≡ true → slice_index new u ≡ number

-- of the numbers of vertices 65535 is none
abbrev pub marks_of : List ℕ → List Bool
marks_of numbers = marks_by 65535 numbers

abbrev pub IsNumbered : List ℕ → List ℕ → ℕ → Type 0
IsNumbered old new number = IsNumberedBy 65535 old new number

-- numbers of n vertices, and a queue for one more at least: its first entries, as many as it is filled with, are those that have a number
pub record AreQueued (numbers queue : List ℕ) (filled n : ℕ) : Type 0 where
  pub marks : length numbers ≡ n
  pub room : n < length queue
  pub work : filled + unmarked_below (marks_of numbers) n ≡ n

-- the number of v's component: how many components have a lesser least vertex
abbrev pub component_number : Lists → ℕ → ℕ
component_number lists v =
    count_below (λ u. label (component_classes lists) u == u) (label (component_classes lists) v)
