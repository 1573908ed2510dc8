-- How far the removals have come.
use Rattle.std.specs.Prelude.{ℕ, suc, ◌+◌, ◌<◌, ◌≡◌, ◌≢◌, Bool, List, [], ◌∷◌, ◌++◌, length, slice_index, slice_range}
use Rattle.classes.specs.Classes.{count_below}
use Rattle.map_lists.specs.Lists.{Lists}
use Rattle.map_theory.specs.Maps.{dart_count}
use Rattle.convex_peeling.specs.Contours.{IsBegun}
use Rattle.convex_laws.specs.declared.convex_rows.rows.ConvexRows.{ConvexRows}
use Rattle.convex_laws.proofs.Built.{AreLabels}
use Rattle.convex_laws.proofs.Ends.{IsEnded}
use Rattle.convex_orders.specs.FaceNumbers.{entry}
use Rattle.convex_orders.specs.Shown.{IsShown, IsListOf}

-- The removals have begun; the marks and the list show what is left, fewer than `bound` faces, and the rows are those of the removals.
pub record Stands (lists own : Lists) (marks : List Bool) (s d : ℕ) (ws : List ℕ) (rows : ConvexRows) (bound : ℕ) : Type 0 where
  pub alive : ℕ → Bool
  pub w : ℕ → ℕ
  pub r : ℕ
  pub m : ℕ
  pub shown : IsShown lists own marks s d alive w r
  pub begun : IsBegun lists alive w r
  pub labels : AreLabels lists alive
  pub list : IsListOf ws w r
  pub ended : IsEnded lists s d rows m alive w r
  pub fewer : count_below alive (dart_count lists) < bound

-- an edge along the list is not of the face inside of the base
abbrev pub HasOther : Lists → Lists → ℕ → ℕ → List ℕ → Type 0
HasOther lists own s d ws = (i : ℕ) × (i + 1 < length ws) × (entry lists own (slice_index ws (i + 1)) (slice_index ws i) ≢ entry lists own d s)

-- all are of that face
abbrev pub AllInner : Lists → Lists → ℕ → ℕ → List ℕ → Type 0
AllInner lists own s d ws = (i : ℕ) → i + 1 < length ws → entry lists own (slice_index ws (i + 1)) (slice_index ws i) ≡ entry lists own d s

-- the row of the last removal: over the base go all other vertices of the list
pub record IsLastRow (ws : List ℕ) (s d : ℕ) (old new : ConvexRows) : Type 0 where
  pub rows_are : new.rows ≡ old.rows ++ (d ∷ s ∷ []) ∷ []
  pub cuts_are : new.cuts ≡ old.cuts ++ (0 ∷ 1 ∷ []) ∷ []
  pub news_are : (end : ℕ) → suc end ≡ length ws → new.news ≡ old.news ++ slice_range ws 1 end ∷ []
