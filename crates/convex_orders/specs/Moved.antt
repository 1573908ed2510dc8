-- Counts as parts of a contour come and go.
use Rattle.std.specs.Prelude.{ℕ, ◌<◌, ◌≡◌, List, length, slice_index}
use Rattle.map_lists.specs.Lists.{Lists}
use Rattle.convex_orders.specs.declared.contour_counts.ContourCounts.{ContourCounts}
use Rattle.convex_orders.specs.declared.count_direction.Way.{Way}
use Rattle.convex_orders.specs.Counts.{met_between, edges_between}
use Rattle.convex_orders.specs.Ways.{CanMove, IsMoved}

-- two counts for each number below `count`
pub record HaveSize (counts : ContourCounts) (count : ℕ) : Type 0 where
  pub places : length counts.places.items ≡ count
  pub edges : length counts.edges.items ≡ count

-- nothing is counted
pub record AreNone (counts : ContourCounts) : Type 0 where
  pub places : (f : ℕ) → slice_index counts.places.items f ≡ 0
  pub edges : (f : ℕ) → slice_index counts.edges.items f ≡ 0

-- What stands strictly between two places of the list, and the edges from the one to the other, may come, or go.
pub record CanMoveAll (lists own : Lists) (count : ℕ) (way : Way) (ws : List ℕ) (first last : ℕ) (old : ContourCounts) : Type 0 where
  pub places : (f : ℕ) → f < count → CanMove way (slice_index old.places.items f) (met_between own ws first last f)
  pub edges : (f : ℕ) → f < count → CanMove way (slice_index old.edges.items f) (edges_between lists own ws first last f)

-- It came, or went.
pub record AreMoved (lists own : Lists) (count : ℕ) (way : Way) (ws : List ℕ) (first last : ℕ) (old new : ContourCounts) : Type 0 where
  pub size : HaveSize new count
  pub places : (f : ℕ) → f < count → IsMoved way (slice_index old.places.items f) (met_between own ws first last f) (slice_index new.places.items f)
  pub edges : (f : ℕ) → f < count → IsMoved way (slice_index old.edges.items f) (edges_between lists own ws first last f) (slice_index new.edges.items f)
