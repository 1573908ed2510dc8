-- What is noted of a contour at its vertices.
use Rattle.std.specs.Prelude.{ℕ, suc, ◌<◌, ◌≤◌, ◌≡◌, ◌≢◌, List, length, slice_index, slice_set}
use Rattle.map_lists.specs.Lists.{Lists}
use Rattle.convex_orders.specs.declared.contour_tracing.ContourFaces.{ContourFaces}
use Rattle.convex_orders.specs.FaceNumbers.{entry}

-- three numbers for each of n vertices
pub record AreRims (rims : ContourFaces) (n : ℕ) : Type 0 where
  pub hints : length rims.hints.items ≡ n
  pub inner : length rims.inner.items ≡ n
  pub outer : length rims.outer.items ≡ n

-- the numbers on both sides of the dart from x to y are noted at x
pub record IsSeen (lists own : Lists) (x y : ℕ) (old new : ContourFaces) : Type 0 where
  pub hints : length new.hints.items ≡ length old.hints.items
  pub inner : new.inner.items ≡ slice_set old.inner.items x (entry lists own y x)
  pub outer : new.outer.items ≡ slice_set old.outer.items x (entry lists own x y)

-- A table has `number i` at the vertex at each place i from a on and before b; elsewhere it is as before.
pub record IsNoted (number w : ℕ → ℕ) (a b : ℕ) (old new : List ℕ) : Type 0 where
  pub long : length new ≡ length old
  pub here : (i : ℕ) → a ≤ i → i < b → slice_index new (w i) ≡ number i
  pub elsewhere : (v : ℕ) → ((i : ℕ) → a ≤ i → i < b → w i ≢ v) → slice_index new v ≡ slice_index old v

-- The numbers on both sides of the darts from place a to place b are noted.
pub record AreNoted (lists own : Lists) (w : ℕ → ℕ) (a b : ℕ) (old new : ContourFaces) : Type 0 where
  pub inner : IsNoted (λ i. entry lists own (w (suc i)) (w i)) w a b old.inner.items new.inner.items
  pub outer : IsNoted (λ i. entry lists own (w i) (w (suc i))) w a b old.outer.items new.outer.items
