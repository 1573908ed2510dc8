-- What is left of a map where vertices have been taken off from outside, and one vertex more taken off.
use Rattle.std.specs.Prelude.{ℕ, ◌+◌, ◌<◌, ◌≡◌, ◌↔◌, Bool, true, false, List, [], ◌∷◌, ◌++◌, length, slice_index, Contains}
use Rattle.map_lists.specs.Lists.{Lists}
use Rattle.map_theory.specs.Maps.{HasDart, follows}
use Rattle.plane_peeling.specs.Restricted.{restricted, kept_but, IsFaceOfThree}
use Rattle.plane_peeling.specs.NearTriangulations.{IsNearTriangulation, IsOuterDart}

-- The map restricted to the kept vertices is a near triangulation, each of its inner faces is a face of the whole map, and its outer cycle has each kept vertex with a neighbour that is taken off.
pub record IsPeeled (lists : Lists) (kept : ℕ → Bool) (s t : ℕ) (ws : List ℕ) : Type 0 where
  pub near : IsNearTriangulation (restricted kept lists) s t ws
  pub inner : (x y : ℕ) → HasDart (restricted kept lists) x y → ¬ IsOuterDart ws x y → follows (restricted kept lists) y x ≡ follows lists y x
  pub border : (v u : ℕ) → kept v ≡ true → HasDart lists v u → kept u ≡ false → Contains ws v

-- v stands between p and q on the outer cycle, and its neighbours are p, those in mid, and q, in this order; each two of them that follow one another are a face of the whole map with v.
pub record IsFan (lists : Lists) (kept : ℕ → Bool) (v p : ℕ) (mid : List ℕ) (q : ℕ) : Type 0 where
  pub neighbours : (u : ℕ) → HasDart (restricted kept lists) v u ↔ Contains (p ∷ mid ++ q ∷ []) u
  pub faces : (i : ℕ) → i < length mid + 1 → IsFaceOfThree lists v (slice_index (p ∷ mid ++ q ∷ []) i) (slice_index (p ∷ mid ++ q ∷ []) (i + 1))

-- With v taken off, the outer cycle has its neighbours between p and q in its place.
pub record IsTakenOff (lists : Lists) (kept : ℕ → Bool) (s t : ℕ) (ws : List ℕ) (v : ℕ) (front : List ℕ) (p : ℕ) (mid : List ℕ) (q : ℕ) (back : List ℕ) : Type 0 where
  pub before : ws ≡ front ++ p ∷ v ∷ q ∷ back
  pub fan : IsFan lists kept v p mid q
  pub left : IsPeeled lists (kept_but kept v) s t (front ++ (p ∷ mid ++ q ∷ back))
