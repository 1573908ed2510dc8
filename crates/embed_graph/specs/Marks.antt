-- Edges of lists as bits of pairs.
use Rattle.std.specs.Prelude.{ℕ, ◌<◌, ◌≡◌, ◌⊎◌, true, List, length, All, Contains}
use Rattle.map_lists.specs.Lists.{Lists}
use Rattle.map_theory.specs.Maps.{HasDart}
use Rattle.graphs.specs.Bits.{pair_place, body_length, is_set, IsLineByte}

-- bytes with the bits of the pairs of n vertices
pub record AreBytes (n : ℕ) (body : List ℕ) : Type 0 where
  pub long : length body ≡ body_length n
  pub bytes : All IsLineByte body

-- of the bits, just those of v and the lesser ones of these numbers were set anew
pub record Adds (v : ℕ) (list : List ℕ) (old new : List ℕ) : Type 0 where
  pub kept : (p : ℕ) → is_set old p ≡ true → is_set new p ≡ true
  pub from : (p : ℕ) → is_set new p ≡ true → (is_set old p ≡ true) ⊎ ((u : ℕ) × (u < v) × Contains list u × (pair_place u v ≡ p))
  pub all : (u : ℕ) → u < v → Contains list u → is_set new (pair_place u v) ≡ true

-- just the bits of the darts to lesser vertices are set, from the first k vertices
pub record Marks (lists : Lists) (k : ℕ) (body : List ℕ) : Type 0 where
  pub from : (p : ℕ) → is_set body p ≡ true → (u : ℕ) × (v : ℕ) × (u < v) × (v < k) × HasDart lists v u × (pair_place u v ≡ p)
  pub all : (u v : ℕ) → u < v → v < k → HasDart lists v u → is_set body (pair_place u v) ≡ true
