-- Cut vertices and separating pairs of lists in which adjacency goes both ways.
use Rattle.std.specs.Prelude.{ℕ, ◌<◌, ◌≤◌, ◌≡◌, ◌⊎◌, List, [], ◌∷◌, length, Contains}
use Rattle.map_lists.specs.Lists.{Lists}
use Rattle.map_theory.specs.Paths.{JoinsAvoiding}

-- Two vertices that are not avoided are joined by a path, and by none that avoids.
pub record AreSeparated (lists : Lists) (avoided : List ℕ) (s t : ℕ) : Type 0 where
  pub s_off : ¬ Contains avoided s
  pub t_off : ¬ Contains avoided t
  pub path : List ℕ
  pub joined : JoinsAvoiding lists [] s t path
  pub apart : (other : List ℕ) → ¬ JoinsAvoiding lists avoided s t other

-- v parts two other vertices
abbrev pub IsCutVertex : Lists → ℕ → Type 0
IsCutVertex lists v = (s : ℕ) × (t : ℕ) × AreSeparated lists (v ∷ []) s t

-- u and v together part two other vertices
abbrev pub IsSeparatingPair : Lists → ℕ → ℕ → Type 0
IsSeparatingPair lists u v = (u < v) × (v < length lists) × (s : ℕ) × (t : ℕ) × AreSeparated lists (u ∷ v ∷ []) s t

-- no lesser vertex is a cut vertex
pub record IsLeastCutVertex (lists : Lists) (v : ℕ) : Type 0 where
  pub is_cut : IsCutVertex lists v
  pub least : (u : ℕ) → IsCutVertex lists u → v ≤ u

-- no pair before it, by the first vertex and then by the second, is a separating pair
pub record IsLeastPair (lists : Lists) (u v : ℕ) : Type 0 where
  pub is_pair : IsSeparatingPair lists u v
  pub least : (a b : ℕ) → IsSeparatingPair lists a b → (u < a) ⊎ ((u ≡ a) × (v ≤ b))
