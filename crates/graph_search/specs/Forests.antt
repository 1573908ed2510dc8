-- Depth-first search over lists in which adjacency goes both ways. Each vertex has a number, in the order in which the search came to it, and the number of vertices that were seen when it was done.
use Rattle.std.specs.Prelude.{ℕ, ◌<◌, ◌≤◌, ◌≡◌, List, length, slice_index}
use Rattle.map_lists.specs.Lists.{Lists}
use Rattle.map_theory.specs.Maps.{HasDart}

-- entries are vertices, and adjacency goes both ways
pub record IsAdjacency (lists : Lists) : Type 0 where
  pub in_range : (v u : ℕ) → HasDart lists v u → u < length lists
  pub both_ways : (v u : ℕ) → HasDart lists v u → HasDart lists u v

-- u holds v: v was seen after u, and before u was done
pub record Holds (number last : ℕ → ℕ) (u v : ℕ) : Type 0 where
  pub after : number u < number v
  pub before : number v < last u

-- A finished search of n vertices. Vertices have different numbers below n, and `order` has the vertex of each. What a vertex holds was seen and done within its time. Of two neighbours one holds the other. A vertex with a parent is its neighbour and held by it, and all else that holds it holds the parent; a vertex whose parent is no vertex is held by none.
pub record IsForest (lists : Lists) (order number last parent : ℕ → ℕ) : Type 0 where
  pub numbered : (v : ℕ) → v < length lists → number v < length lists
  pub own : (v : ℕ) → v < length lists → order (number v) ≡ v
  pub vertex : (k : ℕ) → k < length lists → order k < length lists
  pub place : (k : ℕ) → k < length lists → number (order k) ≡ k
  pub ends_after : (v : ℕ) → v < length lists → number v < last v
  pub ends_within : (v : ℕ) → v < length lists → last v ≤ length lists
  pub nested : (u v : ℕ) → u < length lists → v < length lists → Holds number last u v → last v ≤ last u
  pub edges : (u v : ℕ) → HasDart lists u v → number v < last u
  pub adjacent : (v : ℕ) → v < length lists → parent v < length lists → HasDart lists (parent v) v
  pub held : (v : ℕ) → v < length lists → parent v < length lists → Holds number last (parent v) v
  pub has_parent : (u v : ℕ) → u < length lists → v < length lists → Holds number last u v → parent v < length lists
  pub nearest : (u v : ℕ) → u < length lists → v < length lists → Holds number last u v → number u ≤ number (parent v)

-- `IsForest` of tables with an entry for each vertex
pub record IsForestOf (lists : Lists) (order number last parent : List ℕ) : Type 0 where
  pub orders : length order ≡ length lists
  pub numbers : length number ≡ length lists
  pub lasts : length last ≡ length lists
  pub parents : length parent ≡ length lists
  pub forest : IsForest lists (λ k. slice_index order k) (λ v. slice_index number v) (λ v. slice_index last v) (λ v. slice_index parent v)
