-- What is left of a triangulation while its vertices are taken off, and what is kept of it.
use Rattle.std.specs.Prelude.{ℕ, ◌+◌, ◌<◌, ◌≡◌, ◌≢◌, ◌⊎◌, ◌↔◌, Bool, true, List, ◌++◌, length, Contains}
use Rattle.classes.specs.Classes.{count_below}
use Rattle.map_lists.specs.Lists.{Lists}
use Rattle.map_theory.specs.Maps.{HasDart}
use Rattle.plane_peeling.specs.Restricted.{restricted}
use Rattle.plane_peeling.specs.NearTriangulations.{IsOuterDart}
use Rattle.plane_peeling.specs.Peeled.{IsPeeled}
use Rattle.canon_order.specs.Orders.{stands_in, IsBuiltUp, IsMade, IsCanonicalOrder}

-- With v taken off, the vertices of the outer cycle are those that were on it, without v, and the neighbours of v that are left.
abbrev pub IsCycleAfter : Lists → (ℕ → Bool) → ℕ → List ℕ → List ℕ → Type 0
IsCycleAfter lists kept v ws after = (u : ℕ) → Contains after u ↔ ((Contains ws u × (u ≢ v)) ⊎ HasDart (restricted kept lists) v u)

-- An order of the vertices that are left, built up to their outer cycle: the faces made are all but the outer one.
pub record IsOrderOfLeft (lists : Lists) (s t : ℕ) (kept : ℕ → Bool) (ws us : List ℕ) (cycle : ℕ → List ℕ) : Type 0 where
  pub built : IsBuiltUp lists s t us cycle
  pub count : length us ≡ count_below kept (length lists)
  pub same : (v : ℕ) → stands_in us v ≡ kept v
  pub top : cycle (length us) ≡ ws
  pub faces : (x y : ℕ) → HasDart (restricted kept lists) x y → ¬ IsOuterDart ws x y → IsMade lists us cycle x y

-- The vertices of rest, and no others, were taken off: each order of those that are left, with rest behind it, is a canonical order.
pub record IsLeft (lists : Lists) (s t : ℕ) (kept : ℕ → Bool) (ws rest : List ℕ) : Type 0 where
  pub vertices : (v : ℕ) → kept v ≡ true → v < length lists
  pub count : count_below kept (length lists) + length rest ≡ length lists
  pub peeled : IsPeeled lists kept s t ws
  pub ends : (us : List ℕ) (cycle : ℕ → List ℕ) → IsOrderOfLeft lists s t kept ws us cycle → IsCanonicalOrder lists (t, s) (us ++ rest)
