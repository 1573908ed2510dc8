-- Canonical orders of triangulations.
use Rattle.std.specs.Prelude.{ℕ, suc, ◌-◌, ◌<◌, ◌≤◌, ◌≡◌, ◌≢◌, ◌==◌, Bool, List, [], ◌∷◌, ◌++◌, map, length, take, slice_index, AllPairs, All}
use Rattle.std.specs.List.{list_any}
use Rattle.map_lists.specs.Lists.{Lists}
use Rattle.map_theory.specs.Maps.{Dart, HasDart, vertex_count, follows}
use Rattle.plane_peeling.specs.Restricted.{restricted, IsFaceOfThree, IsDartOfThree}
use Rattle.plane_peeling.specs.NearTriangulations.{IsOuterCycle}
use Rattle.plane_peeling.specs.Peeled.{IsFan}
use Rattle.canon_order.specs.declared.vertex_order.Order.{Order}
pub use Rattle.canon_order.specs.Ranks.{IsRankOf}

-- whether v stands in a list
abbrev pub stands_in : List ℕ → ℕ → Bool
stands_in us v = list_any (λ w. w == v) us

-- The vertex v is put on the cycle `old`, over a stretch of it, from p to q: those strictly between p and q leave it. Of `us`, which has v and those before it, v is adjacent to the row alone, and with each two of the row that follow one another it is on a face of the whole map.
pub record IsPutOn (lists : Lists) (us : List ℕ) (v : ℕ) (old new : List ℕ) : Type 0 where
  pub front : List ℕ
  pub p : ℕ
  pub middle : List ℕ
  pub q : ℕ
  pub back : List ℕ
  pub before : old ≡ front ++ (p ∷ middle ++ q ∷ back)
  pub after : new ≡ front ++ p ∷ v ∷ q ∷ back
  pub fan : IsFan lists (stands_in us) v p middle q

-- The list `at` begins with the base's vertices, s and t, and each later vertex is put on the outer cycle of the map of those before it: of the first k that is `cycle k`.
pub record IsBuiltUp (lists : Lists) (s t : ℕ) (at : List ℕ) (cycle : ℕ → List ℕ) : Type 0 where
  pub once : AllPairs ◌≢◌ at
  pub first : slice_index at 0 ≡ s
  pub second : slice_index at 1 ≡ t
  pub begin : cycle 2 ≡ s ∷ t ∷ []
  pub outer : (k : ℕ) → 3 ≤ k → k ≤ length at → IsOuterCycle (restricted (stands_in (take k at)) lists) s t (cycle k)
  pub put : (k : ℕ) → 2 ≤ k → k < length at → IsPutOn lists (take (suc k) at) (slice_index at k) (cycle k) (cycle (suc k))

-- The dart (x, y) is on a face that is made where a vertex v is put on: v, and two vertices a and b that follow one another on the cycle before.
pub record IsMade (lists : Lists) (at : List ℕ) (cycle : ℕ → List ℕ) (x y : ℕ) : Type 0 where
  pub k : ℕ
  pub i : ℕ
  pub v : ℕ
  pub a : ℕ
  pub b : ℕ
  pub later : 2 ≤ k
  pub within : k < length at
  pub vertex : slice_index at k ≡ v
  pub inside : suc i < length (cycle k)
  pub one : slice_index (cycle k) i ≡ a
  pub next : slice_index (cycle k) (suc i) ≡ b
  pub face : IsFaceOfThree lists v a b
  pub dart : IsDartOfThree v a b x y

-- A canonical order for the base dart (t, s): all vertices once, s first, t second, and the third vertex of the face of (t, s) last; built up so that the faces made are all but the face of (t, s).
pub record IsCanonicalOrder (lists : Lists) (base : Dart) (at : List ℕ) : Type 0 where
  pub count : length at ≡ vertex_count lists
  pub vertices : All (λ v. v < vertex_count lists) at
  pub last : slice_index at (vertex_count lists - 1) ≡ follows lists base.1 base.0
  pub cycle : ℕ → List ℕ
  pub built : IsBuiltUp lists base.1 base.0 at cycle
  pub faces : (x y : ℕ) → HasDart lists x y → ¬ IsDartOfThree base.0 base.1 (follows lists base.1 base.0) x y → IsMade lists at cycle x y

-- the vertices of an order, one after another, by their numbers
abbrev pub vertices_of : Order → List ℕ
vertices_of order = map (λ v. v.0) order.at
