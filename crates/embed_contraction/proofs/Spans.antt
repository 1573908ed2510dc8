-- Paths that are one edge, or lead along a ring from one place of it to another, up or down; and witnesses made of them. The ring is a function of its places, with its first vertex at its end once more.
use Rattle.std.proofs.Common.{◌≡◌, ◌≢◌, ◌⊎◌, ℕ, zero, suc, ◌+◌, ◌-◌, ◌<◌, ◌≤◌, true, refl, sym, ap, ◌∙◌, inl, inr, arith}
use Rattle.std.proofs.lemmas.Bool.{cases_eq}
use Rattle.graphs.specs.Graphs.{EdgeGraph, has_edge}
use Rattle.graphs.proofs.EdgeLemmas.{has_edge-turned}
use Rattle.kuratowski.specs.Witnesses.{branch_count, pair_at}
use Rattle.kuratowski.specs.declared.witness.Kind.{Kind}
use Rattle.embed_contraction.specs.Traces.{path_count}

-- Path p goes in `size p` steps, along edges, from the first branch of its pair to the second; an inner vertex of a path is no branch, and stands nowhere else.
pub record IsTraced (graph : EdgeGraph) (kind : Kind) (branch size : ℕ → ℕ) (way : ℕ → ℕ → ℕ) : Type 0 where
  pub vertices : (j : ℕ) → j < branch_count kind → branch j < graph.n
  pub distinct : (i j : ℕ) → i < j → j < branch_count kind → branch i ≢ branch j
  pub long : (p : ℕ) → p < path_count kind → 0 < size p
  pub start : (p : ℕ) → p < path_count kind → way p 0 ≡ branch (pair_at kind p).0
  pub end : (p : ℕ) → p < path_count kind → way p (size p) ≡ branch (pair_at kind p).1
  pub edges : (p i : ℕ) → p < path_count kind → i < size p → has_edge graph (way p i) (way p (suc i)) ≡ true
  pub no_branch : (p i j : ℕ) → p < path_count kind → 0 < i → i < size p → j < branch_count kind → way p i ≢ branch j
  pub once : (p i j : ℕ) → p < path_count kind → 0 < i → i < size p → j ≤ size p → way p i ≡ way p j → i ≡ j
  pub apart : (p q i j : ℕ) → p < q → q < path_count kind → 0 < i → i < size p → 0 < j → j < size q → way p i ≢ way q j

-- an edge, or the places of the ring from the lower to the higher, up or down
pub data Span : Type 0 where
  edge : ℕ → ℕ → Span
  up : ℕ → ℕ → Span
  down : ℕ → ℕ → Span

abbrev pub size_of : Span → ℕ
size_of (edge u v) = 1
size_of (up lo hi) = hi - lo
size_of (down lo hi) = hi - lo

abbrev pub vertex_on : (ℕ → ℕ) → Span → ℕ → ℕ
vertex_on at (edge u v) zero = u
vertex_on at (edge u v) (suc i) = v
vertex_on at (up lo hi) i = at (lo + i)
vertex_on at (down lo hi) i = at (hi - i)

-- an edge of the graph, or places between which all have the owner p
abbrev pub IsSound : EdgeGraph → ℕ → (ℕ → ℕ) → ℕ → Span → Type 0
IsSound graph n owner p (edge u v) = has_edge graph u v ≡ true
IsSound graph n owner p (up lo hi) = (lo < hi) × (hi ≤ n) × ((i : ℕ) → lo < i → i < hi → owner i ≡ p)
IsSound graph n owner p (down lo hi) = (lo < hi) × (hi ≤ n) × ((i : ℕ) → lo < i → i < hi → owner i ≡ p)

-- a ring of n places of the graph
pub record IsPlaced (graph : EdgeGraph) (n : ℕ) (at : ℕ → ℕ) : Type 0 where
  pub below : (i : ℕ) → i < n → at i < graph.n
  pub along : (i : ℕ) → i < n → has_edge graph (at i) (at (suc i)) ≡ true
  pub apart : (i j : ℕ) → i < n → j < n → at i ≡ at j → i ≡ j
  pub closed : at n ≡ at 0

-- branches and paths of a witness made of spans
pub record IsPlan (graph : EdgeGraph) (n : ℕ) (at : ℕ → ℕ) (owner : ℕ → ℕ) (kind : Kind) (branch : ℕ → ℕ) (spans : ℕ → Span) : Type 0 where
  pub vertices : (j : ℕ) → j < branch_count kind → branch j < graph.n
  pub distinct : (i j : ℕ) → i < j → j < branch_count kind → branch i ≢ branch j
  pub sound : (p : ℕ) → p < path_count kind → IsSound graph n owner p (spans p)
  pub start : (p : ℕ) → p < path_count kind → vertex_on at (spans p) 0 ≡ branch (pair_at kind p).0
  pub end : (p : ℕ) → p < path_count kind → vertex_on at (spans p) (size_of (spans p)) ≡ branch (pair_at kind p).1
  pub corners : (j : ℕ) → j < branch_count kind → ((i : ℕ) → i < n → at i ≢ branch j) ⊎ ((b : ℕ) × (b < n) × (branch j ≡ at b) × (path_count kind ≤ owner b))

module _ (graph : EdgeGraph) (n : ℕ) (at : ℕ → ℕ) (placed : IsPlaced graph n at) (owner : ℕ → ℕ) where
  span_long : (p : ℕ) (s : Span) → IsSound graph n owner p s → 0 < size_of s
  span_long p (edge u v) h = omega arith
  span_long p (up lo hi) h = let l = h.0 in omega arith
  span_long p (down lo hi) h = let l = h.0 in omega arith

  -- an inner vertex of a path stands at a place whose owner is the path
  span_inner : (p : ℕ) (s : Span) → IsSound graph n owner p s → (i : ℕ) → 0 < i → i < size_of s → (l : ℕ) × (0 < l) × (l < n) × (owner l ≡ p) × (vertex_on at s i ≡ at l)
  span_inner p (edge u v) h i pos l = absurd (omega arith)
  span_inner p (up lo hi) h i pos l = let m = h.1 in (lo + i, omega arith, omega arith, h.2 (lo + i) (omega arith) (omega arith), refl)
  span_inner p (down lo hi) h i pos l = let m = h.1 in (hi - i, omega arith, omega arith, h.2 (hi - i) (omega arith) (omega arith), refl)

  span_edges : (p : ℕ) (s : Span) → IsSound graph n owner p s → (i : ℕ) → i < size_of s → has_edge graph (vertex_on at s i) (vertex_on at s (suc i)) ≡ true
  span_edges p (edge u v) h zero l = h
  span_edges p (edge u v) h (suc i) l = absurd (omega arith)
  span_edges p (up lo hi) h i l =
      let e : lo + suc i ≡ suc (lo + i) = omega arith in
      ap (λ j. has_edge graph (at (lo + i)) (at j)) e ∙ placed.along (lo + i) (omega arith)
  span_edges p (down lo hi) h i l =
      let e : hi - i ≡ suc (hi - suc i) = omega arith in
      has_edge-turned graph (at (hi - i)) (at (hi - suc i)) ∙ (ap (λ j. has_edge graph (at (hi - suc i)) (at j)) e ∙ placed.along (hi - suc i) (omega arith))

  -- a place inside the ring is not another, nor the end
  inside_once : (i j : ℕ) → 0 < i → i < n → j ≤ n → at i ≡ at j → i ≡ j
  inside_once i j pos l m e = grind (arith, cases_eq)

  span_once : (p : ℕ) (s : Span) → IsSound graph n owner p s → (i j : ℕ) → 0 < i → i < size_of s → j ≤ size_of s → vertex_on at s i ≡ vertex_on at s j → i ≡ j
  span_once p x1 h i j pos l m e = grind (arith, inside_once)

  module _ (kind : Kind) (branch : ℕ → ℕ) (spans : ℕ → Span) (plan : IsPlan graph n at owner kind branch spans) where
    pub traced : IsTraced graph kind branch (λ p. size_of (spans p)) (λ p i. vertex_on at (spans p) i)
    traced = record {
      vertices = plan.vertices;
      distinct = plan.distinct;
      long = λ p l. span_long p (spans p) (plan.sound p l);
      start = plan.start;
      end = plan.end;
      edges = λ p i l m. span_edges p (spans p) (plan.sound p l) i m;
      no_branch = λ p i j l pos m in_j e.
          let r = span_inner p (spans p) (plan.sound p l) i pos m in
          elim (plan.corners j in_j) [
            | inl hub ↦ hub r.0 r.2 (sym r.4 ∙ e)
            | inr c ↦
                omega (arith, ap owner (placed.apart r.0 c.0 r.2 c.1 (sym r.4 ∙ (e ∙ c.2))))
          ];
      once = λ p i j l pos m m' e. span_once p (spans p) (plan.sound p l) i j pos m m' e;
      apart = λ p q i j l m pos l' pos' m' e.
          let r = span_inner p (spans p) (plan.sound p (omega arith)) i pos l' in
          let s = span_inner q (spans q) (plan.sound q m) j pos' m' in
          omega (arith, ap owner (placed.apart r.0 s.0 r.2 s.2 (sym r.4 ∙ (e ∙ s.4))));
    }
