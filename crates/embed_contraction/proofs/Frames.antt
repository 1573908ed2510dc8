-- Branches and paths of a witness, apart from its edges; numbers exchanged in them.
use Rattle.std.proofs.Common.{◌≡◌, ◌≢◌, ◌⊎◌, ℕ, suc, ◌-◌, ◌<◌, ◌≤◌, true, cond, eqb, List, length, refl, sym, ap, ◌∙◌, inl, inr, arith}
use Rattle.std.proofs.lemmas.Bool.{cases_eq, cases_order, eq-eqb, ne_eqb, cond-true, cond-false}
use Rattle.map_lists.specs.declared.ids.VertexId.{VertexId}
use Rattle.graphs.specs.Graphs.{EdgeGraph, has_edge}
use Rattle.kuratowski.specs.Witnesses.{branch_count, pair_at, vertex_at, path_at, IsWitness}
use Rattle.kuratowski.specs.declared.witness.Kind.{Kind}
use Rattle.embed_contraction.specs.Traces.{path_count, HasWitness}
use Rattle.embed_contraction.proofs.Spans.{IsTraced}
use Rattle.embed_contraction.proofs.Traces.{traced_witness}

-- what holds of a traced witness but that its steps are edges
pub record IsFrame (n : ℕ) (kind : Kind) (branch size : ℕ → ℕ) (way : ℕ → ℕ → ℕ) : Type 0 where
  pub vertices : (j : ℕ) → j < branch_count kind → branch j < n
  pub distinct : (i j : ℕ) → i < branch_count kind → j < branch_count kind → branch i ≡ branch j → i ≡ j
  pub long : (p : ℕ) → p < path_count kind → 0 < size p
  pub start : (p : ℕ) → p < path_count kind → way p 0 ≡ branch (pair_at kind p).0
  pub end : (p : ℕ) → p < path_count kind → way p (size p) ≡ branch (pair_at kind p).1
  pub no_branch : (p i j : ℕ) → p < path_count kind → 0 < i → i < size p → j < branch_count kind → way p i ≢ branch j
  pub once : (p i j : ℕ) → p < path_count kind → 0 < i → i < size p → j ≤ size p → way p i ≡ way p j → i ≡ j
  pub apart : (p q i j : ℕ) → p < path_count kind → q < path_count kind → 0 < i → i < size p → 0 < j → j < size q → way p i ≡ way q j → p ≡ q

-- each step is an edge, by a test
abbrev pub HasSteps : Kind → (ℕ → ℕ) → (ℕ → ℕ → ℕ) → (ℕ → ℕ → Type 0) → Type 0
HasSteps kind size way P = (p i : ℕ) → p < path_count kind → i < size p → P (way p i) (way p (suc i))

-- a frame along edges is traced
pub traced-frame : (graph : EdgeGraph) (kind : Kind) (branch size : ℕ → ℕ) (way : ℕ → ℕ → ℕ) → IsFrame graph.n kind branch size way → HasSteps kind size way (λ a b. has_edge graph a b ≡ true) → IsTraced graph kind branch size way
traced-frame graph kind branch size way f steps = grind arith

pub witness-frame : (graph : EdgeGraph) (kind : Kind) (branch size : ℕ → ℕ) (way : ℕ → ℕ → ℕ) → IsFrame graph.n kind branch size way → HasSteps kind size way (λ a b. has_edge graph a b ≡ true) → HasWitness graph
witness-frame graph kind branch size way f steps = traced_witness graph kind branch size way (traced-frame graph kind branch size way f steps)

-- numbers changed by an injection
pub frame-map : (n n' : ℕ) (kind : Kind) (branch size : ℕ → ℕ) (way : ℕ → ℕ → ℕ) (to : ℕ → ℕ) → ((v : ℕ) → v < n → to v < n') → ((u v : ℕ) → to u ≡ to v → u ≡ v) → IsFrame n kind branch size way → IsFrame n' kind (λ j. to (branch j)) size (λ p i. to (way p i))
frame-map n n' kind branch size way to within inj f = grind arith

-- a witness has a frame
pub frame-witness : (graph : EdgeGraph) (kind : Kind) (branch : List VertexId) (paths : List (List VertexId)) → IsWitness graph kind branch paths → IsFrame graph.n kind (vertex_at branch) (λ p. length (path_at paths p) - 1) (λ p i. vertex_at (path_at paths p) i) × HasSteps kind (λ p. length (path_at paths p) - 1) (λ p i. vertex_at (path_at paths p) i) (λ a b. has_edge graph a b ≡ true)
frame-witness graph kind branch paths w = grind (arith, branch_count, vertex_at, cases_order, path_count, length, path_at)

-- x and y exchanged
unfoldable pub exchanged : ℕ → ℕ → ℕ → ℕ
exchanged x y v = cond (eqb v x) y (cond (eqb v y) x v)

pub exchanged-first : (x y v : ℕ) → v ≡ x → exchanged x y v ≡ y
unfolding exchanged
exchanged-first x y v e = cond-true (eqb v x) y (cond (eqb v y) x v) (eq-eqb v x e)

pub exchanged-second : (x y v : ℕ) → v ≢ x → v ≡ y → exchanged x y v ≡ x
unfolding exchanged
exchanged-second x y v n e = cond-false (eqb v x) y (cond (eqb v y) x v) (ne_eqb v x n) ∙ cond-true (eqb v y) x v (eq-eqb v y e)

pub exchanged-other : (x y v : ℕ) → v ≢ x → v ≢ y → exchanged x y v ≡ v
unfolding exchanged
exchanged-other x y v n n' = cond-false (eqb v x) y (cond (eqb v y) x v) (ne_eqb v x n) ∙ cond-false (eqb v y) x v (ne_eqb v y n')

-- what the exchange makes of a number
exchanged-cases : (x y v : ℕ) → ((v ≡ x) × (exchanged x y v ≡ y)) ⊎ (((v ≢ x) × (v ≡ y) × (exchanged x y v ≡ x)) ⊎ ((v ≢ x) × (v ≢ y) × (exchanged x y v ≡ v)))
exchanged-cases x y v = grind (arith, cases_eq, exchanged-first, exchanged-second, exchanged-other)

-- done twice it does nothing
exchanged-twice : (x y v : ℕ) → x ≢ y → exchanged x y (exchanged x y v) ≡ v
exchanged-twice x y v ne = grind (arith, exchanged-cases, exchanged-second, exchanged-first)

pub exchanged-apart : (x y : ℕ) → x ≢ y → (u v : ℕ) → exchanged x y u ≡ exchanged x y v → u ≡ v
exchanged-apart x y ne u v e = sym (exchanged-twice x y u ne) ∙ (ap (exchanged x y) e ∙ exchanged-twice x y v ne)

pub exchanged-within : (n x y : ℕ) → x < n → y < n → (v : ℕ) → v < n → exchanged x y v < n
exchanged-within n x y lx ly v l = grind (arith, exchanged-cases)
