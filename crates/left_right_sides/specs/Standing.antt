-- Parts of a tree as stacks of blocks hold them, where the last vertices of the search's order are done.
use Rattle.std.specs.Prelude.{ℕ, ◌+◌, ◌<◌, ◌≤◌, ◌≡◌, ◌≢◌, ◌⊎◌, ◌↔◌, Bool, true, not, List, [], ◌∷◌, Contains, Option, Some, None}
use Rattle.map_theory.specs.Maps.{Dart}
use Rattle.left_right_laws.specs.Forests.{IsReturn}
use Rattle.left_right_maps.specs.Orders.{IsEdge}
use Rattle.left_right_maps.specs.Trees.{IsDepthFirstTree}
use Rattle.left_right_blocks.specs.Blocks.{Block, edges_in, IsPart}
use Rattle.left_right_blocks.specs.States.{Obeys}
use Rattle.left_right_blocks.specs.Forks.{IsFork, IsForkEdge, AreNested}
use Rattle.left_right_blocks.specs.declared.fork_edges.ForkEdge.{ForkEdge}
use Rattle.left_right_blocks.specs.declared.ties.Tie.{Tie}
use Rattle.left_right_sides.specs.Outs.{IsOut}

-- A graph with a rooted tree, and the edges that lead upwards, by number, with the depth at which each ends.
pub record Rooted : Type 0 where
  pub n : ℕ
  pub m : ℕ
  pub edge : ℕ → ℕ → Bool
  pub parent : ℕ → ℕ
  pub depth : ℕ → ℕ
  pub number : ℕ → ℕ
  pub dart : ℕ → Dart
  pub height : ℕ → ℕ

-- edge x returns from v by v's edge to e
abbrev pub Returned : Rooted → ℕ → ℕ → ℕ → Type 0
Returned r v e x =
    (x < r.m) × IsReturn (IsEdge r.edge) r.parent r.depth v e (r.dart x).0 (r.dart x).1

-- edge x returns from v, or from below it to above it
abbrev pub OutOf : Rooted → ℕ → ℕ → Type 0
OutOf r v x = (x < r.m) × IsOut r.edge r.parent r.depth v (r.dart x).0 (r.dart x).1

-- the demands of all forks of v are met
abbrev pub MeetsAt : Rooted → (ℕ → Bool) → ℕ → Type 0
MeetsAt r side v =
    (e f : ℕ) → e ≢ f → (s : Bool) × ((x y : ℕ) → Returned r v e x → Returned r v f y → (r.height y < r.height x → side x ≡ s) × (r.height x < r.height y → side y ≡ not s))

-- u is a child of v
abbrev pub IsChildOf : Rooted → ℕ → ℕ → Type 0
IsChildOf r v u = (u < r.n) × ((0 < r.depth u) × (r.parent u ≡ v))

-- the blocks of an edge alone
abbrev pub alone : ℕ → List Block
alone x = (record { one = x ∷ []; other = [] }) ∷ []

-- a stack has all that returns from a vertex and from below it, of which the least deep ends at a depth
pub record IsPartOf (r : Rooted) (u low : ℕ) (bs : List Block) : Type 0 where
  pub part : IsPart r.height low bs
  pub held : (x : ℕ) → Contains (edges_in bs) x ↔ OutOf r u x
  pub met : (x : ℕ) → OutOf r u x → (y : ℕ) × (OutOf r u y × (r.height y ≡ low))

-- the last k vertices are done: stack m + u has the part of u until u's parent is done, and sides are as blocks and ties have them just where they meet the forks of these vertices
pub record IsStanding (r : Rooted) (k : ℕ) (low : ℕ → ℕ) (P : ℕ → List Block) (ties : List Tie) : Type 0 where
  pub top : (u : ℕ) → u < r.n → r.n ≤ r.number u + k → (0 < r.depth u → r.number (r.parent u) + k < r.n) → IsPartOf r u (low u) (P (r.m + u))
  pub early : (u : ℕ) → u < r.n → r.number u + k < r.n → P (r.m + u) ≡ []
  pub gone : (u : ℕ) → u < r.n → 0 < r.depth u → r.n ≤ r.number (r.parent u) + k → P (r.m + u) ≡ []
  pub fresh : (x : ℕ) → x < r.m → r.number (r.dart x).0 + k < r.n → P x ≡ alone x
  pub edge : (x : ℕ) → x < r.m → (P x ≡ alone x) ⊎ (P x ≡ [])
  pub past : (p : ℕ) → r.m + r.n ≤ p → P p ≡ []
  pub obeys : (side : ℕ → Bool) → Obeys side P ties ↔ ((v : ℕ) → v < r.n → r.n ≤ r.number v + k → MeetsAt r side v)

-- a stack may have what returns by an edge of v: that of an edge that goes upwards from v, or that of a child
abbrev pub IsStackOf : Rooted → ℕ → ℕ → Type 0
IsStackOf r v p =
    ((p < r.m) × (((r.dart p).0 ≡ v) × ((r.dart p).1 ≢ r.parent v))) ⊎ ((u : ℕ) × ((p ≡ r.m + u) × IsChildOf r v u))

-- The children's parts were trimmed, and these are the edges of v by which some return.
pub record IsForkAt (r : Rooted) (v : ℕ) (P new : ℕ → List Block) (ds : List ForkEdge) : Type 0 where
  pub others : (p : ℕ) → ((u : ℕ) → IsChildOf r v u → p ≢ r.m + u) → new p ≡ P p
  pub trimmed : (u : ℕ) → IsChildOf r v u → (x : ℕ) → Contains (edges_in (new (r.m + u))) x ↔ (Contains (edges_in (P (r.m + u))) x × (r.height x < r.depth v))
  pub fork : IsFork r.height (r.m + v) new ds
  pub kinds : (d : ForkEdge) → Contains ds d → IsStackOf r v d.stack
  pub all : (p : ℕ) → IsStackOf r v p → (new p ≡ []) ⊎ ((d : ForkEdge) × (Contains ds d × (d.stack ≡ p)))

-- v is the vertex before the last k of the search's order
abbrev pub IsNext : Rooted → ℕ → ℕ → Type 0
IsNext r k v = (v < r.n) × (r.number v + (k + 1) ≡ r.n)

-- with some stacks of v left to look at: the other children's parts were trimmed, and these are the edges of v by which some return
pub record IsForkTo (r : Rooted) (v : ℕ) (P new : ℕ → List Block) (ties0 ties : List Tie) (ds : List ForkEdge) (left : List ℕ) : Type 0 where
  pub others : (p : ℕ) → ((u : ℕ) → IsChildOf r v u → ¬ Contains left (r.m + u) → p ≢ r.m + u) → new p ≡ P p
  pub trimmed : (u : ℕ) → IsChildOf r v u → ¬ Contains left (r.m + u) → (x : ℕ) → Contains (edges_in (new (r.m + u))) x ↔ (Contains (edges_in (P (r.m + u))) x × (r.height x < r.depth v))
  pub are : (d : ForkEdge) → Contains ds d → IsForkEdge r.height new d
  pub kinds : (d : ForkEdge) → Contains ds d → IsStackOf r v d.stack × (¬ Contains left d.stack)
  pub nested : AreNested ds
  pub all : (p : ℕ) → ¬ Contains left p → IsStackOf r v p → (new p ≡ []) ⊎ ((d : ForkEdge) × (Contains ds d × (d.stack ≡ p)))
  pub told : (side : ℕ → Bool) → Obeys side P ties0 ↔ Obeys side new ties

-- what became of a child's part: it was trimmed, and has an edge or none
abbrev pub MatchChild : Rooted → ℕ → (ℕ → List Block) → Option ForkEdge → Type 0
MatchChild r stack new None = new stack ≡ []
MatchChild r stack new (Some d) = (d.stack ≡ stack) × IsForkEdge r.height new d

-- A depth-first tree of a graph with all edges that lead upwards, each once, and with numbers by which each vertex comes behind its parent.
pub record IsSearchTree (r : Rooted) (root : ℕ) : Type 0 where
  pub tree : IsDepthFirstTree r.n r.edge r.parent r.depth root
  pub upward : (x : ℕ) → x < r.m → (r.edge (r.dart x).0 (r.dart x).1 ≡ true) × (r.depth (r.dart x).1 < r.depth (r.dart x).0)
  pub only : (x y : ℕ) → x < r.m → y < r.m → r.dart x ≡ r.dart y → x ≡ y
  pub all_edges : (t w : ℕ) → r.edge t w ≡ true → r.depth w < r.depth t → (x : ℕ) × ((x < r.m) × (r.dart x ≡ (t, w)))
  pub rising : (u : ℕ) → 0 < r.depth u → r.number (r.parent u) < r.number u
  pub apart : (u v : ℕ) → u < r.n → v < r.n → r.number u ≡ r.number v → u ≡ v
  pub numbered : (u : ℕ) → u < r.n → r.number u < r.n
  pub height_is : (x : ℕ) → x < r.m → r.height x ≡ r.depth (r.dart x).1

-- all forks are met
abbrev pub MeetsAll : Rooted → (ℕ → Bool) → Type 0
MeetsAll r side = (v : ℕ) → v < r.n → MeetsAt r side v
