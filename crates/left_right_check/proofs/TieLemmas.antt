-- Sides of edges, by a fork, by others, and that no map is left.
use Rattle.std.proofs.Common.{◌≡◌, ◌≢◌, ℕ, zero, suc, ◌-◌, ◌<◌, ◌≤◌, Bool, true, false, not, List, length, slice_index, refl, sym, ap, ◌∙◌, inl, inr, arith}
use Rattle.std.proofs.lemmas.List.{get_or_past}
use Rattle.map_lists.specs.Lists.{Lists}
use Rattle.map_theory.specs.Maps.{HasDart}
use Rattle.graphs.specs.Graphs.{EdgeGraph}
use Rattle.left_right_laws.specs.Forests.{up, IsForest, IsAbove, IsBranch, IsReturn, IsLeftRight}
use Rattle.left_right_laws.proofs.Forks.{plane_is_left_right}
use Rattle.embed_theorem.specs.Expanded.{HasJustEdges}
use Rattle.left_right_check.specs.Ties.{IsJoined, IsForestOf, ReturnsBy, turned, AreTied, HasNoMap}
use Rattle.std.specs.Prelude.{◌+◌}
use Rattle.std.proofs.Math.Bool.{not-not}

-- by tables of parents and depths, a vertex is a root, or is adjacent to its parent and deeper by one
abbrev pub IsPlaced : EdgeGraph → List ℕ → List ℕ → ℕ → Type 0
IsPlaced graph parents depths v =
    0 < slice_index depths v → IsJoined graph v (slice_index parents v) × (slice_index depths v ≡ slice_index depths (slice_index parents v) + 1)

-- one step up behind k
pub up-suc : (parent : ℕ → ℕ) (k v : ℕ) → up parent (suc k) v ≡ parent (up parent k v)
up-suc parent zero v = refl
up-suc parent (suc k) v = up-suc parent k (parent v)

-- a forest is one where each vertex is placed
pub forest_by_places : (graph : EdgeGraph) (parents depths : List ℕ) → ((v : ℕ) → IsPlaced graph parents depths v) → IsForestOf graph parents depths
forest_by_places graph parents depths placed = record { edges = λ v some. (placed v some).0; deeper = λ v some. (placed v some).1 }

-- a vertex behind the end of the tables is a root
pub placed_past : (graph : EdgeGraph) (parents depths : List ℕ) (v : ℕ) → length depths ≤ v → IsPlaced graph parents depths v
placed_past graph parents depths v past some = absurd (omega (arith, get_or_past depths v 0 past))

-- a way up that leads to a branch's end, from which the next step leads to its vertex
pub branch_is : (parents depths : List ℕ) (v e t w : ℕ) → slice_index depths v < slice_index depths t → up (slice_index parents) (slice_index depths t - slice_index depths v - 1) t ≡ e → slice_index parents e ≡ v → IsAbove (slice_index parents) (slice_index depths) v t × IsBranch (slice_index parents) (slice_index depths) v e t w
branch_is parents depths v e t w below way last =
    let k : slice_index depths t - slice_index depths v ≡ suc (slice_index depths t - slice_index depths v - 1) = omega arith in
    let line : up (slice_index parents) (slice_index depths t - slice_index depths v) t ≡ v = ap (λ k. up (slice_index parents) k t) k ∙ (up-suc (slice_index parents) (slice_index depths t - slice_index depths v - 1) t ∙ (ap (slice_index parents) way ∙ last)) in
    (record { depths = omega (arith, below); line = line }, inr (λ same. omega (arith, ap (slice_index depths) same, below), sym way))

-- an edge from a branch's vertex itself
pub branch_at : (parents depths : List ℕ) (v e t w : ℕ) → t ≡ v → w ≡ e → IsAbove (slice_index parents) (slice_index depths) v t × IsBranch (slice_index parents) (slice_index depths) v e t w
branch_at parents depths v e t w here end =
    let depth : slice_index depths t ≡ slice_index depths v = ap (slice_index depths) here in
    let none : slice_index depths t - slice_index depths v ≡ 0 = omega (arith, depth) in
    (record { depths = omega (arith, depth); line = ap (λ k. up (slice_index parents) k t) none ∙ here }, inl (here, sym end))

-- ---- sides by a fork
pub alike_by_fork : (graph : EdgeGraph) (parents depths : List ℕ) (v e f t w s z l h : ℕ) → e ≢ f → ReturnsBy graph parents depths v e t w → ReturnsBy graph parents depths v e s z → ReturnsBy graph parents depths v f l h → slice_index depths h < slice_index depths w → slice_index depths h < slice_index depths z → AreTied graph parents depths false t w s z
alike_by_fork graph parents depths v e f t w s z l h apart one other low above above' left sides =
    let at = sides v e f apart in
    (at.1 t w l h one low).0 above ∙ sym ((at.1 s z l h other low).0 above')

pub opposite_by_fork : (graph : EdgeGraph) (parents depths : List ℕ) (v e f t w s z l h k g : ℕ) → e ≢ f → ReturnsBy graph parents depths v e t w → ReturnsBy graph parents depths v f s z → ReturnsBy graph parents depths v e k g → ReturnsBy graph parents depths v f l h → slice_index depths h < slice_index depths w → slice_index depths g < slice_index depths z → AreTied graph parents depths true t w s z
opposite_by_fork graph parents depths v e f t w s z l h k g apart one other low low' above above' left sides =
    let at = sides v e f apart in
    (at.1 t w l h one low').0 above ∙ (sym (not-not at.0) ∙ ap not (sym ((at.1 k g s z low other).1 above')))

-- ---- chains of them
turned_turned : (a b side : Bool) → turned a (turned b side) ≡ turned (turned b a) side
turned_turned true true side = not-not side
turned_turned true false side = refl
turned_turned false true side = refl
turned_turned false false side = refl

-- one edge more
pub AreTied-more : (graph : EdgeGraph) (parents depths : List ℕ) (a b : Bool) (t w s z l h : ℕ) → AreTied graph parents depths a t w s z → AreTied graph parents depths b s z l h → AreTied graph parents depths (turned b a) t w l h
AreTied-more graph parents depths a b t w s z l h one two left sides = one left sides ∙ (ap (turned a) (two left sides) ∙ turned_turned a b (left l h))

-- turned round
pub AreTied-sym : (graph : EdgeGraph) (parents depths : List ℕ) (turn : Bool) (t w s z : ℕ) → AreTied graph parents depths turn t w s z → AreTied graph parents depths turn s z t w
AreTied-sym graph parents depths true t w s z tied left sides = sym (not-not (left s z)) ∙ ap not (sym (tied left sides))
AreTied-sym graph parents depths false t w s z tied left sides = sym (tied left sides)

-- ---- no map
-- a partition for lists is one for the graph
sides_of_graph : (graph : EdgeGraph) (lists : Lists) (parent depth : ℕ → ℕ) (left : ℕ → ℕ → Bool) → HasJustEdges lists graph → IsLeftRight (HasDart lists) parent depth left → IsLeftRight (IsJoined graph) parent depth left
sides_of_graph graph lists parent depth left just sides v e f apart =
    let lifted : (e t w : ℕ) → IsReturn (IsJoined graph) parent depth v e t w → IsReturn (HasDart lists) parent depth v e t w = λ e t w r. record { edge = just.all t w r.edge; higher = r.higher; above = r.above; under = r.under; branch = r.branch; away = r.away } in
    let at = sides v e f apart in
    (at.0, λ t w s z one other. at.1 t w s z (lifted e t w one) (lifted f s z other))

no_fixed : (b : Bool) → b ≡ not b → ⊥
no_fixed true e = cc
no_fixed false e = cc

-- two edges that would have to be on one side and on different ones
pub HasNoMap-odd : (graph : EdgeGraph) (parents depths : List ℕ) (t w s z : ℕ) → IsForestOf graph parents depths → AreTied graph parents depths true t w s z → AreTied graph parents depths false t w s z → HasNoMap graph
HasNoMap-odd graph parents depths t w s z forest apart alike lists map =
    let grown : IsForest (HasDart lists) (slice_index parents) (slice_index depths) = record { edges = λ v some. map.edges.all v (slice_index parents v) (forest.edges v some); deeper = forest.deeper } in
    let found = plane_is_left_right lists (slice_index parents) (slice_index depths) map.simple map.plane grown in
    let sides = sides_of_graph graph lists (slice_index parents) (slice_index depths) found.0 map.edges found.1 in
    no_fixed (found.0 s z) (sym (alike found.0 sides) ∙ apart found.0 sides)
