-- When a graph has a witness, and when one stays.
use Rattle.std.proofs.Common.{◌≡◌, ◌<◌, ◌≤◌, ℕ, Bool, true, false, not, refl, sym, subst, inl, inr, arith}
use Rattle.std.specs.Prelude.{Option, None, MatchOption, IsTrue, ◌↔◌}
use Rattle.std.proofs.lemmas.Bool.{true≢false}
use Rattle.map_lists.specs.Lists.{Lists}
use Rattle.graphs.specs.Graphs.{EdgeGraph, IsGraph}
use Rattle.embed_contraction.specs.Traces.{HasWitness}
use Rattle.embed_theorem.specs.Expanded.{IsMapOf}
use Rattle.embed_theorem.proofs.Refuted.{witnesses_refute}
use Rattle.embed_theorem.proofs.Induction.{map_or_witness}
use Rattle.left_right_lists.specs.Decided.{HasMap}
use Rattle.embed_witnesses.proofs.ContractedLemmas.{edge_within}
use Rattle.embed_witnesses.specs.Kept.{HasPlain, IsKept}
use Rattle.embed_witnesses.proofs.Kept.{plain_or_kept}
use Rattle.embed_graph.specs.Found.{IsTested}
use Rattle.embed_graph.specs.declared.fast_embeddings.Tested.{Tested}
use Rattle.embed_graph.specs.declared.fast_embeddings.Tested.TheVariants.{Map, NoMap}
use Rattle.embed_graph.proofs.Figured.{proper}

-- a map and a witness are not both there
map_refutes : (graph : EdgeGraph) (map : Lists) → IsMapOf map graph → ¬ HasWitness graph
map_refutes graph map of w = witnesses_refute graph w.0 w.1 w.2 w.3 map of.simple of.plane of.edges.all

-- where it is known whether there is a map, it is known whether there is a witness
pub told_by_sides : (graph : EdgeGraph) → IsGraph graph → 0 < graph.n → (planar : Bool) → IsTrue planar ↔ HasMap graph → IsTrue (not planar) ↔ HasWitness graph
told_by_sides graph known some true h = ((λ t. absurd (true≢false (sym t))), λ w. (let m = h.0 refl in absurd (map_refutes graph m.0 m.1 w)))
told_by_sides graph known some false h =
    ((λ t. elim (map_or_witness graph (proper graph known some)) [ inl w ↦ w | inr m ↦ absurd (true≢false (sym (h.1 m))) ]), λ w. refl)

-- a graph that has no map has a witness
pub witness_where_none : (graph : EdgeGraph) → IsGraph graph → 0 < graph.n → ((lists : Lists) → ¬ IsMapOf lists graph) → HasWitness graph
witness_where_none graph known some none = elim (map_or_witness graph (proper graph known some)) [ inl w ↦ w | inr m ↦ absurd (none m.0 m.1) ]

-- whether it has one, by what the test tells
pub told_by_test : (graph : EdgeGraph) (answer : Tested) (map : Lists) → IsTested graph answer → answer ≡ Map map → IsTrue false ↔ HasWitness graph
told_by_test graph answer map h e = ((λ t. absurd (true≢false (sym t))), λ w. absurd (map_refutes graph map (subst (IsTested graph) e h) w))

pub told_by_refusal : (graph : EdgeGraph) (answer : Tested) → IsGraph graph → 3 ≤ graph.n → IsTested graph answer → answer ≡ NoMap → IsTrue true ↔ HasWitness graph
told_by_refusal graph answer known some h e = ((λ t. witness_where_none graph known (omega (arith, some)) (subst (IsTested graph) e h)), λ w. refl)

-- the ends of an edge that keeps a witness are vertices
pub kept_within : (graph : EdgeGraph) (a b : ℕ) → IsGraph graph → IsKept graph a b → (a < graph.n) × (b < graph.n)
kept_within graph a b known kept = edge_within graph known.edges a b kept.joined

-- where no edge keeps a witness, single edges are one
pub plain_where_none : (graph : EdgeGraph) → IsGraph graph → HasWitness graph → ((a b : ℕ) → ¬ IsKept graph a b) → HasPlain graph
plain_where_none graph known w none = elim (plain_or_kept graph known w) [ inl p ↦ p | inr k ↦ absurd (none k.0 k.1 k.2) ]

-- it is not so that neither is found
pub one_is_found : {A B : Type 0} (graph : EdgeGraph) (edge : Option A) (witness : Option B) (P : A → Type 0) (Q : B → Type 0) → IsGraph graph → HasWitness graph → MatchOption edge ((a b : ℕ) → ¬ IsKept graph a b) P → edge ≡ None → MatchOption witness (¬ HasPlain graph) Q → witness ≡ None → ⊥
one_is_found graph edge witness P Q known has none e no_plain e' =
    subst (λ o. MatchOption o (¬ HasPlain graph) Q) e' no_plain (plain_where_none graph known has (subst (λ o. MatchOption o ((a b : ℕ) → ¬ IsKept graph a b) P) e none))
