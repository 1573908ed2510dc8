-- Edges of a graph with the ends of an edge merged, and numbers as they were.
use Rattle.std.proofs.Common.{◌≡◌, ◌≢◌, ◌&&◌, ◌||◌, ◌-◌, ◌<◌, ◌≤◌, not, eqb, Bool, true, ℕ, List, map, sym, ap₂, ◌∙◌, subst, inl, inr, arith, eq-eqb, ne_eqb}
use Rattle.std.specs.List.{range_with_len}
use Rattle.std.proofs.lemmas.Bool.{cases_lt, and_from, and_parts, or_cases, or_left, or_right, eqb-true, eqb-false, not-true}
use Rattle.std.proofs.lemmas.Bool.Decides.{nat_tests}
use Rattle.std.proofs.lemmas.List.{get_or_past}
use Rattle.std.proofs.lemmas.List.FromFn.{length-map-range_with_len, get_or-map-range_with_len}
use Rattle.graphs.specs.Graphs.{Edge, EdgeGraph, IsGraph, has_edge}
use Rattle.graphs.proofs.EdgeLemmas.{has_edge-turned, joined_is}
use Rattle.embed_contraction.specs.Contracted.{before_left, contracted_edge}
use Rattle.embed_witnesses.specs.ContractedEdges.{contraction}
use Rattle.embed_witnesses.proofs.ContractedLemmas.{AreEdges-filter, joined-filter, edge_within, IsContraction-contraction}
use Rattle.kuratowski.specs.Witnesses.{IsWitness}
use Rattle.kuratowski.specs.declared.witness.Witness.{Witness}
use Rattle.embed_witnesses.specs.Renamed.{named, renamed_list, IsRenamed, KeepsEdges}
use Rattle.embed_witnesses.proofs.RenamedLemmas.{renamed_witness}
use Rattle.embed_witnesses.specs.Merged.{merged_edge, merged, old_number, MergedIsContracted}
use Rattle.embed_witnesses.proofs.Contracted.{before-not, before-first}

-- ---- numbers as they were
abbrev pub table : ℕ → ℕ → List ℕ
table n b = map (old_number n b) (range_with_len 0 n)

named-here : (n b v : ℕ) → v < n → named (table n b) v ≡ old_number n b v
named-here n b v l = get_or-map-range_with_len (old_number n b) 0 n v v v l (omega arith)

named-past : (n b v : ℕ) → n ≤ v → named (table n b) v ≡ v
named-past n b v l =
    get_or_past (table n b) v v (omega (arith, length-map-range_with_len (old_number n b) 0 n))

old_number-lt : (n b v : ℕ) → b < n → v < n → old_number n b v < n
old_number-lt n b v l m = grind (arith, nat_tests)

old_number-apart : (n b u v : ℕ) → b < n → u < n → v < n → old_number n b u ≡ old_number n b v → u ≡ v
old_number-apart n b u v l lu lv e = grind (arith, nat_tests)

old_number-before : (n b v : ℕ) → v < n - 1 → old_number n b v ≡ before_left b v
old_number-before n b v l = grind (arith, nat_tests)

named-apart : (n b u v : ℕ) → b < n → named (table n b) u ≡ named (table n b) v → u ≡ v
named-apart n b u v l e = grind (arith, cases_lt, old_number-apart, named-here, named-past, old_number-lt)

named-lt : (n b v : ℕ) → b < n → v < n → named (table n b) v < n
named-lt n b v l m = let x = named-here n b v m in let z = old_number-lt n b v l m in omega arith

-- ---- edges
merged_edge-turned : (graph : EdgeGraph) (a b u v : ℕ) → merged_edge graph a b u v ≡ true → merged_edge graph a b v u ≡ true
merged_edge-turned graph a b u v t = grind (arith, has_edge, eqb, and_parts, not, and_from, or_cases, or_left, or_right, has_edge-turned)

-- an edge of the merged graph passes the test
pub merged-edge : (graph : EdgeGraph) (a b u v : ℕ) → has_edge (merged graph a b) u v ≡ true → merged_edge graph a b u v ≡ true
merged-edge graph a b u v e =
    let small = merged graph a b in
    let test : Edge → Bool = λ e. merged_edge graph a b e.0 e.1 in
    let are = AreEdges-filter graph.n test in
    let l = edge_within small are u v e in
    elim (cases_lt u v) [
      | inl less ↦ sym (joined-filter graph.n test u v less l.1) ∙ e
      | inr not_less ↦ elim (cases_lt v u) [
        | inl more ↦ merged_edge-turned graph a b v u (sym (joined-filter graph.n test v u more l.0) ∙ (has_edge-turned small v u ∙ e))
        | inr not_more ↦ (let j = joined_is graph.n u v small.edges are not_more e in absurd (omega (arith, j)))
      ]
    ]

-- and what passes between two different vertices is one
pub edge-merged : (graph : EdgeGraph) (a b u v : ℕ) → u < graph.n → v < graph.n → u ≢ v → merged_edge graph a b u v ≡ true → has_edge (merged graph a b) u v ≡ true
edge-merged graph a b u v lu lv ne t =
    let test : Edge → Bool = λ e. merged_edge graph a b e.0 e.1 in
    elim (cases_lt u v) [
      | inl less ↦ joined-filter graph.n test u v less lv ∙ t
      | inr not_less ↦ has_edge-turned (merged graph a b) u v ∙ (joined-filter graph.n test v u (omega arith) lu ∙ merged_edge-turned graph a b u v t)
    ]

-- THE LAW: it stands for the contracted graph
pub merged_is_contracted : MergedIsContracted
merged_is_contracted graph a b = record {
  within = λ v l. l;
  apart = λ u v e. e;
  off = λ u v e.
      let t = merged-edge graph a b u v e in
      let p = (and_parts (not (eqb u b) && not (eqb v b)) (has_edge graph u v || (eqb u a && has_edge graph b v) || (eqb v a && has_edge graph u b)) t).0 in
      eqb-false u b (not-true (eqb u b) (and_parts (not (eqb u b)) (not (eqb v b)) p).0);
  edges = λ u v e.
      let t = merged-edge graph a b u v e in
      let Y = eqb u a && has_edge graph b v in
      let Z = eqb v a && has_edge graph u b in
      grind (arith, or_cases, has_edge, and_parts, not, eqb, eqb-true);
}

-- an edge of the contracted graph is one of the merged
kept : (graph : EdgeGraph) (a b u v : ℕ) → a < b → contracted_edge graph a b u v ≡ true → merged_edge graph a b (before_left b u) (before_left b v) ≡ true
kept graph a b u v a_b t = grind (arith, before_left, has_edge, eqb, before-first, and_from, not, ne_eqb, before-not, or_cases, and_parts, or_right, eq-eqb)

-- THE LAW: old numbers keep the edges
pub keeps_edges : (graph : EdgeGraph) (a b : ℕ) → IsGraph graph → a < b → has_edge graph a b ≡ true → KeepsEdges (contraction graph a b) (merged graph a b) (named (table graph.n b))
keeps_edges graph a b is a_b joined =
    let n = graph.n in
    let in_b = (edge_within graph is.edges a b joined).1 in
    let to : ℕ → ℕ = λ v. named (table n b) v in
    let of = IsContraction-contraction graph a b (omega arith) in
    record {
      within = λ v l. named-lt n b v in_b (omega arith);
      apart = λ u v e. named-apart n b u v in_b e;
      edges = λ u v e.
          let l = of.within u v e in
          let t = sym (of.edges u v l.0 l.1) ∙ e in
          let ne = eqb-false u v (not-true (eqb u v) (and_parts (not (eqb u v)) (has_edge graph (before_left b u) (before_left b v) || (eqb u a && has_edge graph b (before_left b v)) || (eqb v a && has_edge graph (before_left b u) b)) t).0) in
          let at_u : to u ≡ before_left b u = named-here n b u (omega arith) ∙ old_number-before n b u l.0 in
          let at_v : to v ≡ before_left b v = named-here n b v (omega arith) ∙ old_number-before n b v l.1 in
          edge-merged graph a b (to u) (to v) (named-lt n b u in_b (omega arith)) (named-lt n b v in_b (omega arith)) (λ q. ne (named-apart n b u v in_b q)) (ap₂ (merged_edge graph a b) at_u at_v ∙ kept graph a b u v a_b t);
    }

-- a witness renamed by a table that keeps the edges
pub witness-by : (one other : EdgeGraph) (ws : List ℕ) (old new : Witness) → KeepsEdges one other (named ws) → IsWitness one old.kind old.branch old.paths → IsRenamed (named ws) old new → IsWitness other new.kind new.branch new.paths
witness-by one other ws old new keeps w r =
    let made = renamed_witness one other (named ws) old.kind old.branch old.paths keeps w in
    subst (λ k. IsWitness other k new.branch new.paths) (sym r.kind)
    (subst (λ bs. IsWitness other old.kind bs new.paths) (sym r.branch)
    (subst (λ ps. IsWitness other old.kind (renamed_list (named ws) old.branch) ps) (sym r.paths) made))

-- so a witness on old numbers is one of the merged graph
pub old_numbers-witness : (graph : EdgeGraph) (a b : ℕ) → IsGraph graph → a < b → has_edge graph a b ≡ true → (ws : List ℕ) → ws ≡ table graph.n b → (small new : Witness) → IsWitness (contraction graph a b) small.kind small.branch small.paths → IsRenamed (named ws) small new → IsWitness (merged graph a b) new.kind new.branch new.paths
old_numbers-witness graph a b is a_b joined ws e small new w r =
    witness-by (contraction graph a b) (merged graph a b) ws small new (subst (λ t. KeepsEdges (contraction graph a b) (merged graph a b) (named t)) (sym e) (keeps_edges graph a b is a_b joined)) w r
