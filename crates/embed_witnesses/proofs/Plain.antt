-- K5 and K3,3 as witnesses, and how a search for them goes on.
use Rattle.std.proofs.Common.{◌≡◌, ℕ, suc, ◌+◌, ◌-◌, ◌<◌, ◌≤◌, ◌++◌, true, List, [], ◌∷◌, length, Contains, refl, sym, ap, ap₂, ◌∙◌, subst, inl, inr, arith}
use Rattle.std.specs.Prelude.{Result, Ok, Err, Option, Some, None, IfOk, MatchOption}
use Rattle.std.proofs.lemmas.Bool.{cases_eq}
use Rattle.std.proofs.lemmas.Bool.Decides.{nat_tests}
use Rattle.std.proofs.lemmas.List.Elements.{Contains-append_left, Contains-append_right}
use Rattle.std.proofs.lemmas.List.FromFn.{length-map-range_with_len, get_or-map-range_with_len}
use Rattle.map_lists.specs.declared.ids.VertexId.{VertexId}
use Rattle.graphs.specs.Graphs.{EdgeGraph, has_edge}
use Rattle.graphs.proofs.EdgeLemmas.{has_edge-turned}
use Rattle.graphs.proofs.BitLemmas.{below_six}
use Rattle.kuratowski.specs.Witnesses.{branch_count, pair_at, vertex_at, path_at, IsInnerPlace, IsWitness}
use Rattle.kuratowski.specs.declared.witness.Kind.{Kind}
use Rattle.kuratowski.specs.declared.witness.Kind.TheVariants.{K5, K33}
use Rattle.kuratowski.specs.declared.witness.Witness.{Witness}
use Rattle.embed_contraction.specs.Traces.{path_count}
use Rattle.embed_contraction.proofs.Numbers.{each_of_one, each_of_two, each_of_three, each_of_four, each_of_five}
use Rattle.embed_contraction.proofs.Traces.{length-vertices_of, vertex_at-vertices_of, pairs_within}
use Rattle.embed_contraction.proofs.Lifted.{on_path}
use Rattle.embed_witnesses.specs.Kept.{IsPlain}
use Rattle.embed_witnesses.specs.Plain.{chosen_at, plain_branch, plain_path, plain_paths, is_pair, BeginsWith, HasLive}

-- ---- all branches chosen
module _ (graph : EdgeGraph) (kind : Kind) (branch : ℕ → ℕ) (plain : IsPlain graph kind branch) (chosen : List ℕ) (begins : BeginsWith chosen branch) (all : branch_count kind ≤ length chosen) where
  abbrev paths : List (List VertexId)
  paths = plain_paths kind chosen

  is_chosen : (j : ℕ) → j < branch_count kind → chosen_at chosen j ≡ branch j
  is_chosen j l = begins j (omega arith)

  branch_is : (j : ℕ) → j < branch_count kind → vertex_at (plain_branch kind chosen) j ≡ branch j
  branch_is j l = vertex_at-vertices_of (chosen_at chosen) (branch_count kind) j l ∙ is_chosen j l

  size_branch : length (plain_branch kind chosen) ≡ branch_count kind
  size_branch = length-vertices_of (chosen_at chosen) (branch_count kind)

  size_paths : length paths ≡ path_count kind
  size_paths = length-map-range_with_len (plain_path kind chosen) 0 (path_count kind)

  path_is : (p : ℕ) → p < path_count kind → path_at paths p ≡ plain_path kind chosen p
  path_is p l = get_or-map-range_with_len (plain_path kind chosen) 0 (path_count kind) p p [] l (omega arith)

  size_path : (p : ℕ) → p < path_count kind → length (path_at paths p) ≡ 2
  size_path p l = ap (λ (vs : List VertexId). length vs) (path_is p l)

  start_is : (p : ℕ) → p < path_count kind → vertex_at (path_at paths p) 0 ≡ branch (pair_at kind p).0
  start_is p l = ap (λ (vs : List VertexId). vertex_at vs 0) (path_is p l) ∙ is_chosen (pair_at kind p).0 (pairs_within kind p l).0

  end_is : (p : ℕ) → p < path_count kind → vertex_at (path_at paths p) 1 ≡ branch (pair_at kind p).1
  end_is p l = ap (λ (vs : List VertexId). vertex_at vs 1) (path_is p l) ∙ is_chosen (pair_at kind p).1 (pairs_within kind p l).1

  -- a path of two vertices has none inside
  no_inner : (p i : ℕ) → p < path_count kind → IsInnerPlace (path_at paths p) i → ⊥
  no_inner p i l h = let s = size_path p l in let a = h.0 in let b = h.1 in omega arith

  pub is_witness : IsWitness graph kind (plain_branch kind chosen) paths
  is_witness = record {
    shape = record {
      branches = size_branch;
      count = size_paths;
      joined = λ p l.
          let m : p < path_count kind = omega (arith, size_paths) in
          let w = pairs_within kind p m in
          let one : length (path_at paths p) - 1 ≡ 1 = omega (arith, size_path p m) in
          record {
            long = omega arith;
            start = start_is p m ∙ sym (branch_is (pair_at kind p).0 w.0);
            end = ap (vertex_at (path_at paths p)) one ∙ (end_is p m ∙ sym (branch_is (pair_at kind p).1 w.1));
          };
    };
    vertices = λ j l. let n = size_branch in let m : j < branch_count kind = omega arith in subst (λ v. v < graph.n) (sym (branch_is j m)) (plain.vertices j m);
    distinct = λ i j l m e.
        let in_j : j < branch_count kind = omega (arith, size_branch) in
        let in_i : i < branch_count kind = omega arith in
        omega (arith, plain.distinct i j in_i in_j (sym (branch_is i in_i) ∙ (e ∙ branch_is j in_j)));
    edges = λ p i l m.
        let in_p : p < path_count kind = omega (arith, size_paths) in
        let z : i ≡ 0 = omega (arith, size_path p in_p) in
        ap₂ (has_edge graph) (ap (vertex_at (path_at paths p)) z ∙ start_is p in_p) (ap (λ k. vertex_at (path_at paths p) (suc k)) z ∙ end_is p in_p) ∙ plain.joined p in_p;
    no_branch = λ p i j l h m e. let n = size_paths in no_inner p i (omega arith) h;
    once = λ p i j l h m e. let n = size_paths in absurd (no_inner p i (omega arith) h);
    apart = λ p q i j l m h h' e. let n = size_paths in no_inner q j (omega arith) h';
  }

-- ---- one branch more
-- the path of two branches that are to be joined
abbrev HasPath : Kind → ℕ → ℕ → Type 0
HasPath kind i k = (p : ℕ) × (p < path_count kind) × (pair_at kind p ≡ (i, k))

sides : (i k : ℕ) → is_pair K33 i k ≡ true → (i < 3) × (3 ≤ k)
sides i k e = grind (arith, nat_tests)

pair_path : (kind : Kind) (i k : ℕ) → i < k → k < branch_count kind → is_pair kind i k ≡ true → HasPath kind i k
pair_path K5 i k l m e =
    each_of_five (λ k. (i : ℕ) → i < k → HasPath K5 i k)
    (λ i l. absurd (omega arith))
    (each_of_one (λ i. HasPath K5 i 1) (0, omega arith, refl))
    (each_of_two (λ i. HasPath K5 i 2) (1, omega arith, refl) (4, omega arith, refl))
    (each_of_three (λ i. HasPath K5 i 3) (2, omega arith, refl) (5, omega arith, refl) (7, omega arith, refl))
    (each_of_four (λ i. HasPath K5 i 4) (3, omega arith, refl) (6, omega arith, refl) (8, omega arith, refl) (9, omega arith, refl)) k m i l
pair_path K33 i k l m e =
    let s = sides i k e in
    below_six (λ k. 3 ≤ k → (i : ℕ) → i < 3 → HasPath K33 i k)
    (λ l. absurd (omega arith))
    (λ l. absurd (omega arith))
    (λ l. absurd (omega arith))
    (λ _. each_of_three (λ i. HasPath K33 i 3) (0, omega arith, refl) (3, omega arith, refl) (6, omega arith, refl))
    (λ _. each_of_three (λ i. HasPath K33 i 4) (1, omega arith, refl) (4, omega arith, refl) (7, omega arith, refl))
    (λ _. each_of_three (λ i. HasPath K33 i 5) (2, omega arith, refl) (5, omega arith, refl) (8, omega arith, refl)) k m s.1 i s.0

-- a branch is joined to those before it
pub is_joined : (graph : EdgeGraph) (kind : Kind) (branch : ℕ → ℕ) (chosen : List ℕ) (v i : ℕ) → IsPlain graph kind branch → BeginsWith chosen branch → length chosen < branch_count kind → branch (length chosen) ≡ v → i < length chosen → is_pair kind i (length chosen) ≡ true → has_edge graph (chosen_at chosen i) v ≡ true
is_joined graph kind branch chosen v i plain begins m next l e =
    let p = pair_path kind i (length chosen) l m e in
    ap₂ (has_edge graph) (begins i l ∙ ap (λ (q : ℕ × ℕ). branch q.0) (sym p.2)) (sym next ∙ ap (λ (q : ℕ × ℕ). branch q.1) (sym p.2)) ∙ plain.joined p.0 p.1

-- a branch has an edge
pub is_live : (graph : EdgeGraph) (kind : Kind) (branch : ℕ → ℕ) (live : List ℕ) (j : ℕ) → IsPlain graph kind branch → HasLive graph live → j < branch_count kind → Contains live (branch j)
is_live graph kind branch live j plain has l =
    let p = on_path kind j l in
    let e = plain.joined p.0 p.1 in
    elim p.2 [
      | inl q ↦ subst (λ i. Contains live (branch i)) q (has (branch (pair_at kind p.0).0) (branch (pair_at kind p.0).1) e)
      | inr q ↦ subst (λ i. Contains live (branch i)) q (has (branch (pair_at kind p.0).1) (branch (pair_at kind p.0).0) (has_edge-turned graph (branch (pair_at kind p.0).1) (branch (pair_at kind p.0).0) ∙ e))
    ]

-- ---- vertices with edges
-- those below v that have edges are in the list
abbrev pub HasLiveBelow : EdgeGraph → ℕ → List ℕ → Type 0
HasLiveBelow graph v live = (u w : ℕ) → u < v → has_edge graph u w ≡ true → Contains live u

pub more_live : (graph : EdgeGraph) (v : ℕ) (live now : List ℕ) → HasLiveBelow graph v live → now ≡ live ++ v ∷ [] → HasLiveBelow graph (v + 1) now
more_live graph v live now below e u w l edge =
    subst (λ l. Contains l u) (sym e) (elim (cases_eq u v) [
      | inl q ↦ subst (Contains (live ++ v ∷ [])) (sym q) (Contains-append_right live (v ∷ []) v (0, omega arith, refl))
      | inr n ↦ Contains-append_left live (v ∷ []) u (below u w (omega arith) edge)
    ])

pub same_live : (graph : EdgeGraph) (v : ℕ) (live now : List ℕ) → HasLiveBelow graph v live → now ≡ live → ((u : ℕ) → has_edge graph v u ≡ true → ⊥) → HasLiveBelow graph (v + 1) now
same_live graph v live now below e none u w l edge =
    subst (λ l. Contains l u) (sym e) (elim (cases_eq u v) [
      | inl q ↦ absurd (none w (ap (λ x. has_edge graph x w) (sym q) ∙ edge))
      | inr n ↦ below u w (omega arith) edge
    ])

-- ---- answers
pub weaker : {E : Type 0} (result : Result (Option Witness) E) (P Q : Type 0) (S : Witness → Type 0) → (P → Q) → IfOk result (λ found. MatchOption found P S) → IfOk result (λ found. MatchOption found Q S)
weaker (Ok (Some w)) P Q S f h = h
weaker (Ok None) P Q S f h = f h
weaker (Err e) P Q S f h = h
