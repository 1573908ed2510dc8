-- The edges of a graph with an edge contracted.
use Rattle.std.proofs.Common.{◌≡◌, ◌<◌, ◌++◌, ◌∷◌, ◌+◌, ◌-◌, ◌&&◌, ◌||◌, ◌==◌, not, Bool, true, false, [], ℕ, List, map, refl, ap, ap₂, sym, ◌∙◌, subst, inl, inr, arith, eq-eqb}
use Rattle.std.specs.List.{filter, list_any, range_with_len, flat_map}
use Rattle.std.proofs.Math.Bool.{or_comm}
use Rattle.std.proofs.lemmas.Bool.{cases_lt}
use Rattle.std.proofs.lemmas.Bool.Decides.{nat_tests}
use Rattle.std.proofs.lemmas.Grind.{flat_map-append}
use Rattle.std.proofs.lemmas.List.{append_assoc, append-nil, map-id}
use Rattle.std.proofs.lemmas.List.Elements.{filter-append}
use Rattle.std.proofs.lemmas.List.FromFn.{map-range_with_len_more}
use Rattle.std.proofs.lemmas.List.Kept.{AllPairs-filter}
use Rattle.std.specs.Cmp.{both_ways}
use Rattle.graphs.specs.Graphs.{Edge, EdgeGraph, AreEdges, ComesBefore, has_edge, joins}
use Rattle.graphs.specs.Bits.{pairs, pairs_of}
use Rattle.graphs.proofs.PairLemmas.{All-from_Contains, Contains-filter, Contains-unfilter, pairs-have, pairs-hold, pairs-rising}
use Rattle.graphs.proofs.EdgeLemmas.{has_edge-turned, joined_is, joined_by, joined_no_pair}
use Rattle.embed_contraction.specs.Contracted.{before_left, contracted_edge, IsContraction}
use Rattle.embed_witnesses.specs.ContractedEdges.{contracted_among, contraction}

-- the pairs of u with the numbers from the next to before v
abbrev pub row : ℕ → ℕ → List Edge
row u v = map (λ b. (u, b)) (range_with_len (u + 1) (v - (u + 1)))

-- one pair more
pub row-more : (graph : EdgeGraph) (a b u v : ℕ) (old now new : List Edge) → u < v → now ≡ old ++ contracted_among graph a b (row u v) → new ≡ now ++ contracted_among graph a b ((u, v) ∷ []) → new ≡ old ++ contracted_among graph a b (row u (v + 1))
row-more graph a b u v old now new l e f =
    let test : Edge → Bool = λ e. contracted_edge graph a b e.0 e.1 in
    let s : v + 1 - (u + 1) ≡ v - (u + 1) + 1 = omega arith in
    let longer : row u (v + 1) ≡ row u v ++ (u, v) ∷ [] = ap (λ k. map (λ (b : ℕ). let p : Edge = (u, b) in p) (range_with_len (u + 1) k)) s ∙ map-range_with_len_more (λ (b : ℕ). let p : Edge = (u, b) in p) (u + 1) (v - (u + 1)) v (omega arith) in
    f ∙ (ap (λ (es : List Edge). es ++ contracted_among graph a b ((u, v) ∷ [])) e
    ∙ (append_assoc old (contracted_among graph a b (row u v)) (contracted_among graph a b ((u, v) ∷ []))
    ∙ ap (λ (es : List Edge). old ++ es) (sym (ap (contracted_among graph a b) longer ∙ filter-append test (row u v) ((u, v) ∷ [])))))

-- one row more
pub rows-more : (graph : EdgeGraph) (a b n u : ℕ) (now new : List Edge) → now ≡ contracted_among graph a b (flat_map (pairs_of n) (range_with_len 0 u)) → new ≡ now ++ contracted_among graph a b (pairs_of n u) → new ≡ contracted_among graph a b (flat_map (pairs_of n) (range_with_len 0 (u + 1)))
rows-more graph a b n u now new e f =
    let test : Edge → Bool = λ e. contracted_edge graph a b e.0 e.1 in
    let longer : range_with_len 0 (u + 1) ≡ range_with_len 0 u ++ u ∷ [] = sym (map-id (range_with_len 0 (u + 1))) ∙ (map-range_with_len_more (λ (x : ℕ). x) 0 u u (omega arith) ∙ ap (λ (xs : List ℕ). xs ++ u ∷ []) (map-id (range_with_len 0 u))) in
    let last : flat_map (pairs_of n) (u ∷ []) ≡ pairs_of n u = append-nil (pairs_of n u) in
    let rows = ap (flat_map (pairs_of n)) longer ∙ (flat_map-append (pairs_of n) (range_with_len 0 u) (u ∷ []) ∙ ap (λ (es : List Edge). flat_map (pairs_of n) (range_with_len 0 u) ++ es) last) in
    f ∙ (ap (λ (es : List Edge). es ++ contracted_among graph a b (pairs_of n u)) e
    ∙ sym (ap (contracted_among graph a b) rows ∙ filter-append test (flat_map (pairs_of n) (range_with_len 0 u)) (pairs_of n u)))

-- ---- the pairs below n that pass a test are edges
pub AreEdges-filter : (n : ℕ) (test : Edge → Bool) → AreEdges n (filter test (pairs n))
AreEdges-filter n test = record {
  ends = All-from_Contains (λ (e : Edge). (e.0 < e.1) × (e.1 < n)) (filter test (pairs n)) (λ e h. pairs-have n e (Contains-unfilter test (pairs n) e h).0);
  rising = AllPairs-filter ComesBefore test (pairs n) (pairs-rising n);
}

-- and join their ends
pub joined-filter : (n : ℕ) (test : Edge → Bool) (u v : ℕ) → u < v → v < n → list_any (joins u v) (filter test (pairs n)) ≡ test (u, v)
joined-filter n test u v l m =
    both_ways (list_any (joins u v) (filter test (pairs n))) (test (u, v))
    (λ h. (Contains-unfilter test (pairs n) (u, v) (joined_is n u v (filter test (pairs n)) (AreEdges-filter n test) (omega arith) h).0).1)
    (λ h. joined_by u v (filter test (pairs n)) (Contains-filter test (pairs n) (u, v) (pairs-hold n u v l m) h))

-- ---- the edges of the contracted graph
or_swap : (p x y : Bool) → (p || x || y) ≡ (p || y || x)
or_swap true x y = refl
or_swap false x y = or_comm x y

eqb-turned : (u v : ℕ) → (u == v) ≡ (v == u)
eqb-turned u v = grind (arith, nat_tests)

pub contracted_edge-turned : (graph : EdgeGraph) (a b u v : ℕ) → contracted_edge graph a b u v ≡ contracted_edge graph a b v u
contracted_edge-turned graph a b u v =
    let U = before_left b u in
    let V = before_left b v in
    let rest = ap₂ ◌||◌ (ap₂ ◌||◌ (has_edge-turned graph U V) (ap (λ t. (u == a) && t) (has_edge-turned graph b V))) (ap (λ t. (v == a) && t) (has_edge-turned graph U b)) in
    ap₂ ◌&&◌ (ap not (eqb-turned u v)) (rest ∙ or_swap (has_edge graph V U) ((u == a) && has_edge graph V b) ((v == a) && has_edge graph b U))

contracted_edge-loop : (graph : EdgeGraph) (a b u : ℕ) → contracted_edge graph a b u u ≡ false
contracted_edge-loop graph a b u = ap (λ t. not t && (has_edge graph (before_left b u) (before_left b u) || ((u == a) && has_edge graph b (before_left b u)) || ((u == a) && has_edge graph (before_left b u) b))) (eq-eqb u u refl)

-- an edge joins two vertices
pub edge_within : (graph : EdgeGraph) → AreEdges graph.n graph.edges → (u v : ℕ) → has_edge graph u v ≡ true → (u < graph.n) × (v < graph.n)
edge_within graph are u v e =
    elim (cases_lt v u) [
      | inl l ↦ let j = joined_is graph.n v u graph.edges are (omega arith) (has_edge-turned graph v u ∙ e) in (j.2, omega (arith, j))
      | inr l ↦ let j = joined_is graph.n u v graph.edges are l e in (omega (arith, j), j.2)
    ]

-- a graph with just these edges is the contracted one
pub IsContraction-from : (graph small : EdgeGraph) (a b : ℕ) → small.n + 1 ≡ graph.n → small.edges ≡ contracted_among graph a b (pairs small.n) → IsContraction graph small a b
IsContraction-from graph small a b n e = record {
  vertices = n;
  edges = λ u v l m.
      let test : Edge → Bool = λ e. contracted_edge graph a b e.0 e.1 in
      elim (cases_lt u v) [
        | inl o ↦ ap (list_any (joins u v)) e ∙ joined-filter small.n test u v o m
        | inr o ↦ elim (cases_lt v u) [
          | inl p ↦ has_edge-turned small u v ∙ (ap (list_any (joins v u)) e ∙ (joined-filter small.n test v u p l ∙ contracted_edge-turned graph a b v u))
          | inr p ↦
              let q : u ≡ v = omega arith in
              joined_no_pair small.n u v small.edges are (omega arith) (λ k. let z = k.0 in omega arith) ∙ (sym (contracted_edge-loop graph a b u) ∙ ap (contracted_edge graph a b u) q)
        ]
      ];
  within = edge_within small are;
}
  where
    are : AreEdges small.n small.edges
    are = subst (AreEdges small.n) (sym e) (AreEdges-filter small.n (λ e. contracted_edge graph a b e.0 e.1))

-- THE LAW: that is the contracted graph
pub IsContraction-contraction : (graph : EdgeGraph) (a b : ℕ) → 0 < graph.n → IsContraction graph (contraction graph a b) a b
IsContraction-contraction graph a b some = IsContraction-from graph (contraction graph a b) a b (omega arith) refl

pub contraction-from : (graph : EdgeGraph) (n a b : ℕ) (edges : List Edge) → n ≡ graph.n → edges ≡ contracted_among graph a b (pairs (n - 1)) → (let made : EdgeGraph = record { n = n - 1; edges = edges } in made) ≡ contraction graph a b
contraction-from graph n a b edges count e =
    let Made : ℕ → List Edge → EdgeGraph = λ k es. record { n = k; edges = es } in
    ap₂ Made (ap (λ k. k - 1) count) (e ∙ ap (λ k. contracted_among graph a b (pairs (k - 1))) count)
