-- Arrays of edges.
use Rattle.std.proofs.Common.{◌<◌, ◌≤◌, ◌≡◌, ℕ, zero, suc, List, [], ◌∷◌, inl, inr, refl, ap, ap₂, ◌∙◌, subst, map, get_or, arith}
use Rattle.std.specs.List.{All, AllPairs, Contains}
use Rattle.std.proofs.lemmas.List.{length-map}
use Rattle.std.proofs.lemmas.List.Elements.{All-nil, All-cons, All-head, All-tail, All-contains}
use Rattle.std.proofs.lemmas.List.Kept.{AllPairs-cons}
use Rattle.graphs.specs.Graphs.{Edge, IsGraph, AreEdges, ComesBefore}
use Rattle.plane_drawings.proofs.Pairs.{AllPairs-nil, AllPairs-head, AllPairs-tail}
use Rattle.pigale_c.specs.EdgeFailures.{IsGraphOf}
use Rattle.pigale_c.specs.EdgeLists.{edge_at, AreEdgesOf, Joins, RiseFrom}
use Rattle.pigale_c.specs.Embedded.{graph_in}
use Rattle.pigale_c.specs.declared.edges.EdgeEnds.{EdgeEnds}

-- before all edges
abbrev pub no_edge : EdgeEnds
no_edge = record { a = 0; b = 0 }

-- the edges are in order exactly where those that are left are, behind `last`
pub record SameEdges (n : ℕ) (edges : List EdgeEnds) (last : EdgeEnds) (left : List EdgeEnds) : Type 0 where
  pub there : RiseFrom n no_edge edges → RiseFrom n last left
  pub back : RiseFrom n last left → RiseFrom n no_edge edges

-- the order is transitive
before_before : (e f g : Edge) → ComesBefore e f → ComesBefore f g → ComesBefore e g
before_before e f g (inl l) (inl m) = inl (omega (arith, l, m))
before_before e f g (inl l) (inr (q, m)) = inl (omega (arith, l, q))
before_before e f g (inr (q, l)) (inl m) = inl (omega (arith, q, m))
before_before e f g (inr (q, l)) (inr (r, m)) = inr (omega (arith, q, r), omega (arith, l, m))

-- edges in order come behind `last`, all of them
rise-behind : (n : ℕ) (last : EdgeEnds) (edges : List EdgeEnds) → RiseFrom n last edges → All (ComesBefore (edge_at last)) (map edge_at edges)
rise-behind n last [] h = All-nil (ComesBefore (edge_at last))
rise-behind n last (e ∷ edges) h = All-cons (ComesBefore (edge_at last)) (edge_at e) (map edge_at edges) h.0.1 (all-behind (map edge_at edges) (rise-behind n e edges h.1))
  where
    all-behind : (es : List Edge) → All (ComesBefore (edge_at e)) es → All (ComesBefore (edge_at last)) es
    all-behind es all k d lt = before_before (edge_at last) (edge_at e) (get_or es k d) h.0.1 (all k d lt)

rise-ends : (n : ℕ) (last : EdgeEnds) (edges : List EdgeEnds) → RiseFrom n last edges → All (λ (e : Edge). (e.0 < e.1) × (e.1 < n)) (map edge_at edges)
rise-ends n last [] h = All-nil (λ (e : Edge). (e.0 < e.1) × (e.1 < n))
rise-ends n last (e ∷ edges) h = All-cons (λ (e : Edge). (e.0 < e.1) × (e.1 < n)) (edge_at e) (map edge_at edges) h.0.0 (rise-ends n e edges h.1)

rise-rising : (n : ℕ) (last : EdgeEnds) (edges : List EdgeEnds) → RiseFrom n last edges → AllPairs ComesBefore (map edge_at edges)
rise-rising n last [] h = AllPairs-nil ComesBefore
rise-rising n last (e ∷ edges) h = AllPairs-cons ComesBefore (edge_at e) (map edge_at edges) (rise-behind n e edges h.1) (rise-rising n e edges h.1)

-- edges that rise are those of a graph
pub AreEdges-rise : (n : ℕ) (edges : List EdgeEnds) → RiseFrom n no_edge edges → AreEdges n (map edge_at edges)
AreEdges-rise n edges h = record { ends = rise-ends n no_edge edges h; rising = rise-rising n no_edge edges h }

rise-from : (n : ℕ) (last : EdgeEnds) (edges : List EdgeEnds) → All (ComesBefore (edge_at last)) (map edge_at edges) → All (λ (e : Edge). (e.0 < e.1) × (e.1 < n)) (map edge_at edges) → AllPairs ComesBefore (map edge_at edges) → RiseFrom n last edges
rise-from n last [] behind ends rising = tt
rise-from n last (e ∷ edges) behind ends rising = (
  (All-head (λ (e : Edge). (e.0 < e.1) × (e.1 < n)) (edge_at e) (map edge_at edges) ends, All-head (ComesBefore (edge_at last)) (edge_at e) (map edge_at edges) behind),
  rise-from n e edges (AllPairs-head ComesBefore (edge_at e) (map edge_at edges) rising) (All-tail (λ (e : Edge). (e.0 < e.1) × (e.1 < n)) (edge_at e) (map edge_at edges) ends) (AllPairs-tail ComesBefore (edge_at e) (map edge_at edges) rising),
)

-- an edge comes behind (0, 0)
behind-none : (e : Edge) → e.0 < e.1 → ComesBefore (edge_at no_edge) e
behind-none (zero, b) l = inr (refl, l)
behind-none (suc a, b) l = inl (omega arith)

-- and those of a graph rise
pub rise-AreEdges : (n : ℕ) (edges : List EdgeEnds) → AreEdges n (map edge_at edges) → RiseFrom n no_edge edges
rise-AreEdges n edges h = rise-from n no_edge edges (λ k d lt. behind-none (get_or (map edge_at edges) k d) (h.ends k d lt).0) h.ends h.rising

-- of each the lesser end comes first
pub lesser_first : (n : ℕ) (last : EdgeEnds) (edges : List EdgeEnds) → RiseFrom n last edges → All (λ (e : EdgeEnds). e.a < e.b) edges
lesser_first n last [] h = All-nil (λ (e : EdgeEnds). e.a < e.b)
lesser_first n last (e ∷ edges) h = All-cons (λ (e : EdgeEnds). e.a < e.b) e edges h.0.0.0 (lesser_first n e edges h.1)

-- ---- graphs
graph-rise : (n : ℕ) (edges : List EdgeEnds) → n ≤ 255 → RiseFrom n no_edge edges → IsGraph (graph_in n edges)
graph-rise n edges few rise = record { few = few; edges = AreEdges-rise n edges rise }

from_map : (edges : List EdgeEnds) (a b : ℕ) → Contains (map edge_at edges) (a, b) → (e : EdgeEnds) × Contains edges e × (e.a ≡ a) × (e.b ≡ b)
from_map [] a b h = absurd (omega (arith, h.1))
from_map (e ∷ edges) a b (zero, l, is) = (e, (zero, omega arith, refl), ap (λ (f : Edge). f.0) is, ap (λ (f : Edge). f.1) is)
from_map (e ∷ edges) a b (suc i, l, is) =
    let r = from_map edges a b (i, omega (arith, l), is) in
    (r.0, (suc r.1.0, omega (arith, r.1.1), r.1.2), r.2, r.3)

to_map : (edges : List EdgeEnds) (e : EdgeEnds) → Contains edges e → Contains (map edge_at edges) (edge_at e)
to_map [] e h = absurd (omega (arith, h.1))
to_map (f ∷ edges) e (zero, l, is) = (zero, omega arith, ap edge_at is)
to_map (f ∷ edges) e (suc i, l, is) =
    let r = to_map edges e (i, omega (arith, l), is) in
    (suc r.0, omega (arith, r.1), r.2)

-- the graph of edges that rise is that of the array
pub IsGraphOf-rise : (n : ℕ) (edges : List EdgeEnds) → n ≤ 255 → RiseFrom n no_edge edges → IsGraphOf n edges (graph_in n edges)
IsGraphOf-rise n edges few rise = record {
  graph_is = graph-rise n edges few rise;
  vertices = refl;
  same = λ a b. (there a b, back a b);
  count = length-map edges edge_at;
}
  where
    lesser : (e : EdgeEnds) → Contains edges e → e.a < e.b
    lesser e has = All-contains (λ (f : EdgeEnds). f.a < f.b) edges e (lesser_first n no_edge edges rise) has

    there : (a b : ℕ) → Contains (map edge_at edges) (a, b) → (a < b) × Joins edges a b
    there a b h =
        let r = from_map edges a b h in
        (omega (arith, lesser r.0 r.1, r.2, r.3), (r.0, r.1, inl (r.2, r.3)))

    back : (a b : ℕ) → (a < b) × Joins edges a b → Contains (map edge_at edges) (a, b)
    back a b (l, (e, has, inl is)) = subst (λ (f : Edge). Contains (map edge_at edges) f) (ap₂ (λ (x y : ℕ). (x, y)) is.0 is.1) (to_map edges e has)
    back a b (l, (e, has, inr is)) = absurd (omega (arith, l, lesser e has, is.0, is.1))

-- and so is that of its edges in order
pub IsGraphOf-sorted : (n : ℕ) (edges sorted : List EdgeEnds) → n ≤ 255 → RiseFrom n no_edge sorted → AreEdgesOf n edges sorted → IsGraphOf n edges (graph_in n sorted)
IsGraphOf-sorted n edges sorted few rise h = record {
  graph_is = graph-rise n sorted few rise;
  vertices = refl;
  same = h.same;
  count = length-map sorted edge_at ∙ h.count;
}
