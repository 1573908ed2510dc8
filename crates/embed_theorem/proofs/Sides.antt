-- Two sides of a graph that meet in two vertices at most: each has lost a vertex.
use Rattle.std.proofs.Common.{◌≡◌, ◌≢◌, ◌⊎◌, ℕ, ◌<◌, true, eqb, List, [], ◌∷◌, length, Contains, refl, sym, ◌∙◌, subst, inl, inr, arith}
use Rattle.std.proofs.lemmas.Bool.{cases_Bool, eq-eqb, eqb-true}
use Rattle.map_lists.specs.Lists.{Lists}
use Rattle.map_theory.specs.Maps.{list_of, HasDart, IsSimpleMap, SameComponent}
use Rattle.map_theory.specs.Edges.{without_edge}
use Rattle.map_theory.proofs.EntryLemmas.{Contains-cons_cases}
use Rattle.map_theory.proofs.WithoutEdge.{length-without_edge, IsSimpleMap-without_edge, dart_old, dart_new}
use Rattle.plane_laws.proofs.EdgeRemoved.{edge_removed_plane}
use Rattle.plane_laws.specs.WithEdge.{with_edge_at}
use Rattle.plane_laws.proofs.WithEdge.{with_edge, length-new}
use Rattle.plane_peeling.proofs.RestrictedMaps.{cases_Contains}
use Rattle.graphs.specs.Graphs.{EdgeGraph, has_edge}
use Rattle.embed_surgery.proofs.Entries.{glued_lists, edge_glued_lists, IsUnion}
use Rattle.embed_surgery.proofs.AtVertex.{glued_at_vertex}
use Rattle.embed_surgery.proofs.AlongEdge.{glued_along_edge}
use Rattle.embed_contraction.specs.Linked.{HasEdge}
use Rattle.embed_contraction.proofs.Parts.{closed_part, part-turned, cases_edge}
use Rattle.embed_contraction.specs.Routed.{LeadsAlong}
use Rattle.embed_contraction.proofs.Routes.{some_route}
use Rattle.embed_contraction.proofs.Routed.{routed_witness}
use Rattle.embed_contraction.specs.Traces.{HasWitness}
use Rattle.embed_theorem.specs.Expanded.{IsMapOf}
use Rattle.embed_theorem.proofs.Graphs.{Result, part_witness, map_from, map_to, live_less, IsSided, IsBetween, IsJoinedUp, live}
use Rattle.embed_theorem.specs.ListGraphs.{graph_of}
use Rattle.embed_theorem.proofs.GraphLemmas.{has_edge-from, has_edge-is}

pub sides_turned : (lists A B : Lists) (u v : ℕ) → IsSided lists A B u v → IsSided lists B A u v
sides_turned lists A B u v s = record {
  simple_A = s.simple_B;
  simple_B = s.simple_A;
  length_A = s.length_B;
  length_B = s.length_A;
  split = λ a b d. elim (s.split a b d) [ inl h ↦ inr h | inr h ↦ inl h ];
  of_A = s.of_B;
  of_B = s.of_A;
  shared = λ w p q d d'. s.shared w q p d' d;
  lost_A = s.lost_B;
  edge_A = s.edge_B;
  gone_A = s.gone_B;
  lost_B = s.lost_A;
  edge_B = s.edge_A;
  gone_B = s.gone_A;
}

-- each side has fewer vertices with edges
pub side_less : (lists A B : Lists) (u v : ℕ) → IsSided lists A B u v → live A < live lists
side_less lists A B u v s = live_less A lists s.length_A (λ z h. (h.0, s.of_A z h.0 h.1)) s.lost_A s.edge_A s.gone_A

-- a witness of a side is one of the whole
pub witness_of_side : (lists A B : Lists) (u v : ℕ) → IsSided lists A B u v → HasWitness (graph_of A) → HasWitness (graph_of lists)
witness_of_side lists A B u v s = part_witness A lists s.simple_A s.length_A s.of_A

-- maps of two sides that meet in one vertex
module _ (lists A B m k : Lists) (u v : ℕ) (simple : IsSimpleMap lists) (s : IsSided lists A B u v) (of : IsMapOf m (graph_of A)) (of' : IsMapOf k (graph_of B)) where
  pub sides_long : length k ≡ length m
  sides_long = of'.edges.vertices ∙ (s.length_B ∙ sym (of.edges.vertices ∙ s.length_A))

  pub sides_meet : (w : ℕ) → ((z p q : ℕ) → HasDart A z p → HasDart B z q → z ≡ w) → (z p q : ℕ) → HasDart m z p → HasDart k z q → z ≡ w
  sides_meet w one z p q d d' = one z p q (map_from m A s.simple_A of z p d) (map_from k B s.simple_B of' z q d')

  pub sides_glued : (new : Lists) → IsUnion m k new → IsMapOf new (graph_of lists)
  sides_glued new glued = record {
    simple = glued.simple;
    plane = glued.plane;
    edges = record {
      vertices = glued.vertices ∙ (of.edges.vertices ∙ s.length_A);
      there = λ a b d. has_edge-from lists a b (elim ((glued.darts a b).0 d) [ inl h ↦ s.of_A a b (map_from m A s.simple_A of a b h) | inr h ↦ s.of_B a b (map_from k B s.simple_B of' a b h) ]);
      all = λ a b e. (glued.darts a b).1 (elim (s.split a b (has_edge-is lists simple a b e)) [ inl h ↦ inl (map_to m A of a b h) | inr h ↦ inr (map_to k B of' a b h) ]);
    };
  }

-- the result for all graphs with fewer vertices that have edges
abbrev pub Smaller : Lists → Type 0
Smaller lists = (part : Lists) → IsSimpleMap part → live part < live lists → Result part

-- two sides that meet in one vertex
pub glue_one : (lists A B : Lists) (u v w : ℕ) → IsSimpleMap lists → IsSided lists A B u v → ((z p q : ℕ) → HasDart A z p → HasDart B z q → z ≡ w) → Smaller lists → Result lists
glue_one lists A B u v w simple s one smaller =
    elim (smaller A s.simple_A (side_less lists A B u v s)) [
      | inl x ↦ inl (witness_of_side lists A B u v s x)
      | inr m ↦ elim (smaller B s.simple_B (side_less lists B A u v (sides_turned lists A B u v s))) [
        | inl x ↦ inl (witness_of_side lists B A u v (sides_turned lists A B u v s) x)
        | inr k ↦ inr (
          glued_lists m.0 k.0,
          sides_glued lists A B m.0 k.0 u v simple s m.1 k.1 (glued_lists m.0 k.0) (glued_at_vertex m.0 k.0 w m.1.simple m.1.plane k.1.simple k.1.plane (sides_long lists A B m.0 k.0 u v simple s m.1 k.1) (sides_meet lists A B m.0 k.0 u v simple s m.1 k.1 w one)),
        )
      ]
    ]

pub joined_up : (old : Lists) (u v : ℕ) → IsSimpleMap old → u < length old → v < length old → u ≢ v → (new : Lists) × IsJoinedUp old new u v
joined_up old u v simple lu lv u_v =
    elim (cases_Contains (list_of old u) v) [
      | inl c ↦ (old, record { simple = simple; vertices = refl; edge = (lu, c); kept = λ a b d. d; only = λ a b d. inl d })
      | inr n ↦
          let far : ¬ HasDart old u v = λ d. n d.1 in
          let more = with_edge old u 0 v 0 simple lu lv u_v far (omega arith) (omega arith) in (
            with_edge_at old u 0 v 0,
            record {
              simple = more.simple;
              vertices = length-new old u 0 v 0 simple lu lv u_v far (omega arith) (omega arith);
              edge = more.edge;
              kept = more.kept;
              only = more.only;
            },
          )
    ]

-- a vertex that is joined to another has an edge
pub joined_edge : (lists : Lists) → IsSimpleMap lists → (u v : ℕ) → u < length lists → v < length lists → SameComponent lists u v → u ≢ v → HasEdge lists u
joined_edge lists simple u v lu lv same u_v =
    elim (cases_edge lists u lu) [
      | inl h ↦ h
      | inr none ↦
          let at_v = closed_part lists simple (λ z. eqb z u) (λ a b d t. absurd (none (b, subst (λ z. HasDart lists z b) (eqb-true a u t) d))) u v lu lv same (eq-eqb u u refl) in
          absurd (u_v (sym (eqb-true v u at_v)))
    ]

-- edges along a list of one graph are edges of another, and each vertex on it has one
leads_more : (part whole : EdgeGraph) (u : ℕ) (mid : List ℕ) (v : ℕ) → ((a b : ℕ) → has_edge part a b ≡ true → has_edge whole a b ≡ true) → LeadsAlong part u mid v → LeadsAlong whole u mid v
leads_more part whole u [] v more h = more u v h
leads_more part whole u (w ∷ mid) v more h = (more u w h.0, leads_more part whole w mid v more h.1)

leads_live : (graph : EdgeGraph) (u : ℕ) (mid : List ℕ) (v : ℕ) → LeadsAlong graph u mid v → (w : ℕ) → Contains mid w → (a : ℕ) × (has_edge graph w a ≡ true)
leads_live graph u [] v h w c = absurd (omega (arith, c.1))
leads_live graph u (z ∷ mid) v h w c =
    elim (Contains-cons_cases z mid w c) [
      | inl e ↦ subst (λ y. (a : ℕ) × (has_edge graph y a ≡ true)) e (first mid h.1)
      | inr c' ↦ leads_live graph z mid v h.1 w c'
    ]
  where
    first : (mid : List ℕ) → LeadsAlong graph z mid v → (a : ℕ) × (has_edge graph z a ≡ true)
    first [] h = (v, h)
    first (y ∷ mid) h = (y, h.0)

-- a witness of one side with the edge between u and v, where these are joined in the other
pub side_witness : (lists A B H : Lists) (u v : ℕ) → IsSimpleMap lists → IsSided lists A B u v → u < length lists → v < length lists → u ≢ v → SameComponent B u v → IsJoinedUp A H u v → HasWitness (graph_of H) → HasWitness (graph_of lists)
side_witness lists A B H u v simple s lu lv u_v same up w =
    let route = some_route (graph_of B) B u v s.simple_B (has_edge-from B) u_v (subst (λ n. u < n) (sym s.length_B) lu) (subst (λ n. v < n) (sym s.length_B) lv) same in
    let mid = route.0 in
    let r = route.1 in
    routed_witness (graph_of lists) (graph_of H) u v mid record {
      vertices = up.vertices ∙ s.length_A;
      edges = λ a b e. elim (up.only a b (has_edge-is H up.simple a b e)) [
        | inl d ↦ inl (has_edge-from lists a b (s.of_A a b d))
        | inr q ↦ inr q
      ];
      way = leads_more (graph_of B) (graph_of lists) u mid v (λ a b e. has_edge-from lists a b (s.of_B a b (has_edge-is B s.simple_B a b e))) r.way;
      distinct = r.distinct;
      off = λ z a c. elim (cases_Bool (has_edge (graph_of H) z a)) [
        | inr f ↦ f
        | inl t ↦
            let not_u : z ≢ u = λ e. r.not_first (subst (Contains mid) e c) in
            let not_v : z ≢ v = λ e. r.not_last (subst (Contains mid) e c) in
            let in_B = leads_live (graph_of B) u mid v r.way z c in
            absurd (elim (up.only z a (has_edge-is H up.simple z a t)) [
              | inl d ↦ elim (s.shared z a in_B.0 d (has_edge-is B s.simple_B z in_B.0 in_B.1)) [ inl e ↦ not_u e | inr e ↦ not_v e ]
              | inr q ↦ elim q [ inl h ↦ not_u h.0 | inr h ↦ not_v h.0 ]
            ])
      ];
    } w

-- a side with the edge between u and v, which are joined in it, has fewer vertices with edges
pub joined_up_less : (lists A B H : Lists) (u v : ℕ) → IsSided lists A B u v → u < length lists → v < length lists → u ≢ v → SameComponent A u v → IsJoinedUp A H u v → live H < live lists
joined_up_less lists A B H u v s lu lv u_v same up =
    let in_A : (z : ℕ) → z < length lists → z < length A = λ z l. subst (λ n. z < n) (sym s.length_A) l in
    let live_u = joined_edge A s.simple_A u v (in_A u lu) (in_A v lv) same u_v in
    let live_v = joined_edge A s.simple_A v u (in_A v lv) (in_A u lu) (part-turned A u v same) (λ e. u_v (sym e)) in
    let old : (z : ℕ) → HasEdge H z → HasEdge A z = λ z h. elim (up.only z h.0 h.1) [
      | inl d ↦ (h.0, d)
      | inr q ↦ elim q [ inl e ↦ subst (HasEdge A) (sym e.0) live_u | inr e ↦ subst (HasEdge A) (sym e.0) live_v ]
    ] in
    live_less H lists (up.vertices ∙ s.length_A) (λ z h. let o = old z h in (o.0, s.of_A z o.0 o.1)) s.lost_A s.edge_A (λ h. s.gone_A (old s.lost_A h))

-- maps of two sides with the edge between u and v
module _ (lists A B H K m k : Lists) (u v : ℕ) (simple : IsSimpleMap lists) (s : IsSided lists A B u v) (up : IsJoinedUp A H u v) (up' : IsJoinedUp B K u v) (of : IsMapOf m (graph_of H)) (of' : IsMapOf k (graph_of K)) where
  from_m : (a b : ℕ) → HasDart m a b → HasDart H a b
  from_m = map_from m H up.simple of

  from_k : (a b : ℕ) → HasDart k a b → HasDart K a b
  from_k = map_from k K up'.simple of'

  len_m : length m ≡ length lists
  len_m = of.edges.vertices ∙ (up.vertices ∙ s.length_A)

  pub joined_long : length k ≡ length m
  joined_long = of'.edges.vertices ∙ (up'.vertices ∙ s.length_B) ∙ sym len_m

  pub joined_first : HasDart m u v
  joined_first = map_to m H of u v up.edge

  pub joined_second : HasDart k u v
  joined_second = map_to k K of' u v up'.edge

  pub joined_meet : (w p q : ℕ) → HasDart m w p → HasDart k w q → (w ≡ u) ⊎ (w ≡ v)
  joined_meet w p q d d' =
      elim (up.only w p (from_m w p d)) [
        | inr r ↦ elim r [ inl h ↦ inl h.0 | inr h ↦ inr h.0 ]
        | inl h ↦ elim (up'.only w q (from_k w q d')) [
          | inr r ↦ elim r [ inl g ↦ inl g.0 | inr g ↦ inr g.0 ]
          | inl g ↦ s.shared w p q h g
        ]
      ]

  module _ (G : Lists) (glued : IsUnion m k G) where
    G_old : (a b : ℕ) → HasDart G a b → HasDart lists a b ⊎ IsBetween u v a b
    G_old a b d =
        elim ((glued.darts a b).0 d) [
          | inl h ↦ elim (up.only a b (from_m a b h)) [ inl g ↦ inl (s.of_A a b g) | inr q ↦ inr q ]
          | inr h ↦ elim (up'.only a b (from_k a b h)) [ inl g ↦ inl (s.of_B a b g) | inr q ↦ inr q ]
        ]

    G_new : (a b : ℕ) → HasDart lists a b → HasDart G a b
    G_new a b d =
        (glued.darts a b).1 (elim (s.split a b d) [ inl h ↦ inl (map_to m H of a b (up.kept a b h)) | inr h ↦ inr (map_to k K of' a b (up'.kept a b h)) ])

    pub joined_edge_glued : HasDart G u v
    joined_edge_glued = (glued.darts u v).1 (inl joined_first)

    -- with the edge, where it is one of the lists
    pub joined_glued : HasDart lists u v → IsMapOf G (graph_of lists)
    joined_glued edge =
        let there : (a b : ℕ) → HasDart G a b → HasDart lists a b = λ a b d.
        elim (G_old a b d) [
          | inl h ↦ h
          | inr q ↦ elim q [
            | inl h ↦ subst (λ z. HasDart lists z b) (sym h.0) (subst (HasDart lists u) (sym h.1) edge)
            | inr h ↦ subst (λ z. HasDart lists z b) (sym h.0) (subst (HasDart lists v) (sym h.1) (simple.both_ways u v edge))
          ]
        ] in
        record {
          simple = glued.simple;
          plane = glued.plane;
          edges = record { vertices = glued.vertices ∙ len_m; there = λ a b d. has_edge-from lists a b (there a b d); all = λ a b e. G_new a b (has_edge-is lists simple a b e) };
        }

    -- without it, where it is none
    pub joined_glued_without : ¬ HasDart lists u v → IsMapOf (without_edge G u v) (graph_of lists)
    joined_glued_without none =
        let edge_G = joined_edge_glued in
        let there : (a b : ℕ) → HasDart (without_edge G u v) a b → HasDart lists a b = λ a b d.
        let o = dart_old G glued.simple u v edge_G a b d in
        elim (G_old a b o.0) [
          | inl h ↦ h
          | inr q ↦ absurd (elim q [ inl h ↦ o.1 h.0 h.1 | inr h ↦ o.2 h.0 h.1 ])
        ] in
        let all : (a b : ℕ) → HasDart lists a b → HasDart (without_edge G u v) a b = λ a b d.
        dart_new G glued.simple u v edge_G a b (G_new a b d) (λ e e'. none (subst (HasDart lists u) e' (subst (λ z. HasDart lists z b) e d))) (λ e e'. none (simple.both_ways v u (subst (HasDart lists v) e' (subst (λ z. HasDart lists z b) e d)))) in
        record {
          simple = IsSimpleMap-without_edge G glued.simple u v edge_G;
          plane = edge_removed_plane G glued.simple u v edge_G glued.plane;
          edges = record { vertices = length-without_edge G glued.simple u v edge_G ∙ (glued.vertices ∙ len_m); there = λ a b d. has_edge-from lists a b (there a b d); all = λ a b e. all a b (has_edge-is lists simple a b e) };
        }

-- two sides that meet in u and v, which are joined in both
pub glue_two : (lists A B : Lists) (u v : ℕ) → IsSimpleMap lists → IsSided lists A B u v → u < length lists → v < length lists → u ≢ v → SameComponent A u v → SameComponent B u v → Smaller lists → Result lists
glue_two lists A B u v simple s lu lv u_v same_A same_B smaller =
    let in_A : (z : ℕ) → z < length lists → z < length A = λ z l. subst (λ n. z < n) (sym s.length_A) l in
    let in_B : (z : ℕ) → z < length lists → z < length B = λ z l. subst (λ n. z < n) (sym s.length_B) l in
    let up = joined_up A u v s.simple_A (in_A u lu) (in_A v lv) u_v in
    let up' = joined_up B u v s.simple_B (in_B u lu) (in_B v lv) u_v in
    elim (smaller up.0 up.1.simple (joined_up_less lists A B up.0 u v s lu lv u_v same_A up.1)) [
      | inl x ↦ inl (side_witness lists A B up.0 u v simple s lu lv u_v same_B up.1 x)
      | inr m ↦ elim (smaller up'.0 up'.1.simple (joined_up_less lists B A up'.0 u v (sides_turned lists A B u v s) lu lv u_v same_B up'.1)) [
        | inl x ↦ inl (side_witness lists B A up'.0 u v simple (sides_turned lists A B u v s) lu lv u_v same_A up'.1 x)
        | inr k ↦ inr (two_maps up.0 up'.0 m.0 k.0 up.1 up'.1 m.1 k.1)
      ]
    ]
  where
    two_maps : (H K m k : Lists) → IsJoinedUp A H u v → IsJoinedUp B K u v → IsMapOf m (graph_of H) → IsMapOf k (graph_of K) → (map : Lists) × IsMapOf map (graph_of lists)
    two_maps H K m k up up' of of' =
        let G = edge_glued_lists m k u v in
        let glued = glued_along_edge m k u v of.simple of.plane of'.simple of'.plane (joined_long lists A B H K m k u v simple s up up' of of') (joined_first lists A B H K m k u v simple s up up' of of') (joined_second lists A B H K m k u v simple s up up' of of') (joined_meet lists A B H K m k u v simple s up up' of of') in
        elim (cases_Contains (list_of lists u) v) [
          | inl c ↦ (G, joined_glued lists A B H K m k u v simple s up up' of of' G glued (lu, c))
          | inr n ↦ (without_edge G u v, joined_glued_without lists A B H K m k u v simple s up up' of of' G glued (λ d. n d.1))
        ]
