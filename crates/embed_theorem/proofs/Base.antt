-- Graphs of at most three vertices with edges: no edge, one edge, and a triangle.
use Rattle.std.proofs.Common.{◌≡◌, ◌≢◌, ◌⊎◌, ℕ, ◌<◌, Bool, true, false, List, [], ◌∷◌, length, get_or, AllPairs, Contains, refl, sym, ap, ◌∙◌, subst, inl, inr, arith}
use Rattle.std.proofs.lemmas.Bool.{cases_eq, cases_lt, false≢true}
use Rattle.map_lists.specs.Lists.{Lists}
use Rattle.map_theory.specs.Maps.{Dart, list_of, HasDart, IsSimpleMap, IsPlane, dart_count, entry_after, follows, SameComponent}
use Rattle.map_theory.proofs.EntryLemmas.{Contains-here, Contains-there}
use Rattle.map_theory.proofs.DartPermutations.{two_m, dart_of, dart_of-number, vertex_count-orbits}
use Rattle.plane_laws.specs.Kept.{with_kept, IsKeptMap}
use Rattle.plane_laws.specs.WithEdge.{with_edge_at, IsEdgeMore}
use Rattle.plane_laws.proofs.KeptEdges.{kept_edges, length-with_kept}
use Rattle.plane_laws.proofs.WithEdge.{with_edge, edge_put_between, length-new}
use Rattle.plane_peeling.proofs.Rings.{each_of_one, each_of_two, AllPairs-put, entry_after-inside, entry_after-last}
use Rattle.embed_surgery.proofs.Holes.{IsRing}
use Rattle.embed_surgery.proofs.Marks.{components_by_marks, genus_by_marks}
use Rattle.embed_surgery.proofs.Inserts.{vertex_put_in, IsPutIn}
use Rattle.embed_contraction.specs.Linked.{HasEdge, IsThreeLinked, without_vertices}
use Rattle.embed_contraction.proofs.Parts.{rest-simple, rest-length, rest-old}
use Rattle.embed_theorem.specs.Expanded.{IsMapOf}
use Rattle.embed_theorem.proofs.Joined.{empty_of}
use Rattle.embed_theorem.proofs.Graphs.{IsBetween}
use Rattle.embed_theorem.proofs.Sides.{joined_edge}
use Rattle.embed_theorem.specs.ListGraphs.{graph_of}
use Rattle.embed_theorem.proofs.GraphLemmas.{has_edge-from, has_edge-is}

-- lists without darts
pub empty_plane : (lists : Lists) → IsSimpleMap lists → ((a b : ℕ) → ¬ HasDart lists a b) → IsPlane lists
empty_plane lists simple none =
    let mark : Dart → ℕ = λ d. 0 in
    let test : ℕ → Bool = λ j. true in
    let no_darts : dart_count lists ≡ 0 = elim (cases_lt 0 (dart_count lists)) [
      | inl l ↦ absurd (none (dart_of lists 0).0 (dart_of lists 0).1 (dart_of-number lists simple 0 l).is_dart)
      | inr l ↦ omega arith
    ] in
    let few = components_by_marks lists mark 0 test simple record { within = λ u v d. absurd (none u v d); passes = λ u v d. refl; joined = λ u v x y d d' e. absurd (none u v d) } in
    genus_by_marks lists mark 0 test simple (λ u v d. refl) record { pick = λ j. (0, 0); darts = λ j l t. absurd (omega arith); marked = λ j l t. absurd (omega arith) }
    (omega (arith, two_m lists simple, vertex_count-orbits lists simple))

module _ (lists : Lists) (simple : IsSimpleMap lists) (x y : ℕ) (edge : HasDart lists x y) where
  x_y : x ≢ y
  x_y e = simple.no_loop x y edge (sym e)

  back : HasDart lists y x
  back = simple.both_ways x y edge

  -- the lists without all edges
  abbrev none : ℕ → ℕ → Bool
  none a b = false

  abbrev E0 : Lists
  E0 = with_kept none lists

  k0 : IsKeptMap lists E0 none
  k0 = kept_edges lists none (λ a b. refl) simple

  E0_none : (a b : ℕ) → ¬ HasDart E0 a b
  E0_none a b d = false≢true ((k0.darts a b).0 d).1

  length_E0 : length E0 ≡ length lists
  length_E0 = length-with_kept none lists

  in_x : x < length E0
  in_x = subst (λ n. x < n) (sym length_E0) edge.0

  in_y : y < length E0
  in_y = subst (λ n. y < n) (sym length_E0) back.0

  apart0 : ¬ SameComponent E0 x y
  apart0 same = let h = joined_edge E0 k0.simple x y in_x in_y same x_y in E0_none x h.0 h.1

  -- with the edge of x and y
  abbrev N : Lists
  N = with_edge_at E0 x 0 y 0

  more : IsEdgeMore E0 N x 0 y 0
  more = with_edge E0 x 0 y 0 k0.simple in_x in_y x_y (E0_none x y) (omega arith) (omega arith)

  length_N : length N ≡ length lists
  length_N = length-new E0 x 0 y 0 k0.simple in_x in_y x_y (E0_none x y) (omega arith) (omega arith) ∙ length_E0

  plane_N : IsPlane N
  plane_N = (edge_put_between E0 x 0 y 0 k0.simple (empty_plane E0 k0.simple E0_none) in_x in_y apart0 (omega arith) (omega arith)).1.plane

  N_old : (a b : ℕ) → HasDart N a b → IsBetween x y a b
  N_old a b d = elim (more.only a b d) [ inl h ↦ absurd (E0_none a b h) | inr q ↦ q ]

  N_there : (a b : ℕ) → HasDart N a b → HasDart lists a b
  N_there a b d =
      elim (N_old a b d) [
        | inl h ↦ subst (λ z. HasDart lists z b) (sym h.0) (subst (HasDart lists x) (sym h.1) edge)
        | inr h ↦ subst (λ z. HasDart lists z b) (sym h.0) (subst (HasDart lists y) (sym h.1) back)
      ]

  N_new : (a b : ℕ) → IsBetween x y a b → HasDart N a b
  N_new a b q =
      elim q [
        | inl h ↦ subst (λ z. HasDart N z b) (sym h.0) (subst (HasDart N x) (sym h.1) more.edge)
        | inr h ↦ subst (λ z. HasDart N z b) (sym h.0) (subst (HasDart N y) (sym h.1) (more.simple.both_ways x y more.edge))
      ]

  -- one edge
  pub edge_map : ((z : ℕ) → HasEdge lists z → (z ≡ x) ⊎ (z ≡ y)) → (new : Lists) × IsMapOf new (graph_of lists)
  edge_map all = (
    N,
    record {
      simple = more.simple;
      plane = plane_N;
      edges = record {
        vertices = length_N;
        there = λ a b d. has_edge-from lists a b (N_there a b d);
        all = λ a b e.
            let d = has_edge-is lists simple a b e in
            let loop : a ≢ b = λ q. simple.no_loop a b d (sym q) in
            N_new a b (elim (all a (b, d)) [
              | inl p ↦ elim (all b (a, simple.both_ways a b d)) [ inl q ↦ absurd (loop (p ∙ sym q)) | inr q ↦ inl (p, q) ]
              | inr p ↦ elim (all b (a, simple.both_ways a b d)) [ inl q ↦ inr (p, q) | inr q ↦ absurd (loop (p ∙ sym q)) ]
            ]);
      };
    },
  )

  -- ---- a triangle
  abbrev pair : List ℕ
  pair = x ∷ y ∷ []

  pair_apart : AllPairs ◌≢◌ pair
  pair_apart = AllPairs-put x (y ∷ []) (λ c. each_of_one (λ z. z ≡ x → ⊥) y (λ e. x_y (sym e)) x c refl) (λ i j d l m. absurd (omega (arith, l, m)))

  next_x : entry_after x pair ≡ y
  next_x = entry_after-inside [] x y [] pair_apart

  next_y : entry_after y pair ≡ x
  next_y = entry_after-last (x ∷ []) y pair_apart

  empty_at : (z : ℕ) → z < length E0 → list_of E0 z ≡ []
  empty_at z l = empty_of (list_of E0 z) (λ w c. E0_none z w (l, c))

  turn_x : follows N x y ≡ y
  turn_x = more.next ∙ ap (λ us. get_or us 0 (get_or us 0 y)) (empty_at x in_x)

  turn_y : follows N y x ≡ x
  turn_y = more.next' ∙ ap (λ us. get_or us 0 (get_or us 0 x)) (empty_at y in_y)

  ring : IsRing N pair
  ring = record {
    distinct = pair_apart;
    darts = each_of_two (λ z. HasDart N z (entry_after z pair)) x y (subst (HasDart N x) (sym next_x) more.edge) (subst (HasDart N y) (sym next_y) (more.simple.both_ways x y more.edge));
    turns = each_of_two (λ z. follows N (entry_after z pair) z ≡ entry_after (entry_after z pair) pair) x y
        (ap (λ w. follows N w x) next_x ∙ (turn_y ∙ (sym next_y ∙ ap (λ w. entry_after w pair) (sym next_x))))
        (ap (λ w. follows N w y) next_y ∙ (turn_x ∙ (sym next_x ∙ ap (λ w. entry_after w pair) (sym next_y))));
  }

  module _ (w : ℕ) (live_w : HasEdge lists w) (w_x : w ≢ x) (w_y : w ≢ y) (linked : IsThreeLinked lists) (all : (z : ℕ) → HasEdge lists z → (z ≡ x) ⊎ ((z ≡ y) ⊎ (z ≡ w))) where
    -- the edge from w to the one of x and y that is not taken out
    edge_to : (p q : ℕ) → HasEdge lists q → w ≢ p → q ≢ p → w ≢ q → ((z : ℕ) → HasEdge lists z → z ≢ p → z ≢ w → z ≡ q) → HasDart lists w q
    edge_to p q live_q wp qp wq rest =
        let V = p ∷ p ∷ [] in
        let off : (z : ℕ) → z ≢ p → ¬ Contains V z = λ z n c. each_of_two (λ a. a ≡ z → ⊥) p p (λ e. n (sym e)) (λ e. n (sym e)) z c refl in
        let n = rest-length lists simple V in
        let h = joined_edge (without_vertices V lists) (rest-simple lists simple V) w q (omega arith) (omega arith) (linked p p w q live_w live_q (off w wp) (off q qp)) wq in
        let o = rest-old lists simple V w h.0 h.1 in
        let r_p : h.0 ≢ p = λ e. o.2 (subst (Contains V) (sym e) (Contains-here p (p ∷ []))) in
        subst (HasDart lists w) (rest h.0 (w, simple.both_ways w h.0 o.0) r_p (simple.no_loop w h.0 o.0)) o.0

    pub w_to_y : HasDart lists w y
    w_to_y = edge_to x y (x, back) w_x (λ e. x_y (sym e)) w_y (λ z h n n'. elim (all z h) [ inl e ↦ absurd (n e) | inr r ↦ elim r [ inl e ↦ e | inr e ↦ absurd (n' e) ] ])

    pub w_to_x : HasDart lists w x
    w_to_x = edge_to y x (y, edge) w_y x_y w_x (λ z h n n'. elim (all z h) [ inl e ↦ e | inr r ↦ elim r [ inl e ↦ absurd (n e) | inr e ↦ absurd (n' e) ] ])

    in_w : w < length N
    in_w = subst (λ n. w < n) (sym length_N) live_w.1.0

    empty_w : list_of N w ≡ []
    empty_w = empty_of (list_of N w) (λ z c. elim (N_old w z (in_w, c)) [ inl h ↦ w_x h.0 | inr h ↦ w_y h.0 ])

    with_w : (new : Lists) × IsPutIn N new pair (λ z. true) w × IsRing new (w ∷ pair)
    with_w = vertex_put_in N w x [] y [] (λ z. true) more.simple plane_N in_w empty_w ring refl refl (λ z c. absurd (omega (arith, c.1)))

    put : IsPutIn N with_w.0 pair (λ z. true) w
    put = with_w.1

    to_w : (b : ℕ) → Contains pair b → HasDart lists w b
    to_w b c = each_of_two (HasDart lists w) x y w_to_x w_to_y b c

    on_pair : (b : ℕ) → HasEdge lists b → b ≢ w → Contains pair b
    on_pair b h n = elim (all b h) [ inl e ↦ subst (Contains pair) (sym e) (Contains-here x (y ∷ [])) | inr r ↦ elim r [ inl e ↦ subst (Contains pair) (sym e) (Contains-there x (y ∷ []) y (Contains-here y [])) | inr e ↦ absurd (n e) ] ]

    pub triangle_map : (new : Lists) × IsMapOf new (graph_of lists)
    triangle_map = (
      with_w.0,
      record {
        simple = put.simple;
        plane = put.plane;
        edges = record {
          vertices = put.vertices ∙ length_N;
          there = λ a b d. has_edge-from lists a b (elim (put.only a b d) [
            | inl h ↦ N_there a b h
            | inr r ↦ elim r [
              | inl h ↦ subst (λ z. HasDart lists z b) (sym h.0) (to_w b h.1.0)
              | inr h ↦ subst (HasDart lists a) (sym h.0) (simple.both_ways w a (to_w a h.1.0))
            ]
          ]);
          all = λ a b e. all_darts a b (has_edge-is lists simple a b e);
        };
      },
    )
      where
        all_darts : (a b : ℕ) → HasDart lists a b → HasDart with_w.0 a b
        all_darts a b d =
            let d' = simple.both_ways a b d in
            let loop : a ≢ b = λ q. simple.no_loop a b d (sym q) in
            elim (cases_eq a w) [
              | inl e ↦ subst (λ z. HasDart with_w.0 z b) (sym e) (put.edges b (on_pair b (a, d') (λ q. loop (e ∙ sym q)), refl))
              | inr na ↦ elim (cases_eq b w) [
                | inl e ↦ put.simple.both_ways b a (subst (λ z. HasDart with_w.0 z a) (sym e) (put.edges a (on_pair a (b, d) na, refl)))
                | inr nb ↦ put.kept a b (N_new a b (elim (all a (b, d)) [
                  | inl p ↦ elim (all b (a, d')) [ inl q ↦ absurd (loop (p ∙ sym q)) | inr r ↦ elim r [ inl q ↦ inl (p, q) | inr q ↦ absurd (nb q) ] ]
                  | inr r ↦ elim r [
                    | inl p ↦ elim (all b (a, d')) [ inl q ↦ inr (p, q) | inr r' ↦ elim r' [ inl q ↦ absurd (loop (p ∙ sym q)) | inr q ↦ absurd (nb q) ] ]
                    | inr p ↦ absurd (na p)
                  ]
                ]))
              ]
            ]
