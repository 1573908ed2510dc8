-- A contracted edge expanded: the contracted vertex is taken out, its neighbours stand on one ring, and the ends of the edge are put into it in turn.
use Rattle.std.proofs.Common.{◌≡◌, ◌≢◌, ℕ, ◌<◌, true, false, eqb, List, [], ◌∷◌, ◌++◌, length, get_or, Contains, refl, sym, ap, ◌∙◌, subst, inl, inr}
use Rattle.std.proofs.lemmas.Bool.{cases_eq, cases_order, not-true, eqb-false}
use Rattle.std.proofs.lemmas.List.{get_or_default}
use Rattle.classes.proofs.Classes.{Together-from, same_class-from}
use Rattle.map_lists.specs.Lists.{Lists}
use Rattle.map_theory.specs.Maps.{Dart, list_of, HasDart, IsSimpleMap, IsPlane, follows, dart_number, face_classes, entry_after}
use Rattle.map_theory.specs.Paths.{SameFace}
use Rattle.map_theory.proofs.DartLemmas.{HasDart-follows}
use Rattle.map_theory.proofs.EntryLemmas.{Contains-here, Contains-there}
use Rattle.graphs.specs.Graphs.{EdgeGraph, has_edge}
use Rattle.graphs.proofs.EdgeLemmas.{has_edge-turned}
use Rattle.plane_peeling.proofs.Rings.{each_of_one}
use Rattle.plane_peeling.proofs.RestrictedMaps.{restricted-map, restricted-old, length-restricted}
use Rattle.embed_surgery.proofs.Holes.{passed_once, hole_of_vertex, rest_dart, all_but, without_vertex, IsPassedOnce, IsRing, IsRingOf}
use Rattle.embed_surgery.proofs.FaceRings.{face_is_ring}
use Rattle.embed_surgery.proofs.Turned.{ring_turned, Contains-turned}
use Rattle.embed_surgery.proofs.Inserts.{put_in_ring_law, IsPutIn, put_in_ring}
use Rattle.embed_contraction.specs.Linked.{HasEdge, IsThreeLinked, IsContractible, without_vertices}
use Rattle.embed_contraction.proofs.Parts.{rest-length, rest-old}
use Rattle.embed_contraction.proofs.Growth.{not_two, not_three}
use Rattle.embed_contraction.proofs.Rings.{IsRimmed, spoke, IsGapOf, HasTwo}
use Rattle.embed_contraction.proofs.Gaps.{gap_or_witness}
use Rattle.embed_theorem.specs.Expanded.{HasJustEdges, IsMapOf, HasFour, IsContractedInto, ExpandedEdge}
use Rattle.embed_theorem.proofs.Joined.{path_over, part_path, third_neighbour, follows_other, first_taken, empty_of}

-- two darts that share their face with a third
same_face-both : (lists : Lists) (d e f : Dart) → SameFace lists d e → SameFace lists d f → SameFace lists e f
same_face-both lists d e f h k =
    same_class-from (face_classes lists) (dart_number lists e) (dart_number lists f)
    (sym (Together-from (face_classes lists) (dart_number lists d) (dart_number lists e) h) ∙ Together-from (face_classes lists) (dart_number lists d) (dart_number lists f) k)

-- two neighbours on a ring
two_spokes : (graph : EdgeGraph) (ws : List ℕ) (v c d : ℕ) → has_edge graph v c ≡ true → has_edge graph v d ≡ true → c ≢ d → Contains ws c → Contains ws d → HasTwo (length ws) (spoke graph ws v)
two_spokes graph ws v c d ec ed ne in_c in_d =
    let at_c = get_or_default ws in_c.0 0 c in_c.1 ∙ in_c.2 in
    let at_d = get_or_default ws in_d.0 0 d in_d.1 ∙ in_d.2 in
    let pc = ap (has_edge graph v) at_c ∙ ec in
    let pd = ap (has_edge graph v) at_d ∙ ed in
    elim (cases_order in_c.0 in_d.0) [
      | inl e ↦ absurd (ne (sym at_c ∙ (ap (λ i. get_or ws i 0) e ∙ at_d)))
      | inr r ↦ elim r [
        | inl l ↦ record { one = in_c.0; other = in_d.0; order = (l, in_d.1); passes = (pc, pd) }
        | inr l ↦ record { one = in_d.0; other = in_c.0; order = (l, in_c.1); passes = (pd, pc) }
      ]
    ]

not_one : (a z : ℕ) → z ≢ a → ¬ Contains (a ∷ []) z
not_one a z n c = each_of_one (λ w. w ≡ z → ⊥) a (λ e. n (sym e)) z c refl

module _ (graph small : EdgeGraph) (lists : Lists) (x y : ℕ) (simple : IsSimpleMap lists) (just : HasJustEdges lists graph) (linked : IsThreeLinked lists) (four : HasFour lists) (con : IsContractible lists x y) (into : IsContractedInto graph small x y) (map : Lists) (of : IsMapOf map small) where
  abbrev E : ℕ → ℕ → Type 0
  E u v = has_edge graph u v ≡ true

  x_y : x ≢ y
  x_y e = simple.no_loop x y con.edge (sym e)

  hub : E x y
  hub = just.there x y con.edge

  turn : (u v : ℕ) → E u v → E v u
  turn u v e = has_edge-turned graph v u ∙ e

  x_edge : HasEdge lists x
  x_edge = (y, con.edge)

  y_edge : HasEdge lists y
  y_edge = (x, simple.both_ways x y con.edge)

  same_length : length map ≡ length lists
  same_length = of.edges.vertices ∙ (into.vertices ∙ sym just.vertices)

  -- an edge of the graph off y is one of the map
  to_map : (u v : ℕ) → u ≢ y → v ≢ y → E u v → HasDart map u v
  to_map u v n n' e = of.edges.all u v (into.kept u v n n' e)

  -- ---- the map without x
  abbrev M : Lists
  M = without_vertex x map

  simple_M : IsSimpleMap M
  simple_M = (restricted-map map (all_but x) of.simple).simple

  plane_M : IsPlane M
  plane_M = (restricted-map map (all_but x) of.simple).plane of.plane

  length_M : length M ≡ length lists
  length_M = length-restricted map (all_but x) ∙ same_length

  M_old : (u v : ℕ) → HasDart M u v → E u v × (u ≢ x) × (v ≢ x) × (u ≢ y) × (v ≢ y)
  M_old u v d =
      let o = restricted-old map (all_but x) u v d in
      let nu = eqb-false u x (not-true (eqb u x) o.1) in
      let nv = eqb-false v x (not-true (eqb v x) o.2) in
      let s = of.edges.there u v o.0 in
      let l = into.left u v s in
      (elim (into.edges u v s) [ inl e ↦ e | inr r ↦ elim r [ inl h ↦ absurd (nu h.0) | inr h ↦ absurd (nv h.0) ] ], nu, nv, l.0, l.1)

  M_new : (u v : ℕ) → E u v → u ≢ x → v ≢ x → u ≢ y → v ≢ y → HasDart M u v
  M_new u v e nu nv nu' nv' = rest_dart map x of.simple u v (to_map u v nu' nv' e) nu nv

  M_edge : (u v : ℕ) → HasDart M u v → HasEdge lists u
  M_edge u v d = (v, just.all u v (M_old u v d).0)

  -- neighbours of x in the map
  near_x : (p : ℕ) → HasDart map x p → (p ≢ x) × (p ≢ y) × HasEdge lists p
  near_x p d =
      let s = of.edges.there x p d in
      let n = of.simple.no_loop x p d in (
        n,
        (into.left x p s).1,
        elim (into.edges x p s) [
          | inl e ↦ (x, just.all p x (turn x p e))
          | inr r ↦ elim r [ inl h ↦ (y, just.all p y (turn y p h.1)) | inr h ↦ absurd (n h.0) ]
        ],
      )

  pub once_x : IsPassedOnce map x
  once_x =
      passed_once map x of.simple of.plane (λ a b ha hb ne.
      let na = near_x a ha in
      let nb = near_x b hb in
      let vs = x ∷ y ∷ [] in
      let same = linked x y a b na.2 nb.2 (not_two x y a na.0 na.1) (not_two x y b nb.0 nb.1) in
      path_over (without_vertices vs lists) map (x ∷ []) a b (rest-length lists simple vs ∙ sym same_length) (λ u v d.
      let o = rest-old lists simple vs u v d in
      let ux : u ≢ x = λ e. o.1 (subst (Contains vs) (sym e) (Contains-here x (y ∷ []))) in
      let vx : v ≢ x = λ e. o.2 (subst (Contains vs) (sym e) (Contains-here x (y ∷ []))) in
      let uy : u ≢ y = λ e. o.1 (subst (Contains vs) (sym e) (Contains-there x (y ∷ []) y (Contains-here y []))) in
      let vy : v ≢ y = λ e. o.2 (subst (Contains vs) (sym e) (Contains-there x (y ∷ []) y (Contains-here y []))) in
      (to_map u v uy vy (just.there u v o.0), not_one x u ux, not_one x v vx)) (not_one x a na.0) (part_path lists simple vs a b na.2.1.0 nb.2.1.0 same))

  once_M : (v : ℕ) → v ≢ x → v ≢ y → HasEdge lists v → IsPassedOnce M v
  once_M v nx ny edge =
      passed_once M v simple_M plane_M (λ a b ha hb ne.
      let oa = M_old v a ha in
      let ob = M_old v b hb in
      let ea = M_edge a v (simple_M.both_ways v a ha) in
      let eb = M_edge b v (simple_M.both_ways v b hb) in
      let av = simple_M.no_loop v a ha in
      let vs = x ∷ y ∷ v ∷ [] in
      let same = con.linked v edge nx ny a b ea eb (not_three x y v a oa.2 oa.4 av) (not_three x y v b ob.2 ob.4 (simple_M.no_loop v b hb)) in
      path_over (without_vertices vs lists) M (v ∷ []) a b (rest-length lists simple vs ∙ sym length_M) (λ u w d.
      let o = rest-old lists simple vs u w d in
      let at_x = Contains-here x (y ∷ v ∷ []) in
      let at_y = Contains-there x (y ∷ v ∷ []) y (Contains-here y (v ∷ [])) in
      let at_v = Contains-there x (y ∷ v ∷ []) v (Contains-there y (v ∷ []) v (Contains-here v [])) in (
        M_new u w (just.there u w o.0) (λ e. o.1 (subst (Contains vs) (sym e) at_x)) (λ e. o.2 (subst (Contains vs) (sym e) at_x)) (λ e. o.1 (subst (Contains vs) (sym e) at_y)) (λ e. o.2 (subst (Contains vs) (sym e) at_y)),
        not_one v u (λ e. o.1 (subst (Contains vs) (sym e) at_v)),
        not_one v w (λ e. o.2 (subst (Contains vs) (sym e) at_v)),
      )) (not_one v a av) (part_path lists simple vs a b ea.1.0 eb.1.0 same))

  pub more_x : (p : ℕ) → HasDart map x p → follows map p x ≢ x
  more_x p d =
      let n = near_x p d in
      let c = third_neighbour lists simple linked four p x y n.2 n.0 n.1 in
      follows_other map of.simple p x c.0 (of.simple.both_ways x p d) (to_map p c.0 n.1 c.3 (just.there p c.0 c.1)) c.2

  -- the dart that follows the one to x
  past : (p : ℕ) → HasDart map x p → HasDart M p (follows map p x)
  past p d = rest_dart map x of.simple p (follows map p x) (HasDart-follows map p x (of.simple.both_ways x p d)) (near_x p d).0 (more_x p d)

  -- ---- the ring
  pub around : (p : ℕ) → HasDart map x p → (z a b : ℕ) → HasDart M z a → HasDart M z b → SameFace M (p, follows map p x) (z, a) → SameFace M (p, follows map p x) (z, b) → a ≡ b
  around p d z a b ha hb fa fb =
      let o = M_old z a ha in
      once_M z o.1 o.3 (M_edge z a ha) a b ha hb (same_face-both M (p, follows map p x) (z, a) (z, b) fa fb)

  first : (c : ℕ) × HasDart lists x c × (c ≢ y) × (c ≢ y)
  first = third_neighbour lists simple linked four x y y x_edge x_y x_y

  -- a neighbour of x
  pub first_near : (p : ℕ) × HasDart map x p
  first_near = (first.0, to_map x first.0 x_y first.2 (just.there x first.0 first.1))

  pub some_ring : (ws : List ℕ) × IsRingOf M first_near.0 (follows map first_near.0 x) ws
  some_ring = face_is_ring M first_near.0 (follows map first_near.0 x) simple_M (past first_near.0 first_near.1) (around first_near.0 first_near.1)

  module _ (p : ℕ) (near : HasDart map x p) (ws : List ℕ) (ring : IsRingOf M p (follows map p x) ws) where
    on_ring : (q : ℕ) → HasDart map x q → Contains ws q
    on_ring q d = (ring.all q (follows map q x) (past q d) (hole_of_vertex map x of.simple once_x more_x p q near d)).0

    on_ring-x : (v : ℕ) → E x v → v ≢ y → Contains ws v
    on_ring-x v e n = on_ring v (to_map x v x_y n e)

    on_ring-y : (v : ℕ) → E y v → v ≢ x → Contains ws v
    on_ring-y v e n = on_ring v (of.edges.all x v (into.moved v n e))

    ring_dart : (w : ℕ) → Contains ws w → HasDart M w (entry_after w ws)
    ring_dart w c = ring.ring.darts w c

    pub rimmed : IsRimmed graph ws x y
    rimmed = record {
      distinct = ring.ring.distinct;
      below = λ w c. subst (λ n. w < n) (length_M ∙ just.vertices) (ring_dart w c).0;
      rim = λ w c. (M_old w (entry_after w ws) (ring_dart w c)).0;
      x_below = subst (λ n. x < n) just.vertices con.edge.0;
      y_below = subst (λ n. y < n) just.vertices y_edge.1.0;
      x_off = λ c. (M_old x (entry_after x ws) (ring_dart x c)).1 refl;
      y_off = λ c. (M_old y (entry_after y ws) (ring_dart y c)).3 refl;
      two = x_y;
      hub = hub;
    }

    y_x : y ≢ x
    y_x e = x_y (sym e)

    pub two_x : HasTwo (length ws) (spoke graph ws x)
    two_x =
        let c = third_neighbour lists simple linked four x y first.0 x_edge x_y (λ e. simple.no_loop x first.0 first.1 (sym e)) in
        let e = just.there x c.0 c.1 in
        let e0 = just.there x first.0 first.1 in
        two_spokes graph ws x first.0 c.0 e0 e (λ q. c.3 (sym q)) (on_ring-x first.0 e0 first.2) (on_ring-x c.0 e c.2)

    first_y : (c : ℕ) × HasDart lists y c × (c ≢ x) × (c ≢ x)
    first_y = third_neighbour lists simple linked four y x x y_edge y_x y_x

    pub two_y : HasTwo (length ws) (spoke graph ws y)
    two_y =
        let c = third_neighbour lists simple linked four y x first_y.0 y_edge y_x (λ e. simple.no_loop y first_y.0 first_y.1 (sym e)) in
        let e = just.there y c.0 c.1 in
        let e0 = just.there y first_y.0 first_y.1 in
        two_spokes graph ws y first_y.0 c.0 e0 e (λ q. c.3 (sym q)) (on_ring-y first_y.0 e0 first_y.2) (on_ring-y c.0 e c.2)

    -- ---- the two ends put in
    module _ (us vs : List ℕ) (a : ℕ) (mid : List ℕ) (b : ℕ) (back : List ℕ) (g : IsGapOf graph ws x y us vs a mid b back) where
      abbrev whole : List ℕ
      whole = a ∷ mid ++ b ∷ back

      abbrev gap : List ℕ
      gap = a ∷ mid ++ b ∷ []

      ring_M : IsRing M whole
      ring_M = subst (IsRing M) g.turned (ring_turned M us vs (subst (IsRing M) g.parts ring.ring))

      to_whole : (w : ℕ) → Contains ws w → Contains whole w
      to_whole w c = subst (λ l. Contains l w) g.turned (Contains-turned us vs w (subst (λ l. Contains l w) g.parts c))

      from_whole : (w : ℕ) → Contains whole w → Contains ws w
      from_whole w c = subst (λ l. Contains l w) (sym g.parts) (Contains-turned vs us w (subst (λ l. Contains l w) (sym g.turned) c))

      in_M : (v : ℕ) → HasEdge lists v → v < length M
      in_M v e = subst (λ n. v < n) (sym length_M) e.1.0

      empty_x : list_of M x ≡ []
      empty_x = empty_of (list_of M x) (λ z c. (M_old x z (in_M x x_edge, c)).1 refl)

      abbrev N : Lists
      N = put_in_ring (λ w. has_edge graph x w) x M whole

      with_x : IsPutIn M N whole (λ w. has_edge graph x w) x × IsRing N (x ∷ a ∷ mid ++ b ∷ [])
      with_x = put_in_ring_law M x a mid b back (λ w. has_edge graph x w) simple_M plane_M (in_M x x_edge) empty_x ring_M g.first g.last g.none

      put_x : IsPutIn M N whole (λ w. has_edge graph x w) x
      put_x = with_x.0

      N_edge : (u v : ℕ) → HasDart N u v → E u v
      N_edge u v d =
          elim (put_x.only u v d) [
            | inl h ↦ (M_old u v h).0
            | inr r ↦ elim r [
              | inl h ↦ ap (λ w. has_edge graph w v) h.0 ∙ h.1.1
              | inr h ↦ ap (has_edge graph u) h.0 ∙ turn x u h.1.1
            ]
          ]

      in_N : y < length N
      in_N = subst (λ n. y < n) (sym put_x.vertices) (in_M y y_edge)

      empty_y : list_of N y ≡ []
      empty_y =
          empty_of (list_of N y) (λ z c.
          elim (put_x.only y z (in_N, c)) [
            | inl h ↦ (M_old y z h).3 refl
            | inr r ↦ elim r [ inl h ↦ y_x h.0 | inr h ↦ rimmed.y_off (from_whole y h.1.0) ]
          ])

      split : (front : List ℕ) × (b' : ℕ) × (back' : List ℕ) × (gap ≡ front ++ b' ∷ back') × (has_edge graph y b' ≡ true) × ((z : ℕ) → Contains front z → has_edge graph y z ≡ false)
      split =
          let e = just.there y first_y.0 first_y.1 in
          first_taken (λ w. has_edge graph y w) gap first_y.0 (g.all first_y.0 (on_ring-y first_y.0 e first_y.2) e) e

      abbrev N' : Lists
      N' = put_in_ring (λ w. has_edge graph y w) y N (x ∷ gap)

      put_y : IsPutIn N N' (x ∷ gap) (λ w. has_edge graph y w) y
      put_y =
          subst (λ l. IsPutIn N (put_in_ring (λ w. has_edge graph y w) y N (x ∷ l)) (x ∷ l) (λ w. has_edge graph y w) y) (sym split.3)
          (put_in_ring_law N y x split.0 split.1 split.2 (λ w. has_edge graph y w) put_x.simple put_x.plane in_N empty_y (subst (λ l. IsRing N (x ∷ l)) split.3 with_x.1) (turn x y hub) split.4 split.5).0

      at_y : (v : ℕ) → E y v → HasDart N' y v
      at_y v e =
          put_y.edges v (
            elim (cases_eq v x) [
              | inl q ↦ subst (Contains (x ∷ gap)) (sym q) (Contains-here x gap)
              | inr n ↦ Contains-there x gap v (g.all v (on_ring-y v e n) e)
            ],
            e,
          )

      at_x : (v : ℕ) → v ≢ y → E x v → HasDart N' x v
      at_x v n e = put_y.kept x v (put_x.edges v (to_whole v (on_ring-x v e n), e))

      all_edges : (u v : ℕ) → E u v → HasDart N' u v
      all_edges u v e =
          elim (cases_eq u y) [
            | inl q ↦ subst (λ w. HasDart N' w v) (sym q) (at_y v (ap (λ w. has_edge graph w v) (sym q) ∙ e))
            | inr uy ↦ elim (cases_eq v y) [
              | inl q ↦ put_y.simple.both_ways v u (subst (λ w. HasDart N' w u) (sym q) (at_y u (turn u y (ap (has_edge graph u) (sym q) ∙ e))))
              | inr vy ↦ elim (cases_eq u x) [
                | inl q ↦ subst (λ w. HasDart N' w v) (sym q) (at_x v vy (ap (λ w. has_edge graph w v) (sym q) ∙ e))
                | inr ux ↦ elim (cases_eq v x) [
                  | inl q ↦ put_y.simple.both_ways v u (subst (λ w. HasDart N' w u) (sym q) (at_x u uy (turn u x (ap (has_edge graph u) (sym q) ∙ e))))
                  | inr vx ↦ put_y.kept u v (put_x.kept u v (M_new u v e ux vx uy vy))
                ]
              ]
            ]
          ]

      pub made : IsMapOf N' graph
      made = record {
        simple = put_y.simple;
        plane = put_y.plane;
        edges = record {
          vertices = put_y.vertices ∙ (put_x.vertices ∙ (length_M ∙ just.vertices));
          there = λ u v d. elim (put_y.only u v d) [
            | inl h ↦ N_edge u v h
            | inr r ↦ elim r [
              | inl h ↦ ap (λ w. has_edge graph w v) h.0 ∙ h.1.1
              | inr h ↦ ap (has_edge graph u) h.0 ∙ turn y u h.1.1
            ]
          ];
          all = all_edges;
        };
      }

-- THE LAW: a contracted edge expanded
pub expanded_edge : ExpandedEdge
expanded_edge graph small lists x y simple just linked four con into map of =
    let near = first_near graph small lists x y simple just linked four con into map of in
    let found = some_ring graph small lists x y simple just linked four con into map of in
    elim (gap_or_witness graph found.0 x y (rimmed graph small lists x y simple just linked four con into map of near.0 near.1 found.0 found.1) (two_x graph small lists x y simple just linked four con into map of near.0 near.1 found.0 found.1) (two_y graph small lists x y simple just linked four con into map of near.0 near.1 found.0 found.1)) [
      | inl w ↦ inl w
      | inr r ↦ inr (put_in_ring (λ w. has_edge graph y w) y (put_in_ring (λ w. has_edge graph x w) x (without_vertex x map) (r.2 ∷ r.3 ++ r.4 ∷ r.5)) (x ∷ r.2 ∷ r.3 ++ r.4 ∷ []), made graph small lists x y simple just linked four con into map of near.0 near.1 found.0 found.1 r.0 r.1 r.2 r.3 r.4 r.5 r.6)
    ]
