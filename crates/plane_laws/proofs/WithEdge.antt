-- Lists with an edge more: a simple map, whose map without the edge is the old one.
use Rattle.std.proofs.Common.{◌≡◌, ◌≢◌, ◌⊎◌, ℕ, ◌+◌, ◌<◌, ◌≤◌, List, [], length, get_or, set, AllPairs, Contains, sym, ap, ◌∙◌, subst, inl, inr, arith, length-set, get_or-set_same, get_or-set_other}
use Rattle.std.specs.List.{insert}
use Rattle.std.proofs.lemmas.Bool.{cases_eq}
use Rattle.std.proofs.lemmas.List.{get_or_default, ext_get_or}
use Rattle.classes.specs.Classes.{label}
use Rattle.classes.proofs.Classes.{same_class-from}
use Rattle.map_theory.specs.Maps.{SameComponent, list_of, place_of, HasDart, IsSimpleMap, IsPlane, follows, entry_after, component_classes}
use Rattle.map_theory.proofs.DartPermutations.{edge_together}
use Rattle.map_lists.specs.Lists.{Lists}
use Rattle.map_theory.specs.Edges.{without_edge, without_entry}
use Rattle.map_theory.specs.Paths.{SameFace}
use Rattle.map_theory.proofs.DartLemmas.{entry_after-injective, place_of-lt-length, HasDart-follows}
use Rattle.map_theory.proofs.WithoutEdge.{length-without_edge, list_at_first, list_at_second, list_elsewhere, follows_same}
use Rattle.plane_laws.specs.Added.{IsSplitFace, IsJoinedFaces}
use Rattle.plane_laws.specs.WithEdge.{with_edge_at, entry_at, IsEdgeMore, WithEdge, WithEdgeAfter, with_edge_after}
use Rattle.plane_laws.proofs.InsertedEntry.{insert-new, insert-kept, insert-old, insert-distinct, without-insert, entry_after-insert, entry_after-put}
use Rattle.plane_laws.proofs.EdgeAdded.{edge_in_face, edge_between}

module _ (lists : Lists) (u i v j : ℕ) (simple : IsSimpleMap lists) (in_u : u < length lists) (in_v : v < length lists) (u_v : u ≢ v) (far : ¬ HasDart lists u v) (at_u : i ≤ length (list_of lists u)) (at_v : j ≤ length (list_of lists v)) where
  abbrev pub new : Lists
  new = with_edge_at lists u i v j

  abbrev pub us : List ℕ
  us = list_of lists u

  abbrev pub vs : List ℕ
  vs = list_of lists v

  pub length-new : length new ≡ length lists
  length-new = length-set (set lists u (insert us i v)) v (insert vs j u) ∙ length-set lists u (insert us i v)

  pub new_first : list_of new u ≡ insert us i v
  new_first = get_or-set_other (set lists u (insert us i v)) v u (insert vs j u) [] u_v ∙ get_or-set_same lists u (insert us i v) [] in_u

  pub new_second : list_of new v ≡ insert vs j u
  new_second = get_or-set_same (set lists u (insert us i v)) v (insert vs j u) [] (omega (arith, length-set lists u (insert us i v)))

  pub new_elsewhere : (w : ℕ) → w ≢ u → w ≢ v → list_of new w ≡ list_of lists w
  new_elsewhere w nu nv = get_or-set_other (set lists u (insert us i v)) v w (insert vs j u) [] nv ∙ get_or-set_other lists u w (insert us i v) [] nu

  absent : ¬ Contains us v
  absent c = far (in_u, c)

  absent' : ¬ Contains vs u
  absent' c = far (simple.both_ways v u (in_v, c))

  -- a dart of the new lists is an old one, or one of the edge
  new_dart : (w z : ℕ) → HasDart new w z → HasDart lists w z ⊎ (((w ≡ u) × (z ≡ v)) ⊎ ((w ≡ v) × (z ≡ u)))
  new_dart w z h =
      let in_w : w < length lists = let l = h.0 in omega (arith, length-new) in
      elim (cases_eq w u) [
        | inl e ↦
            elim (insert-old us i v absent at_u z (subst (λ l. Contains l z) (ap (list_of new) e ∙ new_first) h.1)) [
              | inl q ↦ inr (inl (e, q))
              | inr c ↦ inl (in_w, subst (λ x. Contains (list_of lists x) z) (sym e) c)
            ]
        | inr nu ↦
            elim (cases_eq w v) [
              | inl e ↦
                  elim (insert-old vs j u absent' at_v z (subst (λ l. Contains l z) (ap (list_of new) e ∙ new_second) h.1)) [
                    | inl q ↦ inr (inr (e, q))
                    | inr c ↦ inl (in_w, subst (λ x. Contains (list_of lists x) z) (sym e) c)
                  ]
              | inr nv ↦ inl (in_w, subst (λ l. Contains l z) (new_elsewhere w nu nv) h.1)
            ]
      ]

  -- each old dart is one of the new
  kept_dart : (w z : ℕ) → HasDart lists w z → HasDart new w z
  kept_dart w z h =
      let in_w : w < length new = let l = h.0 in omega (arith, length-new) in (
        in_w,
        elim (cases_eq w u) [
          | inl e ↦ subst (λ l. Contains l z) (sym (ap (list_of new) e ∙ new_first)) (insert-kept us i v absent at_u z (subst (λ x. Contains (list_of lists x) z) e h.1))
          | inr nu ↦
              elim (cases_eq w v) [
                | inl e ↦ subst (λ l. Contains l z) (sym (ap (list_of new) e ∙ new_second)) (insert-kept vs j u absent' at_v z (subst (λ x. Contains (list_of lists x) z) e h.1))
                | inr nv ↦ subst (λ l. Contains l z) (sym (new_elsewhere w nu nv)) h.1
              ]
        ],
      )

  edge_there : HasDart new u v
  edge_there = let n = length-new in (omega arith, subst (λ l. Contains l v) (sym new_first) (insert-new us i v absent at_u))

  edge_back : HasDart new v u
  edge_back = let n = length-new in (omega arith, subst (λ l. Contains l u) (sym new_second) (insert-new vs j u absent' at_v))

  IsSimpleMap-new : IsSimpleMap new
  IsSimpleMap-new =
      let n = length-new in
      record {
        some_vertex = omega arith;
        in_range = λ w z h. elim (new_dart w z h) [
          | inl d ↦ let l = simple.in_range w z d in omega arith
          | inr r ↦ elim r [ inl e ↦ let q = e.1 in omega arith | inr e ↦ let q = e.1 in omega arith ]
        ];
        no_loop = λ w z h. elim (new_dart w z h) [
          | inl d ↦ simple.no_loop w z d
          | inr r ↦ elim r [ inl e ↦ (λ q. u_v (sym e.0 ∙ (sym q ∙ e.1))) | inr e ↦ (λ q. u_v (sym e.1 ∙ (q ∙ e.0))) ]
        ];
        no_repeat = λ w l.
            grind (arith, cases_eq, AllPairs, list_of, new, new_first, insert-distinct, us, absent, new_second, vs, absent', new_elsewhere);
        both_ways = λ w z h. elim (new_dart w z h) [
          | inl d ↦ kept_dart z w (simple.both_ways w z d)
          | inr r ↦ elim r [
            | inl e ↦ subst (λ x. HasDart new z x) (sym e.0) (subst (λ x. HasDart new x u) (sym e.1) edge_back)
            | inr e ↦ subst (λ x. HasDart new z x) (sym e.0) (subst (λ x. HasDart new x v) (sym e.1) edge_there)
          ]
        ];
      }

  old_again : without_edge new u v ≡ lists
  old_again =
      let s = IsSimpleMap-new in
      ext_get_or [] (without_edge new u v) lists (omega (arith, length-without_edge new s u v edge_there, length-new)) (λ w l.
      elim (cases_eq w u) [
        | inl e ↦ rw e (list_at_first new s u v edge_there ∙ (ap (λ l. without_entry l v) new_first ∙ without-insert us i v absent at_u))
        | inr nu ↦
            elim (cases_eq w v) [
              | inl e ↦ rw e (list_at_second new s u v edge_there ∙ (ap (λ l. without_entry l u) new_second ∙ without-insert vs j u absent' at_v))
              | inr nv ↦ list_elsewhere new s u v edge_there w nu nv ∙ new_elsewhere w nu nv
            ]
      ])

  pub edge_more : IsEdgeMore lists new u i v j
  edge_more =
      record {
        simple = IsSimpleMap-new;
        edge = edge_there;
        kept = kept_dart;
        only = new_dart;
        without = old_again;
        next = ap (entry_after v) new_first ∙ entry_after-insert us i v absent at_u;
        next' = ap (entry_after u) new_second ∙ entry_after-insert vs j u absent' at_v;
      }

-- THE LAW: an edge more
pub with_edge : WithEdge
with_edge lists u i v j simple in_u in_v u_v far at_u at_v = edge_more lists u i v j simple in_u in_v u_v far at_u at_v

-- what an entry that is put in directly after another comes before
pub entry_at-after : (us : List ℕ) (a x : ℕ) → Contains us a → entry_at us (place_of a us + 1) x ≡ entry_after a us
unfolding entry_after
entry_at-after us a x has =
    ap (get_or us (place_of a us + 1)) (get_or_default us 0 x a (omega arith))

-- no two entries of a list have one entry after them
follows_apart : (lists : Lists) → IsSimpleMap lists → (v x y : ℕ) → HasDart lists v x → HasDart lists v y → follows lists v x ≡ follows lists v y → x ≡ y
follows_apart lists simple v x y h h' e = entry_after-injective (list_of lists v) x y (simple.no_repeat v h.0) h.1 h'.1 e

-- THE LAW: an edge between two corners, and what follows what with it
pub with_edge_after_law : WithEdgeAfter
with_edge_after_law lists u a v c simple has_a has_c u_v far =
    let us = list_of lists u in
    let vs = list_of lists v in
    let i = place_of a us + 1 in
    let j = place_of c vs + 1 in
    let in_i = place_of-lt-length a us has_a.1 in
    let in_j = place_of-lt-length c vs has_c.1 in
    let new = with_edge_at lists u i v j in
    let more = with_edge lists u i v j simple has_a.0 has_c.0 u_v far (omega arith) (omega arith) in
    let new_u = new_first lists u i v j simple has_a.0 has_c.0 u_v far (omega arith) (omega arith) in
    let new_v = new_second lists u i v j simple has_a.0 has_c.0 u_v far (omega arith) (omega arith) in
    let turn : follows new u a ≡ v = ap (entry_after a) new_u ∙ entry_after-put us a v has_a.1 in
    let turn' : follows new v c ≡ u = ap (entry_after c) new_v ∙ entry_after-put vs c u has_c.1 in (
      more,
      record {
        turn = turn;
        turn' = turn';
        next = more.next ∙ entry_at-after us a v has_a.1;
        next' = more.next' ∙ entry_at-after vs c u has_c.1;
        other = λ w z h not_a not_c.
            let there = more.kept w z h in
            let stays = follows_same new more.simple u v more.edge w z (subst (λ l. HasDart l w z) (sym more.without) h)
            (λ e q. not_a e (follows_apart new more.simple u z a (subst (λ x. HasDart new x z) e there) (more.kept u a has_a) (ap (λ x. follows new x z) (sym e) ∙ (q ∙ sym turn))))
            (λ e q. not_c e (follows_apart new more.simple v z c (subst (λ x. HasDart new x z) e there) (more.kept v c has_c) (ap (λ x. follows new x z) (sym e) ∙ (q ∙ sym turn')))) in
            sym stays ∙ ap (λ l. follows l w z) more.without;
      },
    )

-- An edge put between two corners of one face, in the words of the map before.
pub edge_put_in_face : (lists : Lists) (u a v c : ℕ) → IsSimpleMap lists → IsPlane lists → HasDart lists u a → HasDart lists v c → u ≢ v → ¬ HasDart lists u v → SameFace lists (u, follows lists u a) (v, follows lists v c) → IsSimpleMap (with_edge_after lists u a v c) × IsSplitFace lists (with_edge_after lists u a v c) u v
edge_put_in_face lists u a v c simple plane has_a has_c u_v far face =
    let us = list_of lists u in
    let vs = list_of lists v in
    let i = place_of a us + 1 in
    let j = place_of c vs + 1 in
    let in_i = place_of-lt-length a us has_a.1 in
    let in_j = place_of-lt-length c vs has_c.1 in
    let new = with_edge_at lists u i v j in
    let more = with_edge lists u i v j simple has_a.0 has_c.0 u_v far (omega arith) (omega arith) in
    let next : follows new u v ≡ follows lists u a = more.next ∙ entry_at-after us a v has_a.1 in
    let next' : follows new v u ≡ follows lists v c = more.next' ∙ entry_at-after vs c u has_c.1 in
    let not_v : follows new u v ≢ v = λ e. far (subst (HasDart lists u) (sym next ∙ e) (HasDart-follows lists u a has_a)) in
    let not_u : follows new v u ≢ u = λ e. far (simple.both_ways v u (subst (HasDart lists v) (sym next' ∙ e) (HasDart-follows lists v c has_c))) in
    let plane' : IsPlane (without_edge new u v) = subst IsPlane (sym more.without) plane in
    let face' : SameFace (without_edge new u v) (u, follows new u v) (v, follows new v u) =
    rw (more.without, next, next') face in
    (more.simple, subst (λ old. IsSplitFace old new u v) more.without (edge_in_face new u v more.simple more.edge not_v not_u plane' face'))

-- An edge put between two components, at any places, in the words of the map before.
pub edge_put_between : (lists : Lists) (u i v j : ℕ) → IsSimpleMap lists → IsPlane lists → u < length lists → v < length lists → ¬ SameComponent lists u v → i ≤ length (list_of lists u) → j ≤ length (list_of lists v) → IsSimpleMap (with_edge_at lists u i v j) × IsJoinedFaces lists (with_edge_at lists u i v j) u v
edge_put_between lists u i v j simple plane in_u in_v far at_u at_v =
    let together = same_class-from (component_classes lists) u v in
    let u_v : u ≢ v = λ e. far (together (ap (label (component_classes lists)) e)) in
    let new = with_edge_at lists u i v j in
    let more = with_edge lists u i v j simple in_u in_v u_v (λ h. far (together (edge_together lists simple u v h))) at_u at_v in
    let joined = edge_between new u v more.simple more.edge (subst IsPlane (sym more.without) plane) (subst (λ old. ¬ SameComponent old u v) (sym more.without) far) in
    (more.simple, subst (λ old. IsJoinedFaces old new u v) more.without joined)
