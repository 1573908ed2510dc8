-- Chords of faces: where two vertices of a face are adjacent, they part two others of it; and what an ear that is cut leaves.
use Rattle.std.proofs.Common.{◌≡◌, ◌≢◌, ◌⊎◌, ℕ, ◌<◌, List, [], ◌∷◌, ◌++◌, length, get_or, Contains, refl, sym, ap, ap₂, ◌∙◌, subst, inl, inr, arith, ◌==◌}
use Rattle.std.specs.List.{list_any}
use Rattle.std.proofs.lemmas.Bool.{cases_Bool, cases_eq, false≢true}
use Rattle.std.proofs.lemmas.List.{get_or_default}
use Rattle.std.proofs.lemmas.List.Elements.{Contains-append_left}
use Rattle.classes.specs.Classes.{label}
use Rattle.classes.proofs.Classes.{Together}
use Rattle.classes.proofs.Orbits.{orbits_of}
use Rattle.classes.proofs.Bound.{after}
use Rattle.map_lists.specs.Lists.{Lists}
use Rattle.map_theory.specs.Maps.{Dart, list_of, HasDart, IsSimpleMap, follows, face_step, entry_after, dart_number, dart_count}
use Rattle.map_theory.specs.Paths.{SameFace, JoinsAvoiding, arc, from_entry}
use Rattle.map_theory.proofs.EntryLemmas.{Contains-cons_cases, Contains-from_list_any, list_any-from_Contains}
use Rattle.map_theory.proofs.DartLemmas.{HasDart-follows, HasDart-face_step, entry_after-injective}
use Rattle.map_theory.proofs.DartPermutations.{rotation, twin}
use Rattle.plane_laws.specs.Laws.{IsTriangle, side}
use Rattle.map_theory.proofs.ArcLemmas.{from_entry-first, from_entry-next, from_entry-not_first, from_entry-has, length-from_entry, arc-first, arc-last}
use Rattle.plane_laws.proofs.DartPaths.{face_step_together, same_face}
use Rattle.plane_laws.proofs.ComponentPaths.{JoinsAvoiding-itself, JoinsAvoiding-more}
use Rattle.plane_laws.proofs.CornerSplit.{corner_split}
use Rattle.plane_laws.proofs.DigonSplit.{digon_split}
use Rattle.plane_laws.proofs.Triangles.{faces_have_three}
use Rattle.plane_laws.specs.Chords.{CanJoin, OneChord, CornerChord, SomeEar, EarCut}
use Rattle.plane_laws.specs.WithEdge.{with_edge_after}
use Rattle.plane_laws.proofs.WithEdge.{with_edge_after_law, edge_put_in_face}

-- two vertices are adjacent or not
adjacent_or_not : (lists : Lists) (u v : ℕ) → u < length lists → HasDart lists u v ⊎ (¬ HasDart lists u v)
adjacent_or_not lists u v l =
    elim (cases_Bool (list_any (λ w. w == v) (list_of lists u))) [
      | inl t ↦ inl (l, Contains-from_list_any v (list_of lists u) t)
      | inr t ↦ inr (λ h. false≢true (sym t ∙ list_any-from_Contains v (list_of lists u) h.1))
    ]

-- where an entry comes after itself, it stands alone
alone : (lists : Lists) → IsSimpleMap lists → (v a z : ℕ) → HasDart lists v a → follows lists v a ≡ a → HasDart lists v z → z ≡ a
alone lists simple v a z has e h =
    let us = list_of lists v in
    let distinct = simple.no_repeat v has.0 in
    let at = from_entry-has us a distinct has.1 z h.1 in
    let n = length-from_entry us a distinct has.1 in
    let l = at.1 in
    elim (cases_eq at.0 0) [
      | inl q ↦ sym at.2 ∙ (get_or_default (from_entry a us) at.0 z 0 l ∙ (ap (λ i. get_or (from_entry a us) i 0) q ∙ from_entry-first us a distinct has.1))
      | inr q ↦
          let first = from_entry-first us a distinct has.1 in
          let next = from_entry-next us a distinct has.1 0 (omega arith) in
          absurd (from_entry-not_first us a distinct has.1 1 (omega arith) (omega arith) (sym next ∙ (ap (λ x. entry_after x us) first ∙ e)))
    ]

-- vertices that a path of one or two vertices would join, and none does
apart_from_paths : (lists : Lists) (avoided : List ℕ) (s t : ℕ) → IsSimpleMap lists → s < length lists → ¬ Contains avoided s → ¬ Contains avoided t → ((path : List ℕ) → ¬ JoinsAvoiding lists avoided s t path) → CanJoin lists s t
apart_from_paths lists avoided s t simple l off off' none =
    let one = JoinsAvoiding-itself lists avoided s l off in (
      (λ e. none (s ∷ []) (subst (λ x. JoinsAvoiding lists avoided s x (s ∷ [])) e one)),
      λ h. none (s ∷ [] ++ t ∷ []) (JoinsAvoiding-more lists avoided s s t (s ∷ []) h (simple.in_range s t h) off' one),
    )

not_one : (x y : ℕ) → x ≢ y → ¬ Contains (x ∷ []) y
not_one x y ne h = elim (Contains-cons_cases x [] y h) [ inl e ↦ ne e | inr n ↦ (let some = n.1 in absurd (omega arith)) ]

not_two : (x x' y : ℕ) → x ≢ y → x' ≢ y → ¬ Contains (x ∷ x' ∷ []) y
not_two x x' y ne ne' h = elim (Contains-cons_cases x (x' ∷ []) y h) [ inl e ↦ ne e | inr n ↦ not_one x' y ne' n ]

-- two steps along a face
two_along : (lists : Lists) → IsSimpleMap lists → (a b c : ℕ) → HasDart lists a b → follows lists b a ≡ c → Together (orbits_of (after (rotation lists) (twin lists)) (dart_count lists)) (dart_number lists (a, b)) (dart_number lists (c, follows lists c b))
two_along lists simple a b c has e =
    let L = label (orbits_of (after (rotation lists) (twin lists)) (dart_count lists)) in
    let has_bc : HasDart lists b c = subst (HasDart lists b) e (HasDart-follows lists b a (simple.both_ways a b has)) in
    face_step_together lists simple (a, b) has ∙ (ap (λ z. L (dart_number lists (b, z))) e ∙ face_step_together lists simple (b, c) has_bc)

-- THE LAW: of two neighbouring chords one may be put in
pub one_chord : OneChord
one_chord lists a b c x simple plane has e e' x_a lone =
    let back = simple.both_ways a b has in
    let has_bc : HasDart lists b c = subst (HasDart lists b) e (HasDart-follows lists b a back) in
    let has_cx : HasDart lists c x = subst (HasDart lists c) e' (HasDart-follows lists c b (simple.both_ways b c has_bc)) in
    elim (cases_eq a c) [
      | inl q ↦ inr ((λ s. lone (q, s)), λ h. x_a (alone lists simple b a x back (e ∙ sym q) h))
      | inr ne ↦
          elim (adjacent_or_not lists a c has.0) [
            | inr far ↦ inl (ne, far)
            | inl near ↦
                let face = same_face lists simple (a, b) (c, x) (two_along lists simple a b c has e ∙ ap (λ z. label (orbits_of (after (rotation lists) (twin lists)) (dart_count lists)) (dart_number lists (c, z))) e') in
                let b_c : b ≢ c = λ s. simple.no_loop b c has_bc (sym s) in
                let in_s : Contains (side lists a c b x) b =
                Contains-append_left (arc (list_of lists a) b c) (arc (list_of lists c) (follows lists c a) x) b (arc-first (list_of lists a) b (simple.no_repeat a has.0) has.1 c b_c near.1) in
                let far_c = simple.both_ways a c near in
                let in_t : Contains (side lists c a x b) x =
                Contains-append_left (arc (list_of lists c) x a) (arc (list_of lists a) (follows lists a c) b) x (arc-first (list_of lists c) x (simple.no_repeat c has_cx.0) has_cx.1 a x_a far_c.1) in
                inr (apart_from_paths lists (a ∷ c ∷ []) b x simple back.0
                (not_two a c b (λ s. simple.no_loop a b has (sym s)) (λ s. b_c (sym s)))
                (not_two a c x (λ s. x_a (sym s)) (λ s. simple.no_loop c x has_cx (sym s)))
                (digon_split lists a c b x simple plane near has has_cx face b x in_s in_t))
          ]
    ]

-- THE LAW: a chord past a vertex that a face meets twice
pub corner_chord : CornerChord
corner_chord lists a b c y simple plane has e e' e'' ne =
    let has_bc : HasDart lists b c = subst (HasDart lists b) e (HasDart-follows lists b a (simple.both_ways a b has)) in
    let has_ca : HasDart lists c a = subst (HasDart lists c) e' (HasDart-follows lists c b (simple.both_ways b c has_bc)) in
    let has_ac = simple.both_ways c a has_ca in
    let has_ay : HasDart lists a y = subst (HasDart lists a) e'' (HasDart-follows lists a c has_ac) in
    let L = label (orbits_of (after (rotation lists) (twin lists)) (dart_count lists)) in
    let face = same_face lists simple (a, b) (a, y)
    (two_along lists simple a b c has e ∙ (ap (λ z. L (dart_number lists (c, z))) e' ∙ (face_step_together lists simple (c, a) has_ca ∙ ap (λ z. L (dart_number lists (a, z))) e''))) in
    let us = list_of lists a in
    let distinct = simple.no_repeat a has.0 in
    let b_y : b ≢ y = λ s. ne (sym s) in
    let in_t = arc-first us y distinct has_ay.1 b ne has.1 in
    apart_from_paths lists (a ∷ []) c y simple has_ca.0
    (not_one a c (λ s. simple.no_loop a c has_ac (sym s)))
    (not_one a y (λ s. simple.no_loop a y has_ay (sym s)))
    (corner_split lists a b y simple plane has has_ay b_y face c y (arc-last us b distinct has.1 y c b_y has_ay.1 has_ac.1 e'') in_t)

-- THE LAW: a face that is no triangle has an ear
pub some_ear : SomeEar
some_ear lists a b simple plane one some has large =
    let c = follows lists b a in
    let x = follows lists c b in
    let has_bc = HasDart-follows lists b a (simple.both_ways a b has) in
    let has_cx = HasDart-follows lists c b (simple.both_ways b c has_bc) in
    elim (cases_eq x a) [
      | inl q ↦
          let y_b : follows lists a c ≢ b = λ s. large (ap₂ (λ v w. (v, w)) q (ap (λ v. follows lists v c) q ∙ s)) in
          inr (inr (has_cx, subst (λ v. CanJoin lists c (follows lists v c)) (sym q) (corner_chord lists a b c (follows lists a c) simple plane has refl q refl y_b)))
      | inr ne ↦
          let three = faces_have_three lists a b simple one some has in
          elim (one_chord lists a b c x simple plane has refl refl ne (λ s. three.1 (ap₂ (λ v w. (v, w)) (sym s.0) (sym s.1)))) [
            | inl j ↦ inl (has, j)
            | inr j ↦ inr (inl (has_bc, j))
          ]
    ]

-- THE LAW: an ear cut
pub ear_cut : EarCut
ear_cut lists p a b c simple plane has_p e e' join =
    let has_ab : HasDart lists a b = subst (HasDart lists a) e (HasDart-follows lists a p has_p) in
    let back = simple.both_ways a b has_ab in
    let has_bc : HasDart lists b c = subst (HasDart lists b) e' (HasDart-follows lists b a back) in
    let has_cb = simple.both_ways b c has_bc in
    let new = with_edge_after lists a p c b in
    let put = (with_edge_after_law lists a p c b simple has_p has_cb join.0 join.1).1 in
    let face : SameFace lists (a, follows lists a p) (c, follows lists c b) =
    subst (λ z. SameFace lists (a, z) (c, follows lists c b)) (sym e) (same_face lists simple (a, b) (c, follows lists c b) (two_along lists simple a b c has_ab e')) in
    let both = edge_put_in_face lists a p c b simple plane has_p has_cb join.0 join.1 face in
    let at_b : follows new b a ≡ c = put.other b a back (λ s. absurd (simple.no_loop a b has_ab s)) (λ s. absurd (simple.no_loop b c has_bc (sym s))) ∙ e' in
    let at_c : follows new c b ≡ a = put.turn' in
    let at_a : follows new a c ≡ b = put.next ∙ e in
    let same : (w z : ℕ) → HasDart lists w z → IsTriangle lists (w, z) → face_step new (w, z) ≡ face_step lists (w, z) = λ w z h t.
    let third : follows lists (follows lists z w) z ≡ w = ap (λ d. d.0) t in
    let closes : follows lists w (follows lists z w) ≡ z = ap (λ v. follows lists v (follows lists z w)) (sym third) ∙ ap (λ d. d.1) t in
    let zw = simple.both_ways w z h in
    let off : z ≡ a → w ≢ p = λ q r.
    join.1 (subst (HasDart lists a) (sym (sym e' ∙ (ap₂ (follows lists) (sym (ap₂ (follows lists) q r ∙ e)) (sym q) ∙ (third ∙ r)))) has_p) in
    let off' : z ≡ c → w ≢ b = λ q r.
    let t' = follows lists z w in
    let has_t : HasDart lists w t' =
    simple.both_ways t' w (subst (HasDart lists t') third (HasDart-follows lists t' z (simple.both_ways z t' (HasDart-follows lists z w zw)))) in
    let is_a : t' ≡ a =
    entry_after-injective (list_of lists b) t' a (simple.no_repeat b back.0) (subst (λ v. HasDart lists v t') r has_t).1 back.1 (ap (λ v. follows lists v t') (sym r) ∙ (closes ∙ (q ∙ sym e'))) in
    join.1 (simple.both_ways c a (subst (λ v. HasDart lists v a) q (subst (HasDart lists z) is_a (HasDart-follows lists z w zw)))) in
    ap (λ y. (z, y)) (put.other z w zw off off') in
    record {
      simple = both.0;
      split = both.1;
      triangle = ap (λ d. face_step new (face_step new d)) (ap (λ y. (b, y)) at_b) ∙ (ap (face_step new) (ap (λ y. (c, y)) at_c) ∙ ap (λ y. (a, y)) at_a);
      kept = λ w z h t.
          let d : Dart = (w, z) in
          let h1 = HasDart-face_step lists d simple h in
          let h2 = HasDart-face_step lists (face_step lists d) simple h1 in
          let t1 = ap (face_step lists) t in
          ap (λ x. face_step new (face_step new x)) (same w z h t)
          ∙ (ap (face_step new) (same (face_step lists d).0 (face_step lists d).1 h1 t1)
          ∙ (same (face_step lists (face_step lists d)).0 (face_step lists (face_step lists d)).1 h2 (ap (face_step lists) t1) ∙ t));
    }
