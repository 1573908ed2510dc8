-- Faces that are left do not cross: the two vertices of the one are cut at their corners in it and outside, which parts the stretches of the contour beside them; and the other stays in one class.
use Rattle.std.proofs.Common.{◌≡◌, ◌≢◌, ◌⊎◌, ℕ, zero, suc, ◌+◌, ◌<◌, ◌≤◌, Bool, true, [], ◌∷◌, Contains, refl, sym, ap, ◌∙◌, subst, inl, inr, arith, List, ◌-◌}
use Rattle.std.proofs.lemmas.Bool.{cases_eq}
use Rattle.classes.specs.Classes.{label}
use Rattle.classes.proofs.Classes.{Together}
use Rattle.classes.proofs.Orbits.{orbits_of}
use Rattle.classes.proofs.Swap.{exchange, swapped_other, IsPermuting-exchange}
use Rattle.classes.proofs.Bound.{joint, after}
use Rattle.map_lists.specs.Lists.{Lists}
use Rattle.map_theory.specs.Maps.{list_of, HasDart, IsSimpleMap, IsPlane, follows, dart_number, dart_count, edge_count}
use Rattle.map_theory.proofs.EntryLemmas.{Contains-here, Contains-there}
use Rattle.map_theory.proofs.DartLemmas.{HasDart-follows, entry_after-injective}
use Rattle.map_theory.proofs.DartPermutations.{rotation, twin, IsPermuting-rotation, IsPairing-twin, same_orbit, same_vertex, balances_map, two_m}
use Rattle.plane_laws.proofs.PlaneCuts.{two_cuts_apart}
use Rattle.plane_laws.proofs.DartPaths.{before_dart, face_together, same_face, corner_of, numbers_apart, HoldsCut, HoldsCut-joint}
use Rattle.plane_peeling.proofs.Rings.{entries_closed}
use Rattle.convex_peeling.specs.Contours.{face_of, Passes, IsContour}
use Rattle.convex_peeling.proofs.Faces.{SameFace-labels, labels-SameFace, face_of-step, along_face}
use Rattle.convex_peeling.proofs.Kept.{kept, kept_simple, kept_plane, kept_living, living-kept, kept-living, kept-dead, HasDart-rim, kept_turn, outer_one}

module _ (lists : Lists) (alive : ℕ → Bool) (w : ℕ → ℕ) (r a b one : ℕ) (simple : IsSimpleMap lists) (plane : IsPlane lists) (contour : IsContour lists alive w r) (a_b : a < b) (b_r : b < r) (living : alive one ≡ true) (at_a : Passes lists one (w a)) (at_b : Passes lists one (w b)) where
  abbrev M : Lists
  M = kept lists alive simple

  abbrev f : ℕ → ℕ
  f = rotation M

  abbrev g : ℕ → ℕ
  g = twin M

  abbrev k : ℕ
  k = dart_count M

  abbrev F : List ℕ
  F = orbits_of (after f g) k

  abbrev u : ℕ
  u = w a

  abbrev v : ℕ
  v = w b

  abbrev x : ℕ
  x = at_a.0

  abbrev y : ℕ
  y = at_b.0

  M_simple : IsSimpleMap M
  M_simple = kept_simple lists alive simple

  has_x : HasDart M u x
  has_x = kept_living lists alive simple u x at_a.1 (ap alive at_a.2 ∙ living)

  has_y : HasDart M v y
  has_y = kept_living lists alive simple v y at_b.1 (ap alive at_b.2 ∙ living)

  rim : (i : ℕ) → i ≤ r → HasDart M (w i) (w (suc i))
  rim i l = HasDart-rim lists alive simple (w i) (w (suc i)) (contour.edge i l)

  u_v : u ≢ v
  u_v e = let q : a ≡ b = contour.distinct a b (omega arith) (omega arith) e in absurd (omega arith)

  -- a face that is left is not the outer one of the rest
  not_outer : (p q i : ℕ) → HasDart M p q → alive (face_of lists p q) ≡ true → i ≤ r → face_of M p q ≢ face_of M (w i) (w (suc i))
  not_outer p q i has t l = kept-dead lists alive simple p q (w i) (w (suc i)) has (rim i l) t (contour.edge i l).outside

  -- the corners that are cut
  cut : ℕ → ℕ → Type 0
  cut p z = ((p ≡ u) × ((z ≡ x) ⊎ (z ≡ w (suc a)))) ⊎ ((p ≡ v) × ((z ≡ y) ⊎ (z ≡ w (suc b))))

  -- classes that hold all else, and part the two corners of v
  record IsSeparating (labels : List ℕ) : Type 0 where
    holds : HoldsCut M labels (u ∷ v ∷ []) cut
    apart : Together labels (dart_number M (v, y)) (dart_number M (v, w (suc b))) → ⊥

  separating : (labels : List ℕ) × IsSeparating labels
  unfolding cut
  separating =
      let pw = IsPermuting-rotation M M_simple in
      let pair = IsPairing-twin M M_simple in
      let a' = w (suc a) in
      let b' = w (suc b) in
      let has_a' = rim a (omega arith) in
      let has_b' = rim b (omega arith) in
      let inner = living-kept lists alive simple u x v y at_a.1 at_b.1 (ap alive at_a.2 ∙ living) (at_a.2 ∙ sym at_b.2) in
      let outer : face_of M u a' ≡ face_of M v b' = outer_one lists alive simple w r contour a (omega arith) ∙ sym (outer_one lists alive simple w r contour b (omega arith)) in
      let differ_u = not_outer u x a has_x (ap alive at_a.2 ∙ living) (omega arith) in
      let x_a : x ≢ a' = λ e. differ_u (ap (face_of M u) e) in
      let y_b : y ≢ b' = λ e. (not_outer v y b has_y (ap alive at_b.2 ∙ living) (omega arith)) (ap (face_of M v) e) in
      let cx = corner_of M M_simple u x has_x in
      let cy = corner_of M M_simple u a' has_a' in
      let cz = corner_of M M_simple v y has_y in
      let co = corner_of M M_simple v b' has_b' in
      let lx = cx.1.within in
      let ly = cy.1.within in
      let lz = cz.1.within in
      let lo = co.1.within in
      let x_y : cx.0 ≢ cy.0 = λ e. x_a (numbers_apart M u x a' has_x has_a' (sym cx.1.leads ∙ (ap f e ∙ cy.1.leads))) in
      let z_o : cz.0 ≢ co.0 = λ e. y_b (numbers_apart M v y b' has_y has_b' (sym cz.1.leads ∙ (ap f e ∙ co.1.leads))) in
      let at_u = same_orbit M M_simple cx.0 cy.0 lx ly (cx.1.tail ∙ sym cy.1.tail) in
      let at_v = same_orbit M M_simple cz.0 co.0 lz lo (cz.1.tail ∙ sym co.1.tail) in
      let far : Together (orbits_of f k) cx.0 cz.0 → ⊥ = λ q. u_v (sym cx.1.tail ∙ (same_vertex M M_simple cx.0 cz.0 lx lz q ∙ cz.1.tail)) in
      let balance = balances_map M M_simple 0 (omega (arith, kept_plane lists alive simple plane)) in
      let first : Together F (g cx.0) (g cz.0) = cx.1.face ∙ (face_together M M_simple (u, x) (v, y) (SameFace-labels M u x v y inner) ∙ sym cz.1.face) in
      let second : Together F (g cy.0) (g co.0) = cy.1.face ∙ (face_together M M_simple (u, a') (v, b') (SameFace-labels M u a' v b' outer) ∙ sym co.1.face) in
      let faces : Together F (g cx.0) (g cy.0) → ⊥ = λ q. differ_u (labels-SameFace M u x u a' (same_face M M_simple (u, x) (u, a') (sym cx.1.face ∙ (q ∙ cy.1.face)))) in
      let h : ℕ → ℕ = exchange (exchange f cx.0 cy.0) cz.0 co.0 in
      let K = joint h g k in
      let L = label K in
      let hw = IsPermuting-exchange (exchange f cx.0 cy.0) k cz.0 co.0 lz lo (IsPermuting-exchange f k cx.0 cy.0 lx ly pw) in
      let avoided = u ∷ v ∷ [] in (
        K,
        record {
          holds = HoldsCut-joint M M_simple h avoided cut hw
              (λ p q has uncut.
              let i = (dart_number M) (p, q) in
              let nx : i ≢ cx.0 = λ e. let at = before_dart M cx.0 u x p q has_x cx.1.leads has e in uncut (inl (at.0, inl at.1)) in
              let ny : i ≢ cy.0 = λ e. let at = before_dart M cy.0 u a' p q has_a' cy.1.leads has e in uncut (inl (at.0, inr at.1)) in
              let nz : i ≢ cz.0 = λ e. let at = before_dart M cz.0 v y p q has_y cz.1.leads has e in uncut (inr (at.0, inl at.1)) in
              let no : i ≢ co.0 = λ e. let at = before_dart M co.0 v b' p q has_b' co.1.leads has e in uncut (inr (at.0, inr at.1)) in
              ap (exchange f cx.0 cy.0) (swapped_other cz.0 co.0 i nz no) ∙ ap f (swapped_other cx.0 cy.0 i nx ny))
              (λ p q s. elim s [ inl e ↦ subst (Contains avoided) (sym e.0) (Contains-here u (v ∷ [])) | inr e ↦ subst (Contains avoided) (sym e.0) (Contains-there u (v ∷ []) v (Contains-here v [])) ]);
          apart = λ q. two_cuts_apart f g k (edge_count M) cx.0 cy.0 cz.0 co.0 (two_m M M_simple) pw pair lx ly lz lo x_y z_o at_u at_v far balance first second faces (ap L cz.1.leads ∙ (q ∙ sym (ap L co.1.leads)));
        },
      )

  module _ (labels : List ℕ) (p : IsSeparating labels) where
    -- the class of a dart
    abbrev class_of : ℕ → ℕ → ℕ
    class_of s t = label labels (dart_number M (s, t))

    twins : (s t : ℕ) → HasDart M s t → class_of s t ≡ class_of t s
    twins s t has = p.holds.twins s t has

    turns : (s t : ℕ) → HasDart M s t → ¬ cut s (follows M s t) → class_of s t ≡ class_of s (follows M s t)
    turns s t has n = p.holds.turns s t has n

    -- the darts of another vertex of the contour are in one class
    round_vertex : (i s t : ℕ) → i ≤ r → i ≢ a → i ≢ b → HasDart M (w i) s → HasDart M (w i) t → class_of (w i) s ≡ class_of (w i) t
    unfolding cut
    round_vertex i s t l na nb has has' =
        let P : ℕ → Type 0 = λ z. HasDart M (w i) z × (class_of (w i) s ≡ class_of (w i) z) in
        let uncut : (z : ℕ) → ¬ cut (w i) z = λ z c. elim c [
          | inl e ↦ na (contour.distinct i a l (omega arith) e.0)
          | inr e ↦ nb (contour.distinct i b l (omega arith) e.0)
        ] in
        (entries_closed P (list_of M (w i)) s t (M_simple.no_repeat (w i) has.0) has.1 (has, refl)
        (λ z h. (HasDart-follows M (w i) z h.0, h.1 ∙ turns (w i) z h.0 (uncut (follows M (w i) z)))) has'.1).1

    -- so are those along the contour up to v
    up_to : (n j : ℕ) → a < j → j + suc n ≡ b → (s : ℕ) → HasDart M (w j) s → class_of (w j) s ≡ class_of v (w (j + n))
    up_to zero j l e s has =
        let at = rim j (omega arith) in
        let q : suc j ≡ b = omega arith in
        let z : j ≡ j + 0 = omega arith in
        round_vertex j s (w (suc j)) (omega arith) (λ t. omega arith) (λ t. omega arith) has at
        ∙ (twins (w j) (w (suc j)) at ∙ (ap (λ m. class_of (w m) (w j)) q ∙ ap (λ m. class_of v (w m)) z))
    up_to (suc n) j l e s has =
        let at = rim j (omega arith) in
        let back = M_simple.both_ways (w j) (w (suc j)) at in
        let z : suc j + n ≡ j + suc n = omega arith in
        round_vertex j s (w (suc j)) (omega arith) (λ t. omega arith) (λ t. omega arith) has at
        ∙ (twins (w j) (w (suc j)) at ∙ (up_to n (suc j) (omega arith) (omega arith) (w j) back ∙ ap (λ m. class_of v (w m)) z))

    -- and those from v on
    down_to : (n l : ℕ) → b + suc n ≡ l → l ≤ r → (s : ℕ) → HasDart M (w l) s → class_of (w l) s ≡ class_of v (w (suc b))
    down_to zero l e m s has =
        let q : l ≡ suc b = omega arith in
        let at = rim b (omega arith) in
        round_vertex l s v m (λ t. omega arith) (λ t. omega arith) has (subst (λ i. HasDart M (w i) v) (sym q) (M_simple.both_ways v (w (suc b)) at))
        ∙ (ap (λ i. class_of (w i) v) q ∙ sym (twins v (w (suc b)) at))
    down_to (suc n) l e m s has =
        let i = b + suc n in
        let q : suc i ≡ l = omega arith in
        let at = rim i (omega arith) in
        let back : HasDart M (w l) (w i) = subst (λ t. HasDart M (w t) (w i)) q (M_simple.both_ways (w i) (w (suc i)) at) in
        round_vertex l s (w i) m (λ t. omega arith) (λ t. omega arith) has back
        ∙ (ap (λ t. class_of (w t) (w i)) (sym q) ∙ (sym (twins (w i) (w (suc i)) at) ∙ down_to n i refl (omega arith) (w (suc i)) at))

    -- round v, from its corner in the face to the contour
    round_v : (i : ℕ) → suc i ≡ b → class_of v y ≡ class_of v (w i)
    unfolding cut
    round_v i e =
        let P : ℕ → Type 0 = λ z. HasDart M v z × ((class_of v y ≡ class_of v (w i)) ⊎ (class_of v y ≡ class_of v z)) in
        let at_i : HasDart M v (w i) = subst (λ t. HasDart M (w t) (w i)) e (M_simple.both_ways (w i) (w (suc i)) (rim i (omega arith))) in
        let turn : follows M v (w i) ≡ w (suc b) = ap (λ t. follows M (w t) (w i)) (sym e) ∙ (kept_turn lists alive simple w r contour i (omega arith) ∙ ap (λ t. w (suc t)) e) in
        let step : (z : ℕ) → P z → P (follows M v z) = λ z h. (
          HasDart-follows M v z h.0,
          elim h.1 [
            | inl done ↦ inl done
            | inr same ↦
                elim (cases_eq (follows M v z) (w (suc b))) [
                  | inl q ↦ inl (same ∙ ap (class_of v) (entry_after-injective (list_of M v) z (w i) (M_simple.no_repeat v h.0.0) h.0.1 at_i.1 (q ∙ sym turn)))
                  | inr nq ↦
                      elim (cases_eq (follows M v z) y) [
                        | inl q ↦ inr (ap (class_of v) (sym q))
                        | inr ny ↦ inr (same ∙ turns v z h.0 (λ c. elim c [
                          | inl t ↦ u_v (sym t.0)
                          | inr t ↦ elim t.1 [ inl q ↦ ny q | inr q ↦ nq q ]
                        ]))
                      ]
                ]
          ],
        ) in
        let end = (entries_closed P (list_of M v) y (w i) (M_simple.no_repeat v has_y.0) has_y.1 (has_y, inr refl) step at_i.1).1 in
        elim end [ inl done ↦ done | inr same ↦ same ]

    -- another face stays in one class
    other_face : (s t s' t' : ℕ) → HasDart M s t → HasDart M s' t' → alive (face_of lists s t) ≡ true → face_of lists s t ≢ one → face_of M s t ≡ face_of M s' t' → class_of s t ≡ class_of s' t'
    unfolding cut
    other_face s t s' t' has has' live ne e =
        let P : ℕ → ℕ → Type 0 = λ p q. (face_of M s t ≡ face_of M p q) × (class_of s t ≡ class_of p q) in
        (along_face M M_simple P (λ p' q d h.
        let z = follows M q p' in
        let on : face_of M s t ≡ face_of M q z = h.0 ∙ sym (face_of-step M M_simple p' q d) in (
          on,
          h.1 ∙ (twins p' q d ∙ turns q p' (M_simple.both_ways p' q d) (λ c. elim c [
            | inl at ↦ elim at.1 [
              | inl q' ↦ ne (kept-living lists alive simple s t u x has has_x live (on ∙ (ap (λ i. face_of M i z) at.0 ∙ ap (face_of M u) q')) ∙ at_a.2)
              | inr q' ↦ not_outer s t a has live (omega arith) (on ∙ (ap (λ i. face_of M i z) at.0 ∙ ap (face_of M u) q'))
            ]
            | inr at ↦ elim at.1 [
              | inl q' ↦ ne (kept-living lists alive simple s t v y has has_y live (on ∙ (ap (λ i. face_of M i z) at.0 ∙ ap (face_of M v) q')) ∙ at_b.2)
              | inr q' ↦ not_outer s t b has live (omega arith) (on ∙ (ap (λ i. face_of M i z) at.0 ∙ ap (face_of M v) q'))
            ]
          ])),
        )) s t s' t' has has' e (refl, refl)).1

-- Two faces that are left do not cross: where one passes the places a and b and the other j and l, with a < j < b < l, they are one.
pub no_crossing_law : (lists : Lists) (alive : ℕ → Bool) (w : ℕ → ℕ) (r a j b l one other : ℕ) → IsSimpleMap lists → IsPlane lists → IsContour lists alive w r → a < j → j < b → b < l → l ≤ r → alive one ≡ true → alive other ≡ true → Passes lists one (w a) → Passes lists one (w b) → Passes lists other (w j) → Passes lists other (w l) → one ≡ other
no_crossing_law lists alive w r a j b l one other simple plane contour a_j j_b b_l l_r living living' at_a at_b at_j at_l =
    elim (cases_eq one other) [
      | inl e ↦ e
      | inr ne ↦
          let cut_at = separating lists alive w r a b one simple plane contour (omega arith) (omega arith) living at_a at_b in
          let live = ap alive at_j.2 ∙ living' in
          let has = kept_living lists alive simple (w j) at_j.0 at_j.1 live in
          let has' = kept_living lists alive simple (w l) at_l.0 at_l.1 (ap alive at_l.2 ∙ living') in
          let n : ℕ = b - suc j in
          let up = up_to lists alive w r a b one simple plane contour (omega arith) (omega arith) living at_a at_b cut_at.0 cut_at.1 n j a_j (omega arith) at_j.0 has in
          let down = down_to lists alive w r a b one simple plane contour (omega arith) (omega arith) living at_a at_b cut_at.0 cut_at.1 (l - suc b) l (omega arith) l_r at_l.0 has' in
          let at = round_v lists alive w r a b one simple plane contour (omega arith) (omega arith) living at_a at_b cut_at.0 cut_at.1 (j + n) (omega arith) in
          let same = living-kept lists alive simple (w j) at_j.0 (w l) at_l.0 at_j.1 at_l.1 live (at_j.2 ∙ sym at_l.2) in
          let over = other_face lists alive w r a b one simple plane contour (omega arith) (omega arith) living at_a at_b cut_at.0 cut_at.1 (w j) at_j.0 (w l) at_l.0 has has' live (λ e. ne (sym e ∙ at_j.2)) same in
          absurd (cut_at.1.apart (at ∙ (sym up ∙ (over ∙ down))))
    ]
