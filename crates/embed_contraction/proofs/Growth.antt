-- Where each edge has a bad third vertex, parts grow for ever.
use Rattle.std.proofs.Common.{◌≡◌, ◌≢◌, ◌⊎◌, ◌&&◌, ℕ, zero, suc, ◌+◌, ◌<◌, ◌≤◌, Bool, true, false, not, eqb, List, [], ◌∷◌, length, Contains, refl, sym, ap, ◌∙◌, subst, inl, inr, arith}
use Rattle.std.proofs.lemmas.Bool.{cases_Bool, cases_eq, true≢false, eq-eqb, ne_eqb, and_from, and_parts, not-true, eqb-false, eqb-true}
use Rattle.classes.specs.Classes.{count_below, same_class}
use Rattle.classes.proofs.Counting.{count_below-le, count_below_weaker}
use Rattle.map_lists.specs.Lists.{Lists}
use Rattle.map_theory.specs.Maps.{list_of, HasDart, IsSimpleMap, component_classes, SameComponent}
use Rattle.map_theory.proofs.EntryLemmas.{Contains-here, Contains-there}
use Rattle.plane_peeling.proofs.Rings.{each_of_two, each_of_three}
use Rattle.plane_peeling.proofs.RestrictedMaps.{cases_Contains}
use Rattle.embed_contraction.specs.Linked.{outside, without_vertices, HasEdge, IsThreeLinked, IsContractible, ContractibleEdge}
use Rattle.embed_contraction.proofs.Parts.{all_or_one, closed_part, cases_part, part-chained, part-turned, part-itself, outside-from, outside-is, cases_edge, rest-simple, rest-length, rest-old, rest-together, IsBad, cases_bad, minus, count_below-minus}

-- an entry of two or three
pub not_two : (a b z : ℕ) → z ≢ a → z ≢ b → ¬ Contains (a ∷ b ∷ []) z
not_two a b z n n' c = each_of_two (λ w. w ≡ z → ⊥) a b (λ e. n (sym e)) (λ e. n' (sym e)) z c refl

pub not_three : (a b c z : ℕ) → z ≢ a → z ≢ b → z ≢ c → ¬ Contains (a ∷ b ∷ c ∷ []) z
not_three a b c z n n' n'' h = each_of_three (λ w. w ≡ z → ⊥) a b c (λ e. n (sym e)) (λ e. n' (sym e)) (λ e. n'' (sym e)) z h refl

in_first : (a b c : ℕ) → Contains (a ∷ b ∷ c ∷ []) a
in_first a b c = Contains-here a (b ∷ c ∷ [])

in_second : (a b c : ℕ) → Contains (a ∷ b ∷ c ∷ []) b
in_second a b c = Contains-there a (b ∷ c ∷ []) b (Contains-here b (c ∷ []))

in_third : (a b c : ℕ) → Contains (a ∷ b ∷ c ∷ []) c
in_third a b c = Contains-there a (b ∷ c ∷ []) c (Contains-there b (c ∷ []) c (Contains-here c []))

-- the part of h without x, y and w, as a test
abbrev in_part : Lists → ℕ → ℕ → ℕ → ℕ → ℕ → Bool
in_part lists x y w h z = outside (x ∷ y ∷ w ∷ []) z && same_class (component_classes (without_vertices (x ∷ y ∷ w ∷ []) lists)) h z

module _ (lists : Lists) (simple : IsSimpleMap lists) (linked : IsThreeLinked lists) where
  abbrev n : ℕ
  n = length lists

  in_part-is : (x y w h z : ℕ) → in_part lists x y w h z ≡ true → (¬ Contains (x ∷ y ∷ w ∷ []) z) × SameComponent (without_vertices (x ∷ y ∷ w ∷ []) lists) h z
  in_part-is x y w h z t =
      let p = and_parts (outside (x ∷ y ∷ w ∷ []) z) (same_class (component_classes (without_vertices (x ∷ y ∷ w ∷ []) lists)) h z) t in
      (outside-is (x ∷ y ∷ w ∷ []) z p.0, p.1)

  in_part-from : (x y w h z : ℕ) → ¬ Contains (x ∷ y ∷ w ∷ []) z → SameComponent (without_vertices (x ∷ y ∷ w ∷ []) lists) h z → in_part lists x y w h z ≡ true
  in_part-from x y w h z o s = and_from (outside (x ∷ y ∷ w ∷ []) z) (same_class (component_classes (without_vertices (x ∷ y ∷ w ∷ []) lists)) h z) (outside-from (x ∷ y ∷ w ∷ []) z o) s

  -- a vertex of a part, and a neighbour that is not taken out
  in_part-step : (x y w h a b : ℕ) → in_part lists x y w h a ≡ true → HasDart lists a b → ¬ Contains (x ∷ y ∷ w ∷ []) b → in_part lists x y w h b ≡ true
  in_part-step x y w h a b t d o =
      let p = in_part-is x y w h a t in
      in_part-from x y w h b o (part-chained (without_vertices (x ∷ y ∷ w ∷ []) lists) h a b p.1 (rest-together lists simple (x ∷ y ∷ w ∷ []) a b d p.0 o))

  module _ (x y w h d : ℕ) (bad : IsBad lists x y w h d) where
    abbrev V : List ℕ
    V = x ∷ y ∷ w ∷ []

    x_y : x ≢ y
    x_y e = simple.no_loop x y bad.edge (sym e)

    -- w has a neighbour in the part of d
    neighbour : (u : ℕ) × HasDart lists w u × (in_part lists x y w d u ≡ true)
    neighbour =
        elim (all_or_one (λ u. HasDart lists w u → in_part lists x y w d u ≡ false) (λ u. HasDart lists w u × (in_part lists x y w d u ≡ true)) n decide) [
          | inr r ↦ (r.0, r.2.0, r.2.1)
          | inl none ↦
              let closed : (a b : ℕ) → HasDart (without_vertices (x ∷ y ∷ []) lists) a b → in_part lists x y w d a ≡ true → in_part lists x y w d b ≡ true = λ a b e t.
              let old = rest-old lists simple (x ∷ y ∷ []) a b e in
              let b_x : b ≢ x = λ q. old.2 (subst (Contains (x ∷ y ∷ [])) (sym q) (Contains-here x (y ∷ []))) in
              let b_y : b ≢ y = λ q. old.2 (subst (Contains (x ∷ y ∷ [])) (sym q) (Contains-there x (y ∷ []) y (Contains-here y []))) in
              elim (cases_eq b w) [
                | inl q ↦ let back = simple.both_ways a w (subst (HasDart lists a) q old.0) in absurd (true≢false (sym t ∙ none a old.0.0 back))
                | inr ne ↦ in_part-step x y w d a b t old.0 (not_three x y w b b_x b_y ne)
              ] in
              let off : (z : ℕ) → ¬ Contains V z → ¬ Contains (x ∷ y ∷ []) z = λ z o. not_two x y z (λ q. o (subst (Contains V) (sym q) (in_first x y w))) (λ q. o (subst (Contains V) (sym q) (in_second x y w))) in
              let two = linked x y d h bad.d_edge bad.h_edge (off d bad.d_off) (off h bad.h_off) in
              let len = rest-length lists simple (x ∷ y ∷ []) in
              let at_h = closed_part (without_vertices (x ∷ y ∷ []) lists) (rest-simple lists simple (x ∷ y ∷ [])) (in_part lists x y w d) closed d h (omega arith) (omega arith) two (in_part-from x y w d d bad.d_off (part-itself (without_vertices V lists) d)) in
              absurd (bad.apart (part-turned (without_vertices V lists) d h (in_part-is x y w d h at_h).1))
        ]
      where
        decide : (u : ℕ) → u < n → (HasDart lists w u → in_part lists x y w d u ≡ false) ⊎ (HasDart lists w u × (in_part lists x y w d u ≡ true))
        decide u l =
            elim (cases_Bool (in_part lists x y w d u)) [
              | inr f ↦ inl (λ _. f)
              | inl t ↦ elim (cases_Contains (list_of lists w) u) [
                | inl c ↦ inr ((bad.w_edge.1.0, c), t)
                | inr c ↦ inl (λ e. absurd (c e.1))
              ]
            ]

    -- A bad third vertex v for w and a neighbour u in the part of d; e is an end of xy other than v, and e2 the other end.
    module _ (u : ℕ) (has_u : HasDart lists w u) (in_u : in_part lists x y w d u ≡ true) (v h' d' : ℕ) (bad' : IsBad lists w u v h' d') (e e2 : ℕ) (ends : ((e ≡ x) × (e2 ≡ y)) ⊎ ((e ≡ y) × (e2 ≡ x))) (e_v : e ≢ v) where
      abbrev V' : List ℕ
      V' = w ∷ u ∷ v ∷ []

      abbrev P : ℕ → Bool
      P = in_part lists x y w h

      abbrev Q : ℕ → Bool
      Q = in_part lists w u v e

      u_off : ¬ Contains V u
      u_off = (in_part-is x y w d u in_u).0

      -- x and y are neither w nor u
      end_w : (z : ℕ) → (z ≡ x) ⊎ (z ≡ y) → z ≢ w
      end_w z q r = elim q [ inl p ↦ bad.w_x (sym r ∙ p) | inr p ↦ bad.w_y (sym r ∙ p) ]

      end_u : (z : ℕ) → (z ≡ x) ⊎ (z ≡ y) → z ≢ u
      end_u z q r = elim q [ inl p ↦ u_off (subst (Contains V) (sym p ∙ r) (in_first x y w)) | inr p ↦ u_off (subst (Contains V) (sym p ∙ r) (in_second x y w)) ]

      e_end : (e ≡ x) ⊎ (e ≡ y)
      e_end = elim ends [ inl q ↦ inl q.0 | inr q ↦ inr q.0 ]

      e2_end : (e2 ≡ x) ⊎ (e2 ≡ y)
      e2_end = elim ends [ inl q ↦ inr q.1 | inr q ↦ inl q.1 ]

      each_end : (z : ℕ) → (z ≡ x) ⊎ (z ≡ y) → (z ≡ e) ⊎ (z ≡ e2)
      each_end z q =
          elim ends [
            | inl r ↦ elim q [ inl p ↦ inl (p ∙ sym r.0) | inr p ↦ inr (p ∙ sym r.1) ]
            | inr r ↦ elim q [ inl p ↦ inr (p ∙ sym r.1) | inr p ↦ inl (p ∙ sym r.0) ]
          ]

      e_e2 : HasDart lists e e2
      e_e2 =
          elim ends [
            | inl q ↦ subst (λ z. HasDart lists z e2) (sym q.0) (subst (HasDart lists x) (sym q.1) bad.edge)
            | inr q ↦ subst (λ z. HasDart lists z e2) (sym q.0) (subst (HasDart lists y) (sym q.1) (simple.both_ways x y bad.edge))
          ]

      e_off : ¬ Contains V' e
      e_off = not_three w u v e (end_w e e_end) (end_u e e_end) e_v

      Q_e : Q e ≡ true
      Q_e = in_part-from w u v e e e_off (part-itself (without_vertices V' lists) e)

      Q_e2 : e2 ≢ v → Q e2 ≡ true
      Q_e2 ne = in_part-step w u v e e e2 Q_e e_e2 (not_three w u v e2 (end_w e2 e2_end) (end_u e2 e2_end) ne)

      Q_end : (z : ℕ) → (z ≡ x) ⊎ (z ≡ y) → z ≢ v → Q z ≡ true
      Q_end z q ne = elim (each_end z q) [ inl r ↦ ap Q r ∙ Q_e | inr r ↦ ap Q r ∙ Q_e2 (λ p. ne (r ∙ p)) ]

      P_u : (z : ℕ) → P z ≡ true → z ≢ u
      P_u z t q =
          let one = (in_part-is x y w h z t).1 in
          let other = (in_part-is x y w d u in_u).1 in
          bad.apart (part-chained (without_vertices V lists) h u d (subst (SameComponent (without_vertices V lists) h) q one) (part-turned (without_vertices V lists) d u other))

      P_w : (z : ℕ) → P z ≡ true → z ≢ w
      P_w z t q = (in_part-is x y w h z t).0 (subst (Contains V) (sym q) (in_third x y w))

      -- what is of h's part and not of e's
      missed : ℕ → Bool
      missed z = (P z && not (eqb z v)) && not (Q z)

      missed-is : (z : ℕ) → missed z ≡ true → (P z ≡ true) × (z ≢ v) × (Q z ≡ false)
      unfolding missed
      missed-is z t =
          let p = and_parts (P z && not (eqb z v)) (not (Q z)) t in
          let q = and_parts (P z) (not (eqb z v)) p.0 in
          (q.0, eqb-false z v (not-true (eqb z v) q.1), not-true (Q z) p.1)

      missed-from : (z : ℕ) → P z ≡ true → z ≢ v → Q z ≡ false → missed z ≡ true
      unfolding missed
      missed-from z t ne f = and_from (P z && not (eqb z v)) (not (Q z)) (and_from (P z) (not (eqb z v)) t (ap not (ne_eqb z v ne))) (ap not f)

      missed-closed : (a b : ℕ) → HasDart (without_vertices (v ∷ w ∷ []) lists) a b → missed a ≡ true → missed b ≡ true
      missed-closed a b g t =
          let old = rest-old lists simple (v ∷ w ∷ []) a b g in
          let at = missed-is a t in
          let b_v : b ≢ v = λ q. old.2 (subst (Contains (v ∷ w ∷ [])) (sym q) (Contains-here v (w ∷ []))) in
          let b_w : b ≢ w = λ q. old.2 (subst (Contains (v ∷ w ∷ [])) (sym q) (Contains-there v (w ∷ []) w (Contains-here w []))) in
          let a_off : ¬ Contains V' a = not_three w u v a (P_w a at.0) (P_u a at.0) at.1 in
          let back = simple.both_ways a b old.0 in
          let no_Q : b ≢ u → Q b ≡ true → ⊥ = λ _ q. true≢false (sym (in_part-step w u v e b a q back a_off) ∙ at.2) in
          let not_end : (b ≡ x) ⊎ (b ≡ y) → ⊥ = λ q. no_Q (end_u b q) (Q_end b q b_v) in
          let P_b = in_part-step x y w h a b at.0 old.0 (not_three x y w b (λ q. not_end (inl q)) (λ q. not_end (inr q)) b_w) in
          missed-from b P_b b_v (elim (cases_Bool (Q b)) [ inl q ↦ absurd (no_Q (P_u b P_b) q) | inr f ↦ f ])

      -- so nothing is, but v
      covered : (z : ℕ) → z < n → P z ≡ true → z ≢ v → Q z ≡ true
      covered z l t ne =
          elim (cases_Bool (Q z)) [
            | inl q ↦ q
            | inr f ↦ elim (cases_edge lists z l) [
              | inl edge ↦
                  let len = rest-length lists simple (v ∷ w ∷ []) in
                  let le = e_e2.0 in
                  let off_z = not_two v w z ne (P_w z t) in
                  let off_e = not_two v w e e_v (end_w e e_end) in
                  let at_e = closed_part (without_vertices (v ∷ w ∷ []) lists) (rest-simple lists simple (v ∷ w ∷ [])) missed missed-closed z e (omega arith) (omega arith) (linked v w z e edge (e2, e_e2) off_z off_e) (missed-from z t ne f) in
                  absurd (true≢false (sym Q_e ∙ (missed-is e at_e).2))
              | inr none ↦
                  let len = rest-length lists simple V in
                  let lh = bad.h_edge.1.0 in
                  let s = (in_part-is x y w h z t).1 in
                  let alone = closed_part (without_vertices V lists) (rest-simple lists simple V) (λ a. eqb a z) (λ a b g q. absurd (none (b, subst (λ c. HasDart lists c b) (eqb-true a z q) (rest-old lists simple V a b g).0))) z h (omega arith) (omega arith) (part-turned (without_vertices V lists) h z s) (eq-eqb z z refl) in
                  absurd (none (subst (HasEdge lists) (eqb-true h z alone) bad.h_edge))
            ]
          ]

      P_off : (z : ℕ) → (z ≡ x) ⊎ (z ≡ y) → P z ≡ true → ⊥
      P_off z q t = elim q [ inl p ↦ (in_part-is x y w h z t).0 (subst (Contains V) (sym p) (in_first x y w)) | inr p ↦ (in_part-is x y w h z t).0 (subst (Contains V) (sym p) (in_second x y w)) ]

      grown : count_below P n + 1 ≤ count_below Q n
      grown =
          let le = e_e2.0 in
          let le2 = (simple.both_ways e e2 e_e2).0 in
          let one = count_below-minus Q n e le Q_e in
          elim (cases_eq e2 v) [
            | inl q ↦
                let less = count_below_weaker P (minus Q e) n (λ i l t.
                let ne : i ≢ e = λ r. P_off i (elim e_end [ inl p ↦ inl (r ∙ p) | inr p ↦ inr (r ∙ p) ]) t in
                let nv : i ≢ v = λ r. P_off i (elim e2_end [ inl p ↦ inl (r ∙ (sym q ∙ p)) | inr p ↦ inr (r ∙ (sym q ∙ p)) ]) t in
                and_from (Q i) (not (eqb i e)) (covered i l t nv) (ap not (ne_eqb i e ne))) in
                omega arith
            | inr ne2 ↦
                let e_not : e2 ≢ e = λ r. simple.no_loop e e2 e_e2 r in
                let two = count_below-minus (minus Q e) n e2 le2 (and_from (Q e2) (not (eqb e2 e)) (Q_e2 ne2) (ap not (ne_eqb e2 e e_not))) in
                let less = count_below_weaker (minus P v) (minus (minus Q e) e2) n (λ i l t.
                let p = and_parts (P i) (not (eqb i v)) t in
                let nv = eqb-false i v (not-true (eqb i v) p.1) in
                let ne : i ≢ e = λ r. P_off i (elim e_end [ inl k ↦ inl (r ∙ k) | inr k ↦ inr (r ∙ k) ]) p.0 in
                let ne' : i ≢ e2 = λ r. P_off i (elim e2_end [ inl k ↦ inl (r ∙ k) | inr k ↦ inr (r ∙ k) ]) p.0 in
                and_from (minus Q e i) (not (eqb i e2)) (and_from (Q i) (not (eqb i e)) (covered i l p.0 nv) (ap not (ne_eqb i e ne))) (ap not (ne_eqb i e2 ne'))) in
                let lv = bad'.w_edge.1.0 in
                let at_v : count_below P n ≤ count_below (minus P v) n + 1 = elim (cases_Bool (P v)) [
                  | inl t ↦ omega (arith, count_below-minus P n v lv t)
                  | inr f ↦
                      let same = count_below_weaker P (minus P v) n (λ i l t. and_from (P i) (not (eqb i v)) t (ap not (ne_eqb i v (λ r. true≢false (sym t ∙ (ap P r ∙ f)))))) in
                      omega arith
                ] in
                omega arith
          ]

      -- the next bad vertex, with a greater part
      next : (d'' : ℕ) × IsBad lists w u v e d''
      next =
          let G = without_vertices V' lists in
          let make : (z : ℕ) → HasEdge lists z → ¬ Contains V' z → ¬ SameComponent G e z → IsBad lists w u v e z = λ z edge off far.
          record { edge = has_u; w_edge = bad'.w_edge; w_x = bad'.w_x; w_y = bad'.w_y; h_edge = (e2, e_e2); d_edge = edge; h_off = e_off; d_off = off; apart = far } in
          elim (cases_part G e h') [
            | inr far ↦ (h', make h' bad'.h_edge bad'.h_off far)
            | inl s ↦ (d', make d' bad'.d_edge bad'.d_off (λ s'. bad'.apart (part-chained G h' e d' (part-turned G e h' s) s')))
          ]

    abbrev Found : Type 0
    Found = (a : ℕ) × (b : ℕ) × IsContractible lists a b

    -- an edge without a bad vertex, or a greater part
    step : Found ⊎ ((x' : ℕ) × (y' : ℕ) × (w' : ℕ) × (e : ℕ) × (d'' : ℕ) × IsBad lists x' y' w' e d'' × (count_below (in_part lists x y w h) n + 1 ≤ count_below (in_part lists x' y' w' e) n))
    step =
        let u = neighbour in
        elim (cases_bad lists w u.0 u.1) [
          | inl good ↦ inl (w, u.0, record { edge = u.1; linked = good })
          | inr r ↦
              let v = r.0 in
              elim (cases_eq x v) [
                | inl q ↦
                    let ne : y ≢ v = λ p. x_y (q ∙ sym p) in
                    let next' = next u.0 u.1 u.2 v r.1 r.2 r.3 y x (inr (refl, refl)) ne in
                    inr (w, u.0, v, y, next'.0, next'.1, grown u.0 u.1 u.2 v r.1 r.2 r.3 y x (inr (refl, refl)) ne)
                | inr ne ↦
                    let next' = next u.0 u.1 u.2 v r.1 r.2 r.3 x y (inl (refl, refl)) ne in
                    inr (w, u.0, v, x, next'.0, next'.1, grown u.0 u.1 u.2 v r.1 r.2 r.3 x y (inl (refl, refl)) ne)
              ]
        ]

  -- parts do not grow for ever
  found : (spare x y w h d : ℕ) → IsBad lists x y w h d → n ≤ count_below (in_part lists x y w h) n + spare → (a : ℕ) × (b : ℕ) × IsContractible lists a b
  found zero x y w h d bad l = grind (arith, step, count_below-le, in_part)
  found (suc spare) x y w h d bad l =
      elim (step x y w h d bad) [
        | inl r ↦ r
        | inr r ↦ let more = r.6 in found spare r.0 r.1 r.2 r.3 r.4 r.5 (omega arith)
      ]

-- THE LAW: an edge that can be contracted
pub contractible_edge : ContractibleEdge
contractible_edge lists u v simple linked edge =
    elim (cases_bad lists u v edge) [
      | inl good ↦ (u, v, record { edge = edge; linked = good })
      | inr r ↦ found lists simple linked (length lists) u v r.0 r.1 r.2 r.3 (omega arith)
    ]
