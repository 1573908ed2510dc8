-- A near triangulation of a quadrangle, opened: the two vertices that are not of the base are taken off, one after the other.
use Rattle.std.proofs.Common.{◌≡◌, ◌≢◌, ◌⊎◌, ℕ, ◌+◌, ◌-◌, ◌<◌, Bool, true, false, not, eqb, List, [], ◌∷◌, ◌++◌, length, get_or, AllPairs, Contains, refl, sym, ap, ◌∙◌, subst, inl, inr, arith}
use Rattle.std.proofs.lemmas.Bool.{cases_eq, and_left, true≢false}
use Rattle.std.proofs.lemmas.List.{append_assoc, length-append, get_or_append_left}
use Rattle.std.proofs.lemmas.List.Elements.{Contains-append_left, Contains-append_right, Contains-append_cases}
use Rattle.classes.specs.Classes.{count_below}
use Rattle.classes.proofs.Counting.{count_below_same, count_below_all}
use Rattle.map_lists.specs.Lists.{Lists}
use Rattle.map_theory.specs.Maps.{list_of, HasDart, IsSimpleMap, component_count, follows, entry_after}
use Rattle.map_theory.proofs.EntryLemmas.{Contains-here, Contains-there, parts_apart}
use Rattle.plane_peeling.specs.Restricted.{restricted, kept_but, IsFaceOfThree}
use Rattle.plane_peeling.specs.NearTriangulations.{IsOuterCycle, IsNearTriangulation, IsRemovable}
use Rattle.plane_peeling.specs.Peeled.{IsPeeled, IsTakenOff}
use Rattle.plane_peeling.specs.Laws.{CanBeTakenOff}
use Rattle.plane_peeling.specs.TwoGone.{HasNoSeparatingTriangle, IsOpenOutside}
use Rattle.plane_peeling.proofs.Rings.{entry_after-inside, entry_after-last, each_of_two, each_of_three, each_of_four, entries_closed, separated_once, rest_of, ends_with, last-entry}
use Rattle.plane_peeling.proofs.RestrictedMaps.{restricted-old, kept_but-new, kept_but-itself}
use Rattle.plane_peeling.proofs.OuterCycles.{next-last}
use Rattle.plane_peeling.proofs.Steps.{all_on_cycle, connected_taken_off}
use Rattle.plane_peeling.proofs.Ends.{whole_is_peeled}
use Rattle.plane_peeling.proofs.Covers.{new_or_old}
use Rattle.map_theory.proofs.DartLemmas.{Contains-entry_after}

module _ (lists : Lists) (kept : ℕ → Bool) (s d p t : ℕ) (connected : component_count lists ≡ 1) (large : 4 < length lists) (near : IsNearTriangulation lists s t (s ∷ d ∷ p ∷ t ∷ [])) (none : HasNoSeparatingTriangle lists) (all : (v : ℕ) → v < length lists → kept v ≡ true) where
  abbrev ws : List ℕ
  ws = s ∷ d ∷ p ∷ t ∷ []

  abbrev step : ℕ → ℕ
  step x = entry_after x ws

  simple : IsSimpleMap lists
  simple = near.simple

  cycle : IsOuterCycle lists s t ws
  cycle = near.cycle

  distinct : AllPairs ◌≢◌ ws
  distinct = cycle.distinct

  s_d : step s ≡ d
  s_d = entry_after-inside [] s d (p ∷ t ∷ []) distinct

  d_p : step d ≡ p
  d_p = entry_after-inside (s ∷ []) d p (t ∷ []) distinct

  p_t : step p ≡ t
  p_t = entry_after-inside (s ∷ d ∷ []) p t [] distinct

  t_s : step t ≡ s
  t_s = entry_after-last (s ∷ d ∷ p ∷ []) t distinct

  on_s : Contains ws s
  on_s = (0, omega arith, refl)

  on_d : Contains ws d
  on_d = (1, omega arith, refl)

  on_p : Contains ws p
  on_p = (2, omega arith, refl)

  on_t : Contains ws t
  on_t = (3, omega arith, refl)

  dart_sd : HasDart lists s d
  dart_sd = subst (HasDart lists s) s_d (cycle.darts s on_s)

  dart_dp : HasDart lists d p
  dart_dp = subst (HasDart lists d) d_p (cycle.darts d on_d)

  dart_pt : HasDart lists p t
  dart_pt = subst (HasDart lists p) p_t (cycle.darts p on_p)

  dart_ts : HasDart lists t s
  dart_ts = subst (HasDart lists t) t_s (cycle.darts t on_t)

  turn : (x y z : ℕ) → Contains ws x → step x ≡ y → step y ≡ z → follows lists y x ≡ z
  turn x y z c e e' = ap (λ w. follows lists w x) (sym e) ∙ (cycle.turns x c ∙ (ap step e ∙ e'))

  turn_s : follows lists s t ≡ d
  turn_s = turn t s d on_t t_s s_d

  turn_d : follows lists d s ≡ p
  turn_d = turn s d p on_s s_d d_p

  turn_p : follows lists p d ≡ t
  turn_p = turn d p t on_d d_p p_t

  turn_t : follows lists t p ≡ s
  turn_t = turn p t s on_p p_t t_s

  s_not_d : s ≢ d
  s_not_d = distinct 0 1 0 (omega arith) (omega arith)

  s_not_p : s ≢ p
  s_not_p = distinct 0 2 0 (omega arith) (omega arith)

  d_not_t : d ≢ t
  d_not_t = distinct 1 3 0 (omega arith) (omega arith)

  p_not_t : p ≢ t
  p_not_t = distinct 2 3 0 (omega arith) (omega arith)

  peeled : IsPeeled lists kept s t ws
  peeled = whole_is_peeled lists kept s t ws near all

  count_all : count_below kept (length lists) ≡ length lists
  count_all = count_below_same kept (λ v. true) (length lists) (λ v l. all v l) ∙ count_below_all (length lists)

  -- the neighbours of x, where they go round
  around : (x a : ℕ) (P : ℕ → Type 0) → HasDart lists x a → P a → ((z : ℕ) → P z → P (follows lists x z)) → (u : ℕ) → HasDart lists x u → P u
  around x a P has start keeps u du = entries_closed P (list_of lists x) a u (simple.no_repeat x has.0) has.1 start keeps du.1

  -- d and t are not adjacent: else all vertices would be on the cycle
  no_chord : ¬ HasDart lists d t
  no_chord chord =
      let f : IsFaceOfThree lists d s t =
      elim (none s d t dart_sd chord dart_ts) [
        | inl f ↦ absurd (p_not_t (sym turn_d ∙ f.second))
        | inr f ↦ f
      ] in
      let g : IsFaceOfThree lists p d t =
      elim (none d p t dart_dp dart_pt (simple.both_ways d t chord)) [
        | inl g ↦ absurd (s_not_d (sym turn_t ∙ g.third))
        | inr g ↦ g
      ] in
      let at_s : (u : ℕ) → HasDart lists s u → Contains ws u = λ u du.
      each_of_two (Contains ws) t d on_t on_d u
      (around s t (Contains (t ∷ d ∷ [])) (simple.both_ways t s dart_ts) (0, omega arith, refl)
      (each_of_two (λ z. Contains (t ∷ d ∷ []) (follows lists s z)) t d (subst (Contains (t ∷ d ∷ [])) (sym turn_s) (1, omega arith, refl)) (subst (Contains (t ∷ d ∷ [])) (sym f.second) (0, omega arith, refl))) u du) in
      let at_d : (u : ℕ) → HasDart lists d u → Contains ws u = λ u du.
      each_of_three (Contains ws) s p t on_s on_p on_t u
      (around d s (Contains (s ∷ p ∷ t ∷ [])) (simple.both_ways s d dart_sd) (0, omega arith, refl)
      (each_of_three (λ z. Contains (s ∷ p ∷ t ∷ []) (follows lists d z)) s p t (subst (Contains (s ∷ p ∷ t ∷ [])) (sym turn_d) (1, omega arith, refl)) (subst (Contains (s ∷ p ∷ t ∷ [])) (sym g.second) (2, omega arith, refl)) (subst (Contains (s ∷ p ∷ t ∷ [])) (sym f.round) (0, omega arith, refl))) u du) in
      let at_p : (u : ℕ) → HasDart lists p u → Contains ws u = λ u du.
      each_of_two (Contains ws) d t on_d on_t u
      (around p d (Contains (d ∷ t ∷ [])) (simple.both_ways d p dart_dp) (0, omega arith, refl)
      (each_of_two (λ z. Contains (d ∷ t ∷ []) (follows lists p z)) d t (subst (Contains (d ∷ t ∷ [])) (sym turn_p) (1, omega arith, refl)) (subst (Contains (d ∷ t ∷ [])) (sym g.round) (0, omega arith, refl))) u du) in
      let at_t : (u : ℕ) → HasDart lists t u → Contains ws u = λ u du.
      each_of_three (Contains ws) p s d on_p on_s on_d u
      (around t p (Contains (p ∷ s ∷ d ∷ [])) (simple.both_ways p t dart_pt) (0, omega arith, refl)
      (each_of_three (λ z. Contains (p ∷ s ∷ d ∷ []) (follows lists t z)) p s d (subst (Contains (p ∷ s ∷ d ∷ [])) (sym turn_t) (1, omega arith, refl)) (subst (Contains (p ∷ s ∷ d ∷ [])) (sym f.third) (2, omega arith, refl)) (subst (Contains (p ∷ s ∷ d ∷ [])) (sym g.third) (0, omega arith, refl))) u du) in
      let few = all_on_cycle lists kept s t ws simple connected peeled (λ x u c du.
      each_of_four (λ z. HasDart lists z u → Contains ws u) s d p t (at_s u) (at_d u) (at_p u) (at_t u) x c (restricted-old lists kept x u du).0) in
      omega (arith, few, count_all, large)

  -- so d can be taken off
  removable_d : IsRemovable (restricted kept lists) s t ws d
  removable_d =
      record {
        on = on_d;
        not_first = λ e. s_not_d (sym e);
        not_last = d_not_t;
        chordless = λ u du c.
            each_of_four (λ z. HasDart lists d z → (entry_after z ws ≡ d) ⊎ (entry_after d ws ≡ z)) s d p t
            (λ _. inl s_d) (λ h. absurd (simple.no_loop d d h refl)) (λ _. inr d_p) (λ h. absurd (no_chord h)) u c (restricted-old lists kept d u du).0;
      }

  off_d : CanBeTakenOff lists kept s t ws d
  off_d = connected_taken_off lists kept s t ws d simple connected peeled (omega (arith, count_all, large)) removable_d

  off_d_is : (front : List ℕ) (a : ℕ) (mid : List ℕ) (b : ℕ) (back : List ℕ) → IsTakenOff lists kept s t ws d front a mid b back → IsTakenOff lists kept s t ws d [] s mid p (t ∷ [])
  off_d_is front a mid b back off =
      let e = separated_once (s ∷ []) d (p ∷ t ∷ []) (front ++ a ∷ []) (b ∷ back) distinct (off.before ∙ sym (append_assoc front (a ∷ []) (d ∷ b ∷ back))) in
      let b_p : p ≡ b = ap (λ l. get_or l 0 0) e.1 in
      let back_t : t ∷ [] ≡ back = ap rest_of e.1 in
      at_front front e.0 (subst (λ z. IsTakenOff lists kept s t ws d front a mid p z) (sym back_t) (subst (λ z. IsTakenOff lists kept s t ws d front a mid z back) (sym b_p) off))
    where
      at_front : (front : List ℕ) → s ∷ [] ≡ front ++ a ∷ [] → IsTakenOff lists kept s t ws d front a mid p (t ∷ []) → IsTakenOff lists kept s t ws d [] s mid p (t ∷ [])
      at_front [] q h = subst (λ z. IsTakenOff lists kept s t ws d [] z mid p (t ∷ [])) (sym (ap (λ l. get_or l 0 0) q)) h
      at_front (x ∷ front) q h = absurd (let n = ap length q in omega (arith, n, length-append front (a ∷ [])))

  -- ---- and then p
  module _ (mid : List ℕ) (off : IsTakenOff lists kept s t ws d [] s mid p (t ∷ [])) where
    abbrev row : List ℕ
    row = s ∷ mid

    abbrev ws1 : List ℕ
    ws1 = row ++ p ∷ t ∷ []

    abbrev kept1 : ℕ → Bool
    kept1 = kept_but kept d

    abbrev kept2 : ℕ → Bool
    kept2 = kept_but kept1 p

    peeled1 : IsPeeled lists kept1 s t ws1
    peeled1 = off.left

    distinct1 : AllPairs ◌≢◌ ws1
    distinct1 = peeled1.near.cycle.distinct

    on_p1 : Contains ws1 p
    on_p1 = Contains-append_right row (p ∷ t ∷ []) p (Contains-here p (t ∷ []))

    p_t1 : entry_after p ws1 ≡ t
    p_t1 = entry_after-inside row p t [] distinct1

    -- the vertex before p on the cycle
    abbrev a : ℕ
    a = get_or row (length row - 1) 0

    a_p : entry_after a ws1 ≡ p
    a_p =
        let end = ends_with row a 0 (omega arith) refl in
        let whole : ws1 ≡ end.0 ++ a ∷ p ∷ t ∷ [] = ap (λ l. l ++ p ∷ t ∷ []) end.1 ∙ append_assoc end.0 (a ∷ []) (p ∷ t ∷ []) in
        ap (entry_after a) whole ∙ entry_after-inside end.0 a p (t ∷ []) (subst (AllPairs ◌≢◌) whole distinct1)

    -- which follows p round d
    face_a : follows lists d p ≡ a
    face_a =
        let n : length mid ≡ length row - 1 = omega arith in
        let first : get_or (row ++ p ∷ []) (length mid) 0 ≡ a = get_or_append_left row (p ∷ []) 0 (length mid) (omega arith) ∙ ap (λ k. get_or row k 0) n in
        let m : length mid + 1 ≡ length (row ++ p ∷ []) - 1 = omega (arith, length-append row (p ∷ [])) in
        let second : get_or (row ++ p ∷ []) (length mid + 1) 0 ≡ p = ap (λ k. get_or (row ++ p ∷ []) k 0) m ∙ last-entry row p 0 in
        ap (follows lists d) (sym second) ∙ (((off.fan.faces (length mid) (omega arith)).round) ∙ first)

    removable_p : IsRemovable (restricted kept1 lists) s t ws1 p
    removable_p =
        record {
          on = on_p1;
          not_first = λ e. s_not_p (sym e);
          not_last = p_not_t;
          chordless = λ u du c.
              let pu = (restricted-old lists kept1 p u du).0 in
              elim (Contains-append_cases row (p ∷ t ∷ []) u c) [
                | inr c' ↦ each_of_two (λ z. HasDart lists p z → (entry_after z ws1 ≡ p) ⊎ (entry_after p ws1 ≡ z)) p t (λ h. absurd (simple.no_loop p p h refl)) (λ _. inr p_t1) u c' pu
                | inl in_row ↦
                    let du0 = (restricted-old lists kept d u ((off.fan.neighbours u).1 (Contains-append_left row (p ∷ []) u in_row))).0 in
                    elim (none d p u dart_dp pu (simple.both_ways d u du0)) [
                      | inl f ↦
                          absurd (parts_apart row (p ∷ t ∷ []) distinct1 u in_row (subst (Contains (p ∷ t ∷ [])) (sym turn_p ∙ f.second) (Contains-there p (t ∷ []) t (Contains-here t []))))
                      | inr f ↦ inl (ap (λ z. entry_after z ws1) (sym f.second ∙ face_a) ∙ a_p)
                    ]
              ];
        }

    off_p : count_below kept (length lists) ≡ count_below kept1 (length lists) + 1 → CanBeTakenOff lists kept1 s t ws1 p
    off_p less = connected_taken_off lists kept1 s t ws1 p simple connected peeled1 (omega (arith, less, count_all, large)) removable_p

    gone_d : kept2 d ≡ false
    gone_d = and_left (kept1 d) (not (eqb d p)) (kept_but-itself kept d)

    gone_p : kept2 p ≡ false
    gone_p = kept_but-itself kept1 p

    module _ (front : List ℕ) (b : ℕ) (mid2 : List ℕ) (c : ℕ) (back : List ℕ) (off2 : IsTakenOff lists kept1 s t ws1 p front b mid2 c back) where
      abbrev ws2 : List ℕ
      ws2 = front ++ (b ∷ mid2 ++ c ∷ back)

      abbrev step2 : ℕ → ℕ
      step2 x = entry_after x ws2

      peeled2 : IsPeeled lists kept2 s t ws2
      peeled2 = off2.left

      -- the vertices of the last cycle are kept
      not_gone : (x : ℕ) → Contains ws2 x → (x ≢ d) × (x ≢ p)
      not_gone x h =
          let k = (restricted-old lists kept2 x (step2 x) (peeled2.near.cycle.darts x h)).1 in
          (λ e. true≢false (sym k ∙ (ap kept2 e ∙ gone_d)), λ e. true≢false (sym k ∙ (ap kept2 e ∙ gone_p)))

      -- beyond each of its darts but the base stands d or p
      beyond_is : (x : ℕ) → Contains ws2 x → (IsFaceOfThree lists x (step2 x) p ⊎ IsFaceOfThree lists x (step2 x) d) ⊎ (x ≡ t)
      beyond_is x h =
          elim (new_or_old lists kept1 s t ws1 p front b mid2 c back peeled1 off2 simple x h) [
            | inl f ↦ inl (inl f)
            | inr o ↦
                elim (new_or_old lists kept s t ws d [] s mid p (t ∷ []) peeled off simple x o.0) [
                  | inl f ↦ inl (inr (subst (λ y. IsFaceOfThree lists x y d) o.1 f))
                  | inr o' ↦
                      let to : step x ≡ step2 x = o'.1 ∙ o.1 in
                      let on2 = Contains-entry_after x ws2 h in
                      each_of_four (λ z. z ≡ x → (IsFaceOfThree lists x (step2 x) p ⊎ IsFaceOfThree lists x (step2 x) d) ⊎ (x ≡ t)) s d p t
                      (λ e. absurd ((not_gone (step2 x) on2).0 (sym to ∙ (ap step (sym e) ∙ s_d))))
                      (λ e. absurd ((not_gone x h).0 (sym e)))
                      (λ e. absurd ((not_gone x h).1 (sym e)))
                      (λ e. inr (sym e)) x o'.0 refl
                ]
          ]

      opened : IsOpenOutside lists kept2 t ws2
      opened =
          record {
            beyond = λ x h.
                elim (beyond_is x h) [
                  | inl k ↦ elim k [ inl f ↦ ap kept2 f.second ∙ gone_p | inr f ↦ ap kept2 f.second ∙ gone_d ]
                  | inr e ↦
                      let last : step2 t ≡ s = next-last (restricted kept2 lists) s t ws2 peeled2.near.simple peeled2.near.cycle in
                      ap (λ z. kept2 (follows lists (step2 z) z)) e ∙ (ap (λ y. kept2 (follows lists y t)) last ∙ (ap kept2 turn_s ∙ gone_d))
                ];
            triangles = λ x h n.
                elim (beyond_is x h) [
                  | inl k ↦ elim k [ inl f ↦ subst (IsFaceOfThree lists x (step2 x)) (sym f.second) f | inr f ↦ subst (IsFaceOfThree lists x (step2 x)) (sym f.second) f ]
                  | inr e ↦ absurd (n e)
                ];
            company = λ z l out.
                elim (cases_eq z d) [
                  | inl e ↦ (p, subst (λ w. HasDart lists w p) (sym e) dart_dp, gone_p)
                  | inr nd ↦
                      elim (cases_eq z p) [
                        | inl e ↦ (d, subst (λ w. HasDart lists w d) (sym e) (simple.both_ways d p dart_dp), gone_d)
                        | inr np ↦ absurd (true≢false (sym (kept_but-new kept1 p z (kept_but-new kept d z (all z l) nd) np) ∙ out))
                      ]
                ];
          }

  -- A connected near triangulation with a quadrangle as its outer cycle and at least one vertex inside, in which no triangle separates: without the two vertices that are not of the base it is peeled, and open outside.
  pub quadrangle_opened : (ws2 : List ℕ) × IsPeeled lists (kept_but (kept_but kept d) p) s t ws2 × IsOpenOutside lists (kept_but (kept_but kept d) p) t ws2
  quadrangle_opened =
      let off = off_d_is off_d.0.0 off_d.0.1 off_d.0.2 off_d.0.3 off_d.0.4 off_d.0.5 in
      let two = (off_p off_d.0.2 off off_d.1).0 in
      (two.0 ++ (two.1 ∷ two.2 ++ two.3 ∷ two.4), two.5.left, opened off_d.0.2 off two.0 two.1 two.2 two.3 two.4 two.5)
