-- What is left while vertices are taken off: how it begins, one vertex less, and how it ends.
use Rattle.std.proofs.Common.{◌≡◌, ◌≢◌, ◌⊎◌, ℕ, zero, suc, ◌+◌, ◌-◌, ◌<◌, ◌≤◌, Bool, true, false, not, eqb, List, [], ◌∷◌, ◌++◌, length, get_or, AllPairs, Contains, refl, sym, ap, ◌∙◌, subst, inl, inr, arith}
use Rattle.std.proofs.lemmas.Bool.{cases_eq, cases_Bool, true≢false, and_left}
use Rattle.std.proofs.lemmas.List.{get_or_default}
use Rattle.classes.specs.Classes.{count_below}
use Rattle.map_lists.specs.Lists.{Lists}
use Rattle.map_theory.specs.Maps.{HasDart, IsSimpleMap, follows, entry_after}
use Rattle.map_theory.proofs.EntryLemmas.{Contains-here, Contains-there}
use Rattle.map_theory.proofs.DartLemmas.{Contains-entry_after}
use Rattle.plane_peeling.specs.Restricted.{restricted, kept_but, IsFaceOfThree}
use Rattle.plane_peeling.specs.NearTriangulations.{IsOuterCycle, IsRemovable}
use Rattle.plane_peeling.specs.Peeled.{IsTakenOff}
use Rattle.plane_peeling.specs.Laws.{CanBeTakenOff}
use Rattle.plane_peeling.proofs.Rings.{each_of_three, entry_after-inside}
use Rattle.plane_peeling.proofs.RestrictedMaps.{restricted-old, kept_but-old, kept_but-new, kept_but-itself}
use Rattle.plane_peeling.proofs.OuterCycles.{IsFaceOfThree-turned, next-last}
use Rattle.plane_peeling.proofs.Covers.{new_or_old, cycle_after}
use Rattle.plane_peeling.proofs.Ends.{three_left}
use Rattle.plane_peeling.proofs.OpenAfter.{open_after}
use Rattle.plane_peeling.proofs.Steps.{removable_taken_off}
use Rattle.plane_peeling.proofs.TwoGone.{some_removable_of_two}
use Rattle.canon_order.specs.Lefts.{IsCycleAfter, IsLeft}
use Rattle.canon_order.proofs.Lefts.{IsLeft-begin, IsLeft-taken, IsLeft-three}
use Rattle.rect_orders.specs.Maps.{IsRectMap, closed}
use Rattle.rect_orders.specs.Orders.{HasTwoLater, IsRectOrder}
use Rattle.rect_orders.specs.Lefts.{HasTwoGone, IsRectLeft}
use Rattle.rect_orders.proofs.Closed.{triangulation, more, put, length-closed, opened, face_tsd, face_dpt, turn_p, dart_dp, d_not_p, d_not_t, p_not_t, s_not_p, s_not_d}
use Rattle.rect_orders.proofs.SameCycles.{same_cycle, IsOpenOutside-same}
use Rattle.rect_orders.proofs.Transfer.{same_restricted, IsPeeled-old, IsTakenOff-old}

-- ---- later neighbours
-- two neighbours that are taken off stand behind
two_later_here : (lists : Lists) (kept : ℕ → Bool) (v : ℕ) (rest : List ℕ) → IsSimpleMap lists → ((u : ℕ) → u < length lists → kept u ≡ false → Contains rest u) → HasTwoGone lists kept v → HasTwoLater lists (v ∷ rest) 0
two_later_here lists kept v rest simple gone g =
    let one = gone g.one (simple.in_range v g.one g.first) g.first_gone in
    let other = gone g.other (simple.in_range v g.other g.second) g.second_gone in
    let at_one : get_or rest one.0 0 ≡ g.one = get_or_default rest one.0 0 g.one one.1 ∙ one.2 in
    let at_other : get_or rest other.0 0 ≡ g.other = get_or_default rest other.0 0 g.other other.1 ∙ other.2 in
    record {
      j = suc one.0;
      k = suc other.0;
      apart = λ e. (let e' : one.0 ≡ other.0 = omega arith in g.apart (sym at_one ∙ (ap (λ i. get_or rest i 0) e' ∙ at_other)));
      first = omega arith;
      second = omega arith;
      first_in = omega arith;
      second_in = omega arith;
      one = subst (HasDart lists v) (sym at_one) g.first;
      other = subst (HasDart lists v) (sym at_other) g.second;
    }

-- one vertex more in front
HasTwoLater-behind : (lists : Lists) (u : ℕ) (rest : List ℕ) (i : ℕ) → HasTwoLater lists rest i → HasTwoLater lists (u ∷ rest) (suc i)
HasTwoLater-behind lists u rest i h =
    let j = h.apart in
    record {
      j = suc h.j;
      k = suc h.k;
      apart = λ e. j (omega arith);
      first = omega arith;
      second = omega arith;
      first_in = omega arith;
      second_in = omega arith;
      one = h.one;
      other = h.other;
    }

module _ (lists : Lists) (s d p t : ℕ) (h : IsRectMap lists s d p t) where
  abbrev C : Lists
  C = closed lists s d p t

  simple : IsSimpleMap lists
  simple = h.near.simple

  -- ---- the top and the right vertex are taken off
  module _ (kept : ℕ → Bool) (all : (v : ℕ) → v < length lists → kept v ≡ true) (vertices : (v : ℕ) → kept v ≡ true → v < length lists) where
    abbrev kept1 : ℕ → Bool
    kept1 = kept_but kept d

    abbrev kept2 : ℕ → Bool
    kept2 = kept_but kept1 p

    abbrev three : List ℕ
    three = s ∷ d ∷ t ∷ []

    left0 : IsLeft C s t kept three []
    left0 =
        let n = length-closed lists s d p t h in
        subst (λ w. IsLeft C s t kept (s ∷ w ∷ t ∷ []) []) (face_tsd lists s d p t h).second
        (IsLeft-begin C s t kept (triangulation lists s d p t h) (face_tsd lists s d p t h).dart (λ v l. all v (omega arith)) (λ v k. (let l = vertices v k in omega arith)))

    distinct0 : AllPairs ◌≢◌ three
    distinct0 = left0.peeled.near.cycle.distinct

    s_d0 : entry_after s three ≡ d
    s_d0 = entry_after-inside [] s d (t ∷ []) distinct0

    d_t0 : entry_after d three ≡ t
    d_t0 = entry_after-inside (s ∷ []) d t [] distinct0

    free_d : IsRemovable (restricted kept C) s t three d
    free_d = record {
      on = (1, omega arith, refl);
      not_first = λ e. s_not_d lists s d p t h (sym e);
      not_last = d_not_t lists s d p t h;
      chordless = λ u dart c.
          each_of_three (λ z. z ≡ u → (entry_after u three ≡ d) ⊎ (entry_after d three ≡ u)) s d t
          (λ e. inl (ap (λ z. entry_after z three) (sym e) ∙ s_d0)) (λ e. absurd (left0.peeled.near.simple.no_loop d u dart (sym e))) (λ e. inr (d_t0 ∙ e)) u c refl;
    }

    many : 4 < count_below kept (length C)
    many = let n = length-closed lists s d p t h in let c = left0.count in let l = h.large in omega arith

    off_d : CanBeTakenOff C kept s t three d
    off_d = removable_taken_off C kept s t three d (triangulation lists s d p t h) left0.peeled (omega (arith, many)) free_d

    module _ (front : List ℕ) (a : ℕ) (mid : List ℕ) (b : ℕ) (back : List ℕ) (off : IsTakenOff C kept s t three d front a mid b back) where
      abbrev ws1 : List ℕ
      ws1 = front ++ (a ∷ mid ++ b ∷ back)

      abbrev next1 : ℕ → ℕ
      next1 x = entry_after x ws1

      cycle1 : IsOuterCycle (restricted kept1 C) s t ws1
      cycle1 = off.left.near.cycle

      not_d : (x : ℕ) → Contains ws1 x → x ≢ d
      not_d x c = (kept_but-old kept d x (restricted-old C kept1 x (next1 x) (cycle1.darts x c)).1).1

      -- each dart of the cycle but the base is on a face with the top
      with_top : (x : ℕ) → Contains ws1 x → x ≢ t → IsFaceOfThree C x (next1 x) d
      with_top x c n =
          elim (new_or_old C kept s t three d front a mid b back left0.peeled off (more lists s d p t h).simple x c) [
            | inl f ↦ f
            | inr o ↦
                each_of_three (λ z. z ≡ x → IsFaceOfThree C x (next1 x) d) s d t
                (λ e. absurd (not_d (next1 x) (next-in x c) (sym o.1 ∙ (ap (λ z. entry_after z three) (sym e) ∙ s_d0))))
                (λ e. absurd (not_d x c (sym e)))
                (λ e. absurd (n (sym e))) x o.0 refl
          ]
        where
          next-in : (x : ℕ) → Contains ws1 x → Contains ws1 (next1 x)
          next-in x c = Contains-entry_after x ws1 c

      on_p : Contains ws1 p
      on_p =
          off.left.border p d (kept_but-new kept d p (all p (simple.in_range d p (dart_dp lists s d p t h))) (λ e. d_not_p lists s d p t h (sym e)))
          ((more lists s d p t h).kept p d (simple.both_ways d p (dart_dp lists s d p t h))) (kept_but-itself kept d)

      p_t1 : next1 p ≡ t
      p_t1 = sym (with_top p on_p (p_not_t lists s d p t h)).round ∙ (face_dpt lists s d p t h).second

      free_p : IsRemovable (restricted kept1 C) s t ws1 p
      free_p = record {
        on = on_p;
        not_first = λ e. s_not_p lists s d p t h (sym e);
        not_last = p_not_t lists s d p t h;
        chordless = λ u dart c.
            elim (cases_eq u t) [
              | inl e ↦ inr (p_t1 ∙ sym e)
              | inr n ↦ inl (no_chord u dart c n)
            ];
      }
        where
          no_chord : (u : ℕ) → HasDart (restricted kept1 C) p u → Contains ws1 u → u ≢ t → next1 u ≡ p
          no_chord u dart c n =
              let new = (more lists s d p t h).simple in
              let f = with_top u c n in
              let du : HasDart lists d u =
              elim ((more lists s d p t h).only d u (IsFaceOfThree-turned C (next1 u) d u new (IsFaceOfThree-turned C u (next1 u) d new f)).dart) [
                | inl o ↦ o
                | inr r ↦ elim r [ inl e ↦ absurd (n e.1) | inr e ↦ absurd (d_not_t lists s d p t h e.0) ]
              ] in
              let pu : HasDart lists p u =
              elim ((more lists s d p t h).only p u (restricted-old C kept1 p u dart).0) [
                | inl o ↦ o
                | inr r ↦ elim r [ inl e ↦ absurd (d_not_p lists s d p t h (sym e.0)) | inr e ↦ absurd (p_not_t lists s d p t h e.0) ]
              ] in
              let ud = simple.both_ways d u du in
              elim (h.no_separating d p u (dart_dp lists s d p t h) pu ud) [
                | inl g ↦ absurd (n (sym g.second ∙ turn_p lists s d p t h))
                | inr g ↦ sym f.round ∙ ((put lists s d p t h).other u d ud (λ e. absurd (not_d u c e)) (λ e. absurd (n e)) ∙ g.third)
              ]

      left1 : count_below kept (length C) ≡ count_below kept1 (length C) + 1 → IsLeft C s t kept1 ws1 (d ∷ [])
      left1 less = IsLeft-taken C s t kept three [] (triangulation lists s d p t h) left0 d front a mid b back free_d.on off less (omega (arith, many))

      off_p : count_below kept (length C) ≡ count_below kept1 (length C) + 1 → CanBeTakenOff C kept1 s t ws1 p
      off_p less = removable_taken_off C kept1 s t ws1 p (triangulation lists s d p t h) off.left (omega (arith, many)) free_p

      module _ (less : count_below kept (length C) ≡ count_below kept1 (length C) + 1) (front2 : List ℕ) (a2 : ℕ) (mid2 : List ℕ) (b2 : ℕ) (back2 : List ℕ) (off2 : IsTakenOff C kept1 s t ws1 p front2 a2 mid2 b2 back2) (less2 : count_below kept1 (length C) ≡ count_below kept2 (length C) + 1) where
        abbrev ws2 : List ℕ
        ws2 = front2 ++ (a2 ∷ mid2 ++ b2 ∷ back2)

        gone_d : kept2 d ≡ false
        gone_d = and_left (kept1 d) (not (eqb d p)) (kept_but-itself kept d)

        gone_p : kept2 p ≡ false
        gone_p = kept_but-itself kept1 p

        begun : IsRectLeft lists s d p t kept2 ws2 (p ∷ d ∷ [])
        begun =
            let peeled = IsPeeled-old lists s d p t h kept2 gone_d gone_p ws2 off2.left in
            let o = opened lists s d p t h kept all in
            record {
              left = IsLeft-taken C s t kept1 ws1 (d ∷ []) (triangulation lists s d p t h) (left1 less) p front2 a2 mid2 b2 back2 on_p off2 less2 (omega (arith, many));
              peeled = peeled;
              outside = IsOpenOutside-same lists kept2 t ws2 o.0 (same_cycle (restricted kept2 lists) s t ws2 o.0 peeled.near.simple peeled.near.cycle o.1.near.cycle) o.2;
              gone = λ v l out.
                  elim (cases_eq v d) [
                    | inl e ↦ subst (Contains (p ∷ d ∷ [])) (sym e) (1, omega arith, refl)
                    | inr nd ↦ elim (cases_eq v p) [
                      | inl e ↦ subst (Contains (p ∷ d ∷ [])) (sym e) (0, omega arith, refl)
                      | inr np ↦ absurd (true≢false (sym (kept_but-new kept1 p v (kept_but-new kept d v (all v l) nd) np) ∙ out))
                    ]
                  ];
              top = gone_d;
              right = gone_p;
              some = omega arith;
              last = refl;
              later = λ i l. absurd (omega (arith, l));
            }

    -- so it begins: the top is taken off, and then the right vertex
    pub IsRectLeft-begin : (ws1 : List ℕ) × (ws2 : List ℕ) × IsCycleAfter C kept d three ws1 × IsCycleAfter C kept1 p ws1 ws2 × IsRectLeft lists s d p t kept2 ws2 (p ∷ d ∷ [])
    IsRectLeft-begin =
        let one = off_d.0 in
        let two = off_p one.0 one.1 one.2 one.3 one.4 one.5 off_d.1 in
        let fan = two.0 in (
          _,
          _,
          cycle_after C kept s t three d one.0 one.1 one.2 one.3 one.4 left0.peeled one.5,
          cycle_after C kept1 s t _ p fan.0 fan.1 fan.2 fan.3 fan.4 one.5.left fan.5,
          begun one.0 one.1 one.2 one.3 one.4 one.5 off_d.1 fan.0 fan.1 fan.2 fan.3 fan.4 fan.5 two.1,
        )

  -- ---- while more is left
  module _ (kept : ℕ → Bool) (ws rest : List ℕ) (r : IsRectLeft lists s d p t kept ws rest) where
    -- some vertex is removable with two neighbours taken off
    pub some_two_gone : (v : ℕ) × IsRemovable (restricted kept C) s t ws v × HasTwoGone lists kept v
    some_two_gone =
        let found = some_removable_of_two lists kept s t ws simple h.no_separating r.peeled r.outside in
        let x = found.0 in
        let v = found.1 in
        let f = found.2 in
        let near = r.peeled.near in
        let x_not_t : x ≢ t = λ e. f.removable.not_first (sym f.next ∙ (ap (λ z. entry_after z ws) e ∙ next-last (restricted kept lists) s t ws near.simple near.cycle)) in
        let y = follows lists v x in
        let w = entry_after v ws in
        let z = follows lists w v in
        let before : IsFaceOfThree lists x v y = subst (λ u. IsFaceOfThree lists x u (follows lists u x)) f.next (r.outside.triangles x f.on x_not_t) in
        let behind = r.outside.triangles v f.removable.on f.removable.not_last in
        let zv = IsFaceOfThree-turned lists w z v simple (IsFaceOfThree-turned lists v w z simple behind) in (
          v,
          subst (λ m. IsRemovable m s t ws v) (sym (same_restricted lists s d p t h kept r.top)) f.removable,
          record {
            one = y;
            other = z;
            apart = f.two;
            first = (IsFaceOfThree-turned lists x v y simple before).dart;
            second = simple.both_ways z v zv.dart;
            first_gone = subst (λ u. kept (follows lists u x) ≡ false) f.next (r.outside.beyond x f.on);
            second_gone = r.outside.beyond v f.removable.on;
          },
        )

    -- such a vertex is taken off
    module _ (v : ℕ) (removable : IsRemovable (restricted kept C) s t ws v) (g : HasTwoGone lists kept v) where
      pub two_later : (i : ℕ) → i < suc (length rest) - 2 → HasTwoLater lists (v ∷ rest) i
      two_later zero l = two_later_here lists kept v rest simple r.gone g
      two_later (suc i) l = HasTwoLater-behind lists v rest i (r.later i (omega arith))

      module _ (front : List ℕ) (a : ℕ) (mid : List ℕ) (b : ℕ) (back : List ℕ) (off : IsTakenOff C kept s t ws v front a mid b back) (less : count_below kept (length C) ≡ count_below (kept_but kept v) (length C) + 1) (some : 3 ≤ count_below (kept_but kept v) (length C)) where
        abbrev after : List ℕ
        after = front ++ (a ∷ mid ++ b ∷ back)

        but_gone : (u : ℕ) → kept u ≡ false → kept_but kept v u ≡ false
        but_gone u e = and_left (kept u) (not (eqb u v)) e

        pub IsRectLeft-taken : IsRectLeft lists s d p t (kept_but kept v) after (v ∷ rest)
        IsRectLeft-taken =
            let peeled = IsPeeled-old lists s d p t h (kept_but kept v) (but_gone d r.top) (but_gone p r.right) after off.left in
            let n = r.some in
            record {
              left = IsLeft-taken C s t kept ws rest (triangulation lists s d p t h) r.left v front a mid b back removable.on off less some;
              peeled = peeled;
              outside = open_after lists kept s t ws v front a mid b back simple r.peeled r.outside (IsTakenOff-old lists s d p t h kept r.top r.right ws v front a mid b back off peeled);
              gone = λ u l out.
                  elim (cases_eq u v) [
                    | inl e ↦ subst (Contains (v ∷ rest)) (sym e) (Contains-here v rest)
                    | inr ne ↦ elim (cases_Bool (kept u)) [
                      | inl k ↦ absurd (true≢false (sym (kept_but-new kept v u k ne) ∙ out))
                      | inr k ↦ Contains-there v rest u (r.gone u l k)
                    ]
                  ];
              top = but_gone d r.top;
              right = but_gone p r.right;
              some = omega arith;
              last = (let e : suc (length rest) - 2 ≡ suc (length rest - 2) = omega arith in ap (λ k. get_or (v ∷ rest) k 0) e ∙ r.last);
              later = λ i l. two_later i (omega arith);
            }

      -- so while more than three are left
      pub IsRectLeft-less : 3 < count_below kept (length C) → (ws' : List ℕ) × IsCycleAfter C kept v ws ws' × IsRectLeft lists s d p t (kept_but kept v) ws' (v ∷ rest) × (count_below kept (length C) ≡ count_below (kept_but kept v) (length C) + 1)
      IsRectLeft-less more =
          let taken = removable_taken_off C kept s t ws v (triangulation lists s d p t h) r.left.peeled more removable in
          let fan = taken.0 in
          let less = taken.1 in (
            _,
            cycle_after C kept s t ws v fan.0 fan.1 fan.2 fan.3 fan.4 r.left.peeled fan.5,
            IsRectLeft-taken fan.0 fan.1 fan.2 fan.3 fan.4 fan.5 less (omega arith),
            less,
          )

    -- three are left
    module _ (few : count_below kept (length C) ≡ 3) where
      abbrev x : ℕ
      x = follows C t s

      later_in : (i : ℕ) → 2 ≤ i → i + 2 < length rest + 3 → HasTwoLater lists (s ∷ t ∷ x ∷ rest) i
      later_in zero l m = absurd (omega (arith, l))
      later_in (suc zero) l m = absurd (omega (arith, l))
      later_in (suc (suc i)) l m =
          let found = some_two_gone in
          let removable = found.1 in
          let last = three_left C kept s t ws r.left.peeled few in
          let v_x : found.0 ≡ x =
          each_of_three (λ z. z ≡ found.0 → found.0 ≡ x) s last.0 t
          (λ e. absurd (removable.not_first (sym e))) (λ e. sym e ∙ sym last.2.third) (λ e. absurd (removable.not_last (sym e))) found.0 (subst (λ l. Contains l found.0) last.1 removable.on) refl in
          let here = two_later found.0 removable found.2 i (omega arith) in
          HasTwoLater-behind lists s (t ∷ x ∷ rest) (suc i) (HasTwoLater-behind lists t (x ∷ rest) i (subst (λ z. HasTwoLater lists (z ∷ rest) i) v_x here))

      pub IsRectLeft-three : IsRectOrder lists s d p t (s ∷ t ∷ x ∷ rest)
      IsRectLeft-three = record {
        canonical = IsLeft-three C s t kept ws rest (triangulation lists s d p t h) r.left few;
        right =
            let n = r.some in
            let e : length (s ∷ t ∷ x ∷ rest) - 2 ≡ suc (suc (suc (length rest - 2))) = omega arith in
            ap (λ k. get_or (s ∷ t ∷ x ∷ rest) k 0) e ∙ r.last;
        later = λ i l m. later_in i l (omega arith);
      }
