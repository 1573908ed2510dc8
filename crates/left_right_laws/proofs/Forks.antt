-- A fork of a forest of a map of genus zero: its edges leave it in the order in which what returns by them reaches the line above.
use Rattle.std.proofs.Common.{◌≡◌, ◌≢◌, ◌⊎◌, ℕ, zero, suc, ◌+◌, ◌-◌, ◌<◌, Bool, true, false, not, ltb, List, [], ◌∷◌, ◌++◌, AllPairs, Contains, refl, sym, ap, ◌∙◌, subst, inl, inr, arith}
use Rattle.std.specs.Prelude.{◌↔◌, ◌||◌, ◌&&◌}
use Rattle.std.proofs.lemmas.Bool.{or_cases, or_left, or_right, and_parts, and_from, ltb-true, lt-ltb}
use Rattle.std.proofs.lemmas.List.Elements.{Contains-append_cases}
use Rattle.map_lists.specs.Lists.{Lists}
use Rattle.map_theory.specs.Maps.{list_of, place_of, HasDart, IsSimpleMap, IsPlane}
use Rattle.map_theory.proofs.EntryLemmas.{Contains-cons_cases, AllPairs-append}
use Rattle.left_right_laws.specs.Ways.{IsRising, IsInTurn, IsWay, first_on, last_on, AreThreeWays}
use Rattle.left_right_laws.specs.Forests.{up, IsForest, IsBranch, IsReturn, ForkOrder, PlaneIsLeftRight}
use Rattle.left_right_laws.proofs.Turns.{turn_moved, turn_not_both, turn_or}
use Rattle.left_right_laws.proofs.ThreeWays.{three_ways}
use Rattle.left_right_laws.proofs.Lines.{AllPairs-more, IsWay-join, first_on-join, last_on-join, up-add, line, down, first_on-line, last_on-line, line-in, first_on-down, last_on-down, depth-up, IsWay-line, IsWay-down, line-depth, down-depth, distinct-line, distinct-down}

-- ---- the order of three as a test
rising_test : List ℕ → ℕ → ℕ → ℕ → Bool
rising_test us a b c = ltb (place_of a us) (place_of b us) && ltb (place_of b us) (place_of c us)

turn_test : List ℕ → ℕ → ℕ → ℕ → Bool
turn_test us a b c = rising_test us a b c || (rising_test us b c a || rising_test us c a b)

rising_from : (us : List ℕ) (a b c : ℕ) → rising_test us a b c ≡ true → IsRising us a b c
unfolding rising_test
rising_from us a b c t =
    let both = and_parts (ltb (place_of a us) (place_of b us)) (ltb (place_of b us) (place_of c us)) t in
    (ltb-true (place_of a us) (place_of b us) both.0, ltb-true (place_of b us) (place_of c us) both.1)

rising_true : (us : List ℕ) (a b c : ℕ) → IsRising us a b c → rising_test us a b c ≡ true
unfolding rising_test
rising_true us a b c h =
    and_from (ltb (place_of a us) (place_of b us)) (ltb (place_of b us) (place_of c us)) (lt-ltb (place_of a us) (place_of b us) h.0) (lt-ltb (place_of b us) (place_of c us) h.1)

turn_from : (us : List ℕ) (a b c : ℕ) → turn_test us a b c ≡ true → IsInTurn us a b c
unfolding turn_test
turn_from us a b c t = grind (arith, us, or_cases, rising_test, rising_from)

turn_true : (us : List ℕ) (a b c : ℕ) → IsInTurn us a b c → turn_test us a b c ≡ true
unfolding turn_test
turn_true us a b c turn = grind (arith, us, or_left, rising_test, rising_true, or_right)

-- tests of what holds together are alike, and of what excludes each other opposite
same_tests : (one other : Bool) → ((one ≡ true) → (other ≡ true)) → ((other ≡ true) → (one ≡ true)) → one ≡ other
same_tests true other there back = sym (there refl)
same_tests false true there back = back refl
same_tests false false there back = refl

opposite_tests : (one other : Bool) → ((one ≡ true) → ¬ (other ≡ true)) → ((one ≡ true) ⊎ (other ≡ true)) → one ≡ not other
opposite_tests x0 x1 never some = grind arith

-- the last vertex on the line up from t, before v, with w for it where t is v
branch_last : (parent depth : ℕ → ℕ) (v e t w : ℕ) (k : ℕ) → k ≡ depth t - depth v → up parent k t ≡ v → IsBranch parent depth v e t w → last_on w (line parent t k) ≡ e
branch_last parent depth v e t w zero is at branch = elim branch [ inl h ↦ sym h.1 | inr h ↦ absurd (h.0 at) ]
branch_last parent depth v e t w (suc k) is at branch =
    elim branch [
      | inl h ↦ (let same = ap depth h.0 in absurd (omega arith))
      | inr h ↦ (let same : k ≡ depth t - depth v - 1 = omega arith in last_on-line parent w t k ∙ (ap (λ i. up parent i t) same ∙ sym h.1))
    ]

module _ (lists : Lists) (simple : IsSimpleMap lists) (plane : IsPlane lists) (parent depth : ℕ → ℕ) (forest : IsForest (HasDart lists) parent depth) where
  -- the vertex below w on the way down to t
  abbrev below : ℕ → ℕ → ℕ
  below t w = up parent (depth t - depth w - 1) t

  module _ (v e f t w s z : ℕ) (ne : e ≢ f) (one : IsReturn (HasDart lists) parent depth v e t w) (other : IsReturn (HasDart lists) parent depth v f s z) (lower : depth z < depth w) where
    -- how many vertices are strictly between v and w, from v's branch down to t and s, and from w up to z
    abbrev j : ℕ
    j = depth v - depth w - 1

    abbrev k : ℕ
    k = depth t - depth v

    abbrev l : ℕ
    l = depth s - depth v

    abbrev i : ℕ
    i = depth w - depth z - 1

    abbrev us : List ℕ
    us = down parent v j

    abbrev vs : List ℕ
    vs = line parent t k

    abbrev high : List ℕ
    high = line parent (parent w) i

    abbrev deep : List ℕ
    deep = line parent s l

    abbrev ws : List ℕ
    ws = high ++ z ∷ deep

    v_up : up parent (suc j) v ≡ w
    v_up = let m = one.higher in let n : suc j ≡ depth v - depth w = omega arith in ap (λ n. up parent n v) n ∙ one.above.line

    -- z is above w
    z_up : up parent (suc i) w ≡ z
    z_up =
        let n : depth v - depth z ≡ suc j + suc i = omega arith in
        ap (up parent (suc i)) (sym v_up) ∙ (sym (up-add parent (suc j) (suc i) (depth v - depth z) v n) ∙ other.above.line)

    w_deeper : depth w ≡ depth (parent w) + 1
    w_deeper = forest.deeper w (omega arith)

    way_us : IsWay lists w us v
    way_us = let m = one.higher in subst (λ x. IsWay lists x us v) v_up (IsWay-down lists simple parent depth forest v j (omega arith))

    way_vs : IsWay lists w vs v
    way_vs =
        subst (IsWay lists w vs) one.under.line (IsWay-line lists simple parent depth forest w t k (simple.both_ways t w one.edge) (omega arith))

    way_high : IsWay lists w high z
    way_high =
        subst (IsWay lists w high) z_up (IsWay-line lists simple parent depth forest w (parent w) i (forest.edges w (omega arith)) (omega (arith, w_deeper)))

    way_ws : IsWay lists w ws v
    way_ws =
        IsWay-join lists w high z deep v way_high (subst (IsWay lists z deep) other.under.line (IsWay-line lists simple parent depth forest z s l (simple.both_ways s z other.edge) (omega arith)))

    -- ---- what stands where
    at_us : (u : ℕ) → Contains us u → (depth w < depth u) × (depth u < depth v)
    at_us u c = let m = one.higher in let d = down-depth lists simple parent depth forest v j u (omega arith) c in let a = d.0 in let b = d.1 in (omega arith, omega arith)

    at_vs : (u : ℕ) → Contains vs u → depth v < depth u
    at_vs u c = let m = one.under.depths in let d = line-depth lists simple parent depth forest t k u (omega arith) c in let b = d.1 in omega arith

    at_deep : (u : ℕ) → Contains deep u → depth v < depth u
    at_deep u c = let m = other.under.depths in let d = line-depth lists simple parent depth forest s l u (omega arith) c in let b = d.1 in omega arith

    at_high : (u : ℕ) → Contains high u → (depth z < depth u) × (depth u < depth w)
    at_high u c = let e = w_deeper in let d = line-depth lists simple parent depth forest (parent w) i u (omega arith) c in let a = d.0 in let b = d.1 in (omega arith, omega arith)

    -- no vertex is under both branches
    branches : (u : ℕ) → Contains vs u → ¬ Contains deep u
    branches u c c' =
        let p = line-in parent t k u c in
        let q = line-in parent s l u c' in
        let dp = depth-up lists simple parent depth forest p.0 t (omega arith) in
        let dq = depth-up lists simple parent depth forest q.0 s (omega arith) in
        let n = depth u - depth v - 1 in
        let e_is : e ≡ up parent n u = grind (arith, up-add, up) in
        let f_is : f ≡ up parent n u = grind (arith, up-add, up) in
        ne (e_is ∙ sym f_is)

    distinct_ws : AllPairs ◌≢◌ ws
    distinct_ws =
        let d = w_deeper in
        AllPairs-append high (z ∷ deep) (distinct-line lists simple parent depth forest (parent w) i (omega arith))
        (AllPairs-more z deep (λ c. let h = at_deep z c in omega arith) (distinct-line lists simple parent depth forest s l (omega arith)))
        (λ u c c'.
        let h = at_high u c in
        elim (Contains-cons_cases z deep u c') [ inl e ↦ (let same = ap depth e in omega arith) | inr n ↦ (let g = at_deep u n in omega arith) ])

    distinct_rest : AllPairs ◌≢◌ (vs ++ ws)
    distinct_rest =
        AllPairs-append vs ws (distinct-line lists simple parent depth forest t k (omega arith)) distinct_ws
        (λ u c c'.
        elim (Contains-append_cases high (z ∷ deep) u c') [
          | inl n ↦ (let h = at_high u n in let b = h.1 in omega (arith, at_vs u c))
          | inr n ↦ elim (Contains-cons_cases z deep u n) [ inl e ↦ (let same = ap depth e in omega (arith, at_vs u c)) | inr n' ↦ branches u c n' ]
        ])

    -- what stands on the other two ways is not between v and w, and is neither
    off_between : (u : ℕ) → Contains (vs ++ ws) u → (depth u < depth w) ⊎ (depth v < depth u)
    off_between u c =
        elim (Contains-append_cases vs ws u c) [
          | inl n ↦ inr (at_vs u n)
          | inr n ↦ elim (Contains-append_cases high (z ∷ deep) u n) [
            | inl n' ↦ inl (at_high u n').1
            | inr n' ↦ elim (Contains-cons_cases z deep u n') [ inl e ↦ (let same = ap depth e in inl (omega arith)) | inr n'' ↦ inr (at_deep u n'') ]
          ]
        ]

    distinct_all : AllPairs ◌≢◌ (us ++ (vs ++ ws))
    distinct_all =
        AllPairs-append us (vs ++ ws) (distinct-down lists simple parent depth forest v j (omega arith)) distinct_rest
        (λ u c c'.
        let h = at_us u c in
        elim (off_between u c') [ inl g ↦ omega arith | inr g ↦ omega arith ])

    -- w and v are on none of them
    off_w : ¬ Contains (us ++ (vs ++ ws)) w
    off_w c =
        elim (Contains-append_cases us (vs ++ ws) w c) [
          | inl n ↦ (let h = at_us w n in let a = h.0 in omega arith)
          | inr n ↦ elim (off_between w n) [ inl g ↦ omega arith | inr g ↦ omega arith ]
        ]

    off_v : ¬ Contains (us ++ (vs ++ ws)) v
    off_v c =
        elim (Contains-append_cases us (vs ++ ws) v c) [
          | inl n ↦ (let h = at_us v n in let b = h.1 in omega arith)
          | inr n ↦ elim (off_between v n) [ inl g ↦ omega arith | inr g ↦ omega arith ]
        ]

    ways : AreThreeWays lists w v us vs ws
    ways =
        record {
          one = way_us;
          two = way_vs;
          three = way_ws;
          apart = AllPairs-more w (v ∷ (us ++ (vs ++ ws))) (λ c. elim (Contains-cons_cases v (us ++ (vs ++ ws)) w c) [
            | inl e ↦ (let same = ap depth e in let m = one.higher in omega arith)
            | inr n ↦ off_w n
          ]) (AllPairs-more v (us ++ (vs ++ ws)) off_v distinct_all);
        }

    -- ---- how they leave w and reach v
    first_us : first_on us v ≡ below t w
    first_us =
        let sum : depth t - depth w - 1 ≡ k + j = omega arith in
        first_on-down parent v j ∙ (ap (up parent j) (sym one.under.line) ∙ sym (up-add parent k j (depth t - depth w - 1) t sum))

    first_vs : first_on vs v ≡ t
    first_vs = ap (first_on vs) (sym one.under.line) ∙ first_on-line parent t k

    first_ws : first_on ws v ≡ parent w
    first_ws = first_on-join high z deep v ∙ (ap (first_on high) (sym z_up) ∙ first_on-line parent (parent w) i)

    last_us : last_on w us ≡ parent v
    last_us = ap (λ x. last_on x us) (sym v_up) ∙ last_on-down parent v j

    last_vs : last_on w vs ≡ e
    last_vs = branch_last parent depth v e t w k refl one.under.line one.branch

    last_ws : last_on w ws ≡ f
    last_ws = last_on-join w high z deep ∙ branch_last parent depth v f s z l refl other.under.line other.branch

    fork : IsInTurn (list_of lists w) (below t w) t (parent w) ↔ IsInTurn (list_of lists v) f e (parent v)
    fork = rw (first_us, first_vs, first_ws, last_us, last_vs, last_ws) at (three_ways lists w v us vs ws simple plane ways)

    -- as tests
    fork_tests : turn_test (list_of lists w) (below t w) t (parent w) ≡ turn_test (list_of lists v) f e (parent v)
    fork_tests = grind (arith, same_tests, turn_test, list_of, below, turn_true, fork, turn_from)

    -- v has both edges and its parent as neighbours
    neighbours : HasDart lists v e × HasDart lists v f × HasDart lists v (parent v)
    neighbours =
        let m = one.higher in (
          subst (HasDart lists v) last_vs (back vs way_vs),
          subst (HasDart lists v) last_ws (back ws way_ws),
          forest.edges v (omega arith),
        )
      where
        last_dart : (x : ℕ) (us : List ℕ) (y : ℕ) → IsWay lists x us y → HasDart lists (last_on x us) y
        last_dart x [] y way = way
        last_dart x (u ∷ us) y way = last_dart u us y way.1

        back : (us : List ℕ) → IsWay lists w us v → HasDart lists v (last_on w us)
        back us way = simple.both_ways (last_on w us) v (last_dart w us v way)

  -- at a fork the two orders are opposite
  two_orders : (v e f : ℕ) → e ≢ f → e ≢ parent v → f ≢ parent v → HasDart lists v e → HasDart lists v f → HasDart lists v (parent v) → turn_test (list_of lists v) e f (parent v) ≡ not (turn_test (list_of lists v) f e (parent v))
  two_orders v e f ne ne' ne'' has_e has_f has_p = grind (arith, us, list_of, opposite_tests, turn_test, turn_not_both, turn_from, turn_moved, turn_or, turn_true)

-- THE LAW: the orders at a fork, and where what returns by it ends
pub fork_order : ForkOrder
fork_order lists parent depth simple plane forest v e f t w s z ne one other lower = grind (arith, fork, up, us, list_of, vs, turn_moved)

-- THE LAW: a graph that has a map of genus zero is parted into left and right, by the sides on which its edges return in the map
pub plane_is_left_right : PlaneIsLeftRight
plane_is_left_right lists parent depth simple plane forest = (
  λ t w. turn_test (list_of lists w) (up parent (depth t - depth w - 1) t) t (parent w),
  λ v e f ne. (
    turn_test (list_of lists v) f e (parent v),
    λ t w s z one other. (
      λ lower. fork_tests lists simple plane parent depth forest v e f t w s z ne one other lower,
      λ lower.
          let ne' : f ≢ e = λ q. ne (sym q) in
          let at = neighbours lists simple plane parent depth forest v f e s z t w ne' other one lower in
          fork_tests lists simple plane parent depth forest v f e s z t w ne' other one lower ∙ two_orders lists simple plane parent depth forest v e f ne one.away other.away at.1 at.0 at.2,
    ),
  ),
)
