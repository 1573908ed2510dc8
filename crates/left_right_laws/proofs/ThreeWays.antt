-- Three ways between two vertices: were they in one order at both, the map of their edges alone would have one face.
use Rattle.std.proofs.Common.{◌≡◌, ◌≢◌, ◌⊎◌, ℕ, Bool, true, List, [], ◌∷◌, ◌++◌, AllPairs, Contains, sym, ◌∙◌, subst, inl, inr, arith}
use Rattle.std.specs.Prelude.{◌||◌}
use Rattle.std.proofs.Math.Bool.{or_comm}
use Rattle.std.proofs.lemmas.Bool.{or_cases, or_left, or_right}
use Rattle.std.proofs.lemmas.List.Elements.{Contains-append_left, Contains-append_right}
use Rattle.classes.proofs.Classes.{Together}
use Rattle.map_lists.specs.Lists.{Lists}
use Rattle.map_theory.specs.Maps.{list_of, HasDart, IsSimpleMap, IsPlane, follows, component_count}
use Rattle.map_theory.specs.Edges.{without_edge}
use Rattle.map_theory.proofs.EntryLemmas.{Contains-here, Contains-there, AllPairs-tail, head_apart, count_of-cons, count_of-append, count_of-le-one, AllPairs-from_counts, AllPairs-left, AllPairs-right, parts_apart}
use Rattle.map_theory.proofs.WithoutEdge.{dart_new, IsSimpleMap-without_edge}
use Rattle.map_theory.proofs.DartPermutations.{components}
use Rattle.plane_laws.specs.Kept.{with_kept, IsKeptMap}
use Rattle.plane_laws.proofs.KeptEdges.{kept_edges, list_of-with_kept}
use Rattle.plane_laws.proofs.EdgeComponents.{not_separated}
use Rattle.plane_laws.proofs.EdgeFaces.{bridge_test}
use Rattle.left_right_laws.specs.Ways.{IsInTurn, IsWay, first_on, last_on, AreThreeWays, ThreeWays}
use Rattle.left_right_laws.proofs.Turns.{turn_apart, turn_moved, turn_or, turn_not_both, turn-filter, next_in_turn}
use Rattle.left_right_laws.proofs.WayLemmas.{Steps, steps, Steps-from, steps-true, Steps-tail, Steps-head, IsClear, from_start, to_start, to_end, from_end, lasts_apart, firsts_apart, IsWay-steps, IsWay-first, IsWay-last}
use Rattle.left_right_laws.proofs.WayFaces.{Bends, face, face_on, one_face, forward, backward, way_together, bends_along}

-- an edge with which a way begins is no bridge where another way leads to its end
module _ (lists : Lists) (simple : IsSimpleMap lists) (x : ℕ) (us vs : List ℕ) (y : ℕ) (one : IsWay lists x us y) (two : IsWay lists x vs y) (clear : IsClear x us y) (clear' : IsClear x vs y) (ne : first_on us y ≢ first_on vs y) where
  edge : HasDart lists x (first_on us y)
  edge = IsWay-first lists x us y one

  abbrev rest : Lists
  rest = without_edge lists x (first_on us y)

  around : IsWay rest x vs y
  around =
      IsWay-steps lists rest x vs y two (λ v z s has. dart_new lists simple x (first_on us y) edge v z has
      (λ e q. ne (sym q ∙ from_start x vs y z clear' (subst (λ w. Steps x vs y w z) e s)))
      (λ e q. to_start x vs y v clear' (subst (Steps x vs y v) q s)))

  on : (us : List ℕ) → IsWay lists x us y → IsClear x us y → (e : HasDart lists x (first_on us y)) → IsWay (without_edge lists x (first_on us y)) x vs y → Together (components (without_edge lists x (first_on us y)) (IsSimpleMap-without_edge lists simple x (first_on us y) e)) x (first_on us y)
  on [] one clear e way = way_together (without_edge lists x y) (IsSimpleMap-without_edge lists simple x y e) x vs y way
  on (u ∷ us) one clear e way =
      let left = without_edge lists x u in
      let simple_left = IsSimpleMap-without_edge lists simple x u e in
      let back : IsWay left u us y =
      IsWay-steps lists left u us y one.1 (λ v z s has. dart_new lists simple x u e v z has
      (λ q _. elim (Steps-tail u us y v z s) [ inl t ↦ clear.off_start (subst (Contains (u ∷ us)) (sym (sym q ∙ sym t)) (Contains-here u us)) | inr c ↦ clear.off_start (Contains-there u us x (subst (Contains us) q c)) ])
      (λ _ q. elim (Steps-head u us y v z s) [ inl t ↦ clear.ends (sym (t ∙ q)) | inr c ↦ clear.off_start (Contains-there u us x (subst (Contains us) q c)) ])) in
      way_together left simple_left x vs y way ∙ sym (way_together left simple_left u us y back)

  pub no_bridge : component_count rest ≡ component_count lists
  no_bridge = not_separated lists simple x (first_on us y) edge (on us one clear edge around)

module _ (lists : Lists) (simple : IsSimpleMap lists) (plane : IsPlane lists) (x y : ℕ) (us vs ws : List ℕ) (ways : AreThreeWays lists x y us vs ws) where
  abbrev a : ℕ
  a = first_on us y

  abbrev b : ℕ
  b = first_on vs y

  abbrev c : ℕ
  c = first_on ws y

  abbrev a' : ℕ
  a' = last_on x us

  abbrev b' : ℕ
  b' = last_on x vs

  abbrev c' : ℕ
  c' = last_on x ws

  -- ---- what is apart
  abbrev all : List ℕ
  all = us ++ (vs ++ ws)

  x_y : x ≢ y
  x_y e = head_apart x (y ∷ all) ways.apart (subst (Contains (y ∷ all)) (sym e) (Contains-here y all))

  off_x : ¬ Contains all x
  off_x h = head_apart x (y ∷ all) ways.apart (Contains-there y all x h)

  off_y : ¬ Contains all y
  off_y = head_apart y all (AllPairs-tail x (y ∷ all) ways.apart)

  distinct : AllPairs ◌≢◌ all
  distinct = AllPairs-tail y all (AllPairs-tail x (y ∷ all) ways.apart)

  in_us : (z : ℕ) → Contains us z → Contains all z
  in_us z h = Contains-append_left us (vs ++ ws) z h

  in_vs : (z : ℕ) → Contains vs z → Contains all z
  in_vs z h = Contains-append_right us (vs ++ ws) z (Contains-append_left vs ws z h)

  in_ws : (z : ℕ) → Contains ws z → Contains all z
  in_ws z h = Contains-append_right us (vs ++ ws) z (Contains-append_right vs ws z h)

  others : AllPairs ◌≢◌ (vs ++ ws)
  others = AllPairs-right us (vs ++ ws) distinct

  clear_us : IsClear x us y
  clear_us = record { ends = x_y; off_start = λ h. off_x (in_us x h); off_end = λ h. off_y (in_us y h); distinct = AllPairs-left us (vs ++ ws) distinct }

  clear_vs : IsClear x vs y
  clear_vs = record { ends = x_y; off_start = λ h. off_x (in_vs x h); off_end = λ h. off_y (in_vs y h); distinct = AllPairs-left vs ws others }

  clear_ws : IsClear x ws y
  clear_ws = record { ends = x_y; off_start = λ h. off_x (in_ws x h); off_end = λ h. off_y (in_ws y h); distinct = AllPairs-right vs ws others }

  us_vs : (z : ℕ) → Contains us z → ¬ Contains vs z
  us_vs z h k = parts_apart us (vs ++ ws) distinct z h (Contains-append_left vs ws z k)

  us_ws : (z : ℕ) → Contains us z → ¬ Contains ws z
  us_ws z h k = parts_apart us (vs ++ ws) distinct z h (Contains-append_right vs ws z k)

  vs_ws : (z : ℕ) → Contains vs z → ¬ Contains ws z
  vs_ws z h k = parts_apart vs ws others z h k

  -- ---- the map of the edges of the three ways
  abbrev on_one : ℕ → ℕ → Bool
  on_one v z = steps x us y v z || (steps x vs y v z || steps x ws y v z)

  abbrev keep : ℕ → ℕ → Bool
  keep v z = on_one v z || on_one z v

  abbrev map : Lists
  map = with_kept keep lists

  kept : IsKeptMap lists map keep
  kept = kept_edges lists keep (λ v z. or_comm (on_one v z) (on_one z v)) simple

  simple_map : IsSimpleMap map
  simple_map = kept.simple

  abbrev Taken : ℕ → ℕ → Type 0
  Taken v z = Steps x us y v z ⊎ (Steps x vs y v z ⊎ Steps x ws y v z)

  taken_from : (v z : ℕ) → on_one v z ≡ true → Taken v z
  taken_from v z t = grind (arith, or_cases, steps, Steps-from)

  taken_true : (v z : ℕ) → Taken v z → on_one v z ≡ true
  taken_true v z s = grind (arith, or_left, steps, steps-true, or_right)

  keep_there : (v z : ℕ) → Taken v z → keep v z ≡ true
  keep_there v z s = or_left (on_one v z) (on_one z v) (taken_true v z s)

  dart_there : (v z : ℕ) → Taken v z → HasDart lists v z → HasDart map v z
  dart_there v z s has = (kept.darts v z).1 (has, keep_there v z s)

  dart_taken : (v z : ℕ) → HasDart map v z → Taken v z ⊎ Taken z v
  dart_taken v z has =
      elim (or_cases (on_one v z) (on_one z v) ((kept.darts v z).0 has).1) [ inl t ↦ inl (taken_from v z t) | inr t ↦ inr (taken_from z v t) ]

  way_us : IsWay map x us y
  way_us = IsWay-steps lists map x us y ways.one (λ v z s. dart_there v z (inl s))

  way_vs : IsWay map x vs y
  way_vs = IsWay-steps lists map x vs y ways.two (λ v z s. dart_there v z (inr (inl s)))

  way_ws : IsWay map x ws y
  way_ws = IsWay-steps lists map x ws y ways.three (λ v z s. dart_there v z (inr (inr s)))

  -- no step of a way is at a vertex that is not on it
  off_way : (ts : List ℕ) (v z : ℕ) → Contains all v → ¬ Contains ts v → ¬ Steps x ts y v z
  off_way ts v z h off s = elim (Steps-tail x ts y v z s) [ inl e ↦ off_x (subst (Contains all) (sym e) h) | inr h' ↦ off h' ]

  off_way' : (ts : List ℕ) (v z : ℕ) → Contains all v → ¬ Contains ts v → ¬ Steps x ts y z v
  off_way' ts v z h off s = elim (Steps-head x ts y z v s) [ inl e ↦ off_y (subst (Contains all) (sym e) h) | inr h' ↦ off h' ]

  bends_us : Bends map x us y
  bends_us =
      bends_along map simple_map x us y clear_us way_us (λ v z h has.
      let h' = in_us v h in
      elim (dart_taken v z has) [
        | inl s ↦ elim s [ inl k ↦ inl k | inr t ↦ elim t [ inl k ↦ absurd (off_way vs v z h' (us_vs v h) k) | inr k ↦ absurd (off_way ws v z h' (us_ws v h) k) ] ]
        | inr s ↦ elim s [ inl k ↦ inr k | inr t ↦ elim t [ inl k ↦ absurd (off_way' vs v z h' (us_vs v h) k) | inr k ↦ absurd (off_way' ws v z h' (us_ws v h) k) ] ]
      ])

  bends_vs : Bends map x vs y
  bends_vs =
      bends_along map simple_map x vs y clear_vs way_vs (λ v z h has.
      let h' = in_vs v h in
      elim (dart_taken v z has) [
        | inl s ↦ elim s [ inl k ↦ absurd (off_way us v z h' (λ m. us_vs v m h) k) | inr t ↦ elim t [ inl k ↦ inl k | inr k ↦ absurd (off_way ws v z h' (vs_ws v h) k) ] ]
        | inr s ↦ elim s [ inl k ↦ absurd (off_way' us v z h' (λ m. us_vs v m h) k) | inr t ↦ elim t [ inl k ↦ inr k | inr k ↦ absurd (off_way' ws v z h' (vs_ws v h) k) ] ]
      ])

  bends_ws : Bends map x ws y
  bends_ws =
      bends_along map simple_map x ws y clear_ws way_ws (λ v z h has.
      let h' = in_ws v h in
      elim (dart_taken v z has) [
        | inl s ↦ elim s [ inl k ↦ absurd (off_way us v z h' (λ m. us_ws v m h) k) | inr t ↦ elim t [ inl k ↦ absurd (off_way vs v z h' (λ m. vs_ws v m h) k) | inr k ↦ inl k ] ]
        | inr s ↦ elim s [ inl k ↦ absurd (off_way' us v z h' (λ m. us_ws v m h) k) | inr t ↦ elim t [ inl k ↦ absurd (off_way' vs v z h' (λ m. vs_ws v m h) k) | inr k ↦ inr k ] ]
      ])

  -- ---- at the two ends
  only_x : (z : ℕ) → HasDart map x z → (z ≡ a) ⊎ ((z ≡ b) ⊎ (z ≡ c))
  only_x z has =
      elim (dart_taken x z has) [
        | inl s ↦ elim s [ inl k ↦ inl (from_start x us y z clear_us k) | inr t ↦ elim t [ inl k ↦ inr (inl (from_start x vs y z clear_vs k)) | inr k ↦ inr (inr (from_start x ws y z clear_ws k)) ] ]
        | inr s ↦ elim s [ inl k ↦ absurd (to_start x us y z clear_us k) | inr t ↦ elim t [ inl k ↦ absurd (to_start x vs y z clear_vs k) | inr k ↦ absurd (to_start x ws y z clear_ws k) ] ]
      ]

  only_y : (z : ℕ) → HasDart map y z → (z ≡ a') ⊎ ((z ≡ b') ⊎ (z ≡ c'))
  only_y z has =
      elim (dart_taken y z has) [
        | inl s ↦ elim s [ inl k ↦ absurd (from_end x us y z clear_us k) | inr t ↦ elim t [ inl k ↦ absurd (from_end x vs y z clear_vs k) | inr k ↦ absurd (from_end x ws y z clear_ws k) ] ]
        | inr s ↦ elim s [ inl k ↦ inl (to_end x us y z clear_us k) | inr t ↦ elim t [ inl k ↦ inr (inl (to_end x vs y z clear_vs k)) | inr k ↦ inr (inr (to_end x ws y z clear_ws k)) ] ]
      ]

  -- the next of three neighbours, where v has no others
  next_at : (v p q r : ℕ) → HasDart map v p → HasDart map v q → HasDart map v r → ((z : ℕ) → HasDart map v z → (z ≡ p) ⊎ ((z ≡ q) ⊎ (z ≡ r))) → IsInTurn (list_of lists v) p q r → follows map v p ≡ q
  next_at v p q r has_p has_q has_r only turn =
      let keeps = λ (z : ℕ) (h : HasDart map v z). ((kept.darts v z).0 h).1 in
      let turn' = turn-filter (keep v) (list_of lists v) p q r (keeps p has_p) (keeps q has_q) (keeps r has_r) turn in
      next_in_turn (list_of map v) p q r (simple_map.no_repeat v has_p.0) has_p.1 has_q.1 has_r.1 (λ z h. only z (has_p.0, h)) (subst (λ l. IsInTurn l p q r) (sym (list_of-with_kept keep lists v)) turn')

  moved : (z p q r : ℕ) → (z ≡ p) ⊎ ((z ≡ q) ⊎ (z ≡ r)) → (z ≡ q) ⊎ ((z ≡ r) ⊎ (z ≡ p))
  moved z p q r h = elim h [ inl e ↦ inr (inr e) | inr t ↦ elim t [ inl e ↦ inl e | inr e ↦ inr (inl e) ] ]

  first_us : HasDart map x a
  first_us = IsWay-first map x us y way_us

  first_vs : HasDart map x b
  first_vs = IsWay-first map x vs y way_vs

  first_ws : HasDart map x c
  first_ws = IsWay-first map x ws y way_ws

  last_us : HasDart map a' y
  last_us = IsWay-last map x us y way_us

  last_vs : HasDart map b' y
  last_vs = IsWay-last map x vs y way_vs

  last_ws : HasDart map c' y
  last_ws = IsWay-last map x ws y way_ws

  -- In one order at both ends, they have one face.
  one_order : IsInTurn (list_of lists x) a b c → ¬ IsInTurn (list_of lists y) a' b' c'
  one_order turn turn' =
      let F = face map simple_map in
      let on = face_on map simple_map in
      let back_us = simple_map.both_ways a' y last_us in
      let back_vs = simple_map.both_ways b' y last_vs in
      let back_ws = simple_map.both_ways c' y last_ws in
      let only_x' = λ (z : ℕ) (h : HasDart map x z). moved z a b c (only_x z h) in
      let only_y' = λ (z : ℕ) (h : HasDart map y z). moved z b' c' a' (moved z a' b' c' (only_y z h)) in
      -- at x the second way leads on to the third; at y the first to the second, and the third to the first
      let y_ca = next_at y c' a' b' back_ws back_us back_vs only_y' (turn_moved (list_of lists y) b' c' a' (turn_moved (list_of lists y) a' b' c' turn')) in
      let round : F x a ≡ F a x =
      forward map simple_map x us y way_us bends_us
      ∙ (on a' y b' last_us (next_at y a' b' c' back_us back_vs back_ws only_y turn')
      ∙ (backward map simple_map x vs y way_vs bends_vs
      ∙ (on b x c (simple_map.both_ways x b first_vs) (next_at x b c a first_vs first_ws first_us only_x' (turn_moved (list_of lists x) a b c turn))
      ∙ (forward map simple_map x ws y way_ws bends_ws
      ∙ (on c' y a' last_ws y_ca ∙ backward map simple_map x us y way_us bends_us))))) in
      let same = no_bridge map simple_map x us vs y way_us way_vs clear_us clear_vs (turn_apart (list_of lists x) a b c turn).0 in
      omega (arith, (bridge_test map x a simple_map (kept.plane plane) first_us).0 (one_face map simple_map x a a x round), same)

  pub opposite : IsInTurn (list_of lists x) a b c → IsInTurn (list_of lists y) c' b' a'
  opposite turn =
      let ne = turn_apart (list_of lists x) a b c turn in
      let ends = λ (z : ℕ) (h : HasDart map z y). ((kept.darts y z).0 (simple_map.both_ways z y h)).0.1 in
      elim (turn_or (list_of lists y) a' b' c' (ends a' last_us) (ends b' last_vs) (ends c' last_ws)
      (lasts_apart x us vs y clear_us.off_start clear_vs.off_start us_vs ne.0)
      (lasts_apart x vs ws y clear_vs.off_start clear_ws.off_start vs_ws ne.1)
      (lasts_apart x us ws y clear_us.off_start clear_ws.off_start us_ws ne.2)) [ inl turn' ↦ absurd (one_order turn turn') | inr turn' ↦ turn' ]

-- the ways in the other order
turned : (lists : Lists) (x y : ℕ) (us vs ws : List ℕ) → AreThreeWays lists x y us vs ws → AreThreeWays lists x y ws vs us
turned lists x y us vs ws ways =
    record {
      one = ways.three;
      two = ways.two;
      three = ways.one;
      apart = AllPairs-from_counts (x ∷ y ∷ (ws ++ (vs ++ us))) (λ u _.
          let few = count_of-le-one u (x ∷ y ∷ (us ++ (vs ++ ws))) ways.apart in
          let here = count_of-cons u x (y ∷ (us ++ (vs ++ ws))) in
          let next = count_of-cons u y (us ++ (vs ++ ws)) in
          let here' = count_of-cons u x (y ∷ (ws ++ (vs ++ us))) in
          let next' = count_of-cons u y (ws ++ (vs ++ us)) in
          omega (arith, few, here, next, here', next', count_of-append u us (vs ++ ws), count_of-append u vs ws, count_of-append u ws (vs ++ us), count_of-append u vs us));
    }

-- THE LAW: three ways in a map of genus zero
pub three_ways : ThreeWays
three_ways lists x y us vs ws simple plane ways = (
  opposite lists simple plane x y us vs ws ways,
  λ turn.
      let ne = turn_apart (list_of lists y) (last_on x ws) (last_on x vs) (last_on x us) turn in
      let cu = clear_us lists simple plane x y us vs ws ways in
      let cv = clear_vs lists simple plane x y us vs ws ways in
      let cw = clear_ws lists simple plane x y us vs ws ways in
      elim (turn_or (list_of lists x) (first_on us y) (first_on vs y) (first_on ws y) (IsWay-first lists x us y ways.one).1 (IsWay-first lists x vs y ways.two).1 (IsWay-first lists x ws y ways.three).1
      (firsts_apart x us vs y cu.off_end cv.off_end (us_vs lists simple plane x y us vs ws ways) (λ e. ne.1 (sym e)))
      (firsts_apart x vs ws y cv.off_end cw.off_end (vs_ws lists simple plane x y us vs ws ways) (λ e. ne.0 (sym e)))
      (firsts_apart x us ws y cu.off_end cw.off_end (us_ws lists simple plane x y us vs ws ways) (λ e. ne.2 (sym e)))) [
        | inl same ↦ same
        | inr other ↦
            let bad = opposite lists simple plane x y ws vs us (turned lists x y us vs ws ways) other in
            absurd (turn_not_both (list_of lists y) (last_on x ws) (last_on x vs) (last_on x us) turn bad)
      ],
)
