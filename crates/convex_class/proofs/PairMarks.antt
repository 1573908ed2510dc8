-- Marks round a vertex tell the least vertex with which it is a separating pair.
use Rattle.std.proofs.Common.{◌≡◌, ◌≢◌, ℕ, ◌+◌, ◌-◌, ◌<◌, ◌≤◌, List, [], length, get_or, Contains, Some, sym, ap, ◌∙◌, subst, inl, inr, arith}
use Rattle.std.proofs.lemmas.Bool.{cases_eq, cases_lt}
use Rattle.std.proofs.lemmas.List.{get_or_default}
use Rattle.std.specs.Option.{option_map}
use Rattle.map_lists.specs.Lists.{Lists}
use Rattle.map_theory.specs.Maps.{HasDart, list_of, place_of}
use Rattle.map_theory.specs.Paths.{SameFace}
use Rattle.map_theory.proofs.DartLemmas.{place_of-get_or, HasDart-at}
use Rattle.half_edges.specs.Map.{Map, IsHalfMap, IsLive, dart_at, first_dart, next_dart}
use Rattle.euler_faces.proofs.NumberLemmas.{live_from}
use Rattle.vertex_rounds.proofs.RoundLemmas.{LeavesFrom, LeavesFrom-later, head_at, place_at, place_at-later, at_place, last_place, later_place}
use Rattle.graph_search.specs.Cuts.{IsSeparatingPair, IsLeastPair}
use Rattle.graph_search.proofs.PartnerLemmas.{least_pair}
use Rattle.convex_peeling.proofs.Meetings.{AreMetTwice}
use Rattle.convex_peeling.specs.PolyhedralMapsLaws.{IsPlaneUncut}
use Rattle.convex_peeling.proofs.PolyhedralLemmas.{pairs_meet_twice}
use Rattle.convex_class.specs.Passing.{IsPassed, IsTwiceSeen, AreMarksOf}

-- the round of u stands at dart d, and the marks are those of the darts before
pub record IsMarkingRound (map : Map) (u d : ℕ) (marks : List ℕ) (best : ℕ) : Type 0 where
  pub dart : LeavesFrom map u d
  pub marked : AreMarksOf map.lists u (place_at map u d) marks best

-- how much of the round is left
abbrev pub left_of_round : Map → ℕ → ℕ → ℕ
left_of_round map u d = length (list_of map.lists u) - place_at map u d

module _ (map : Map) (known : IsHalfMap map) (u d e first : ℕ) (marks new : List ℕ) (best result : ℕ) (step : dart_at map e ≡ option_map (next_dart map.lists) (dart_at map d)) (begins : dart_at map first ≡ Some (first_dart map.lists u)) (walk ids : List ℕ) (same : ids ≡ walk) (stands : Contains walk d) (round : IsMarkingRound map u d marks best) (marked : (x : ℕ) → LeavesFrom map u x → Contains ids x → AreMarksOf map.lists u (place_at map u x) marks best → AreMarksOf map.lists u (place_at map u x + 1) new result) where
  live : IsLive map d
  live = live_from (dart_at map d) (u, head_at map d) round.dart

  more : AreMarksOf map.lists u (place_at map u d + 1) new result
  more = marked d round.dart (subst (λ (xs : List ℕ). Contains xs d) (sym same) stands) round.marked

  -- at the next dart
  pub IsMarkingRound-later : e ≢ first → IsMarkingRound map u e new result
  IsMarkingRound-later other = grind (arith, later_place, head_at, live, LeavesFrom-later, AreMarksOf, place_at-later, more)

  pub left_of_round-later : e ≢ first → left_of_round map u e < left_of_round map u d
  left_of_round-later other =
      let next = place_at-later map u d e (later_place map known d e first u (head_at map d) live step begins round.dart other) in
      omega (arith, (at_place map known u d round.dart).0)

  -- and behind the last
  pub AreMarksOf-round : e ≡ first → AreMarksOf map.lists u (length (list_of map.lists u)) new result
  AreMarksOf-round back =
      subst (λ k. AreMarksOf map.lists u k new result) (last_place map known d e first u (head_at map d) live step begins round.dart back) more

-- ---- pairs
module _ (lists : Lists) (plane : IsPlaneUncut lists) (u : ℕ) (u_in : u < length lists) where
  abbrev us : List ℕ
  us = list_of lists u

  entry_in : (i : ℕ) → i < length us → HasDart lists u (get_or us i 0)
  entry_in i l = HasDart-at lists u i 0 u_in l

  pub pair_seen : (w : ℕ) → IsTwiceSeen lists u (length us) w → IsSeparatingPair lists u w
  pair_seen w h =
      let i = h.0 in
      let j = h.1 in
      let l = h.3 in
      let p = h.4 in
      let distinct = plane.simple.no_repeat u u_in in
      let met : AreMetTwice lists u w (get_or us i 0) p.next (get_or us j 0) h.5.next = record {
        from_u = (entry_in i (omega arith), entry_in j l);
        two = λ e. absurd (let same = sym (place_of-get_or us i 0 distinct (omega arith)) ∙ (ap (λ z. place_of z us) e ∙ place_of-get_or us j 0 distinct l) in omega arith);
        from_v = (p.dart, h.5.dart);
        others = (p.other, h.5.other);
        one = p.face;
        other = h.5.face;
      } in
      (pairs_meet_twice lists u w plane p.later p.dart.0).1 (get_or us i 0, p.next, get_or us j 0, h.5.next, met)

  passed_at : (a w b : ℕ) → HasDart lists u a → u < w → HasDart lists w b → b ≢ u → SameFace lists (u, a) (w, b) → (i : ℕ) × (i < length us) × (get_or us i 0 ≡ a) × IsPassed lists u (get_or us i 0) w
  passed_at a w b has later has_b other face =
      let c = has.1 in
      let at : get_or us c.0 0 ≡ a = get_or_default us c.0 0 a c.1 ∙ c.2 in
      (c.0, c.1, at, record { later = later; next = b; dart = has_b; other = other; face = subst (λ z. SameFace lists (u, z) (w, b)) (sym at) face })

  pub seen_pair : (w : ℕ) → IsSeparatingPair lists u w → IsTwiceSeen lists u (length us) w
  seen_pair w pair =
      let found = (pairs_meet_twice lists u w plane pair.0 pair.1).0 pair in
      let met = found.4 in
      let one = passed_at found.0 w found.1 met.from_u.0 pair.0 met.from_v.0 met.others.0 met.one in
      let two = passed_at found.2 w found.3 met.from_u.1 pair.0 met.from_v.1 met.others.1 met.other in
      elim (cases_lt one.0 two.0) [
        | inl l ↦ (one.0, two.0, l, two.1, one.3, two.3)
        | inr le ↦ elim (cases_eq one.0 two.0) [
          | inl e ↦ absurd (met.two (sym one.2 ∙ (ap (λ i. get_or us i 0) e ∙ two.2)))
          | inr ne ↦ (two.0, one.0, omega arith, one.1, two.3, one.3)
        ]
      ]

-- what the marks tell at the end of the round
module _ (map : Map) (known : IsHalfMap map) (plane : IsPlaneUncut map.lists) (u d e first : ℕ) (marks new : List ℕ) (best result : ℕ) (step : dart_at map e ≡ option_map (next_dart map.lists) (dart_at map d)) (begins : dart_at map first ≡ Some (first_dart map.lists u)) (walk ids : List ℕ) (same : ids ≡ walk) (stands : Contains walk d) (round : IsMarkingRound map u d marks best) (marked : (x : ℕ) → LeavesFrom map u x → Contains ids x → AreMarksOf map.lists u (place_at map u x) marks best → AreMarksOf map.lists u (place_at map u x + 1) new result) (back : e ≡ first) where
  all_marks : AreMarksOf map.lists u (length (list_of map.lists u)) new result
  all_marks = AreMarksOf-round map known u d e first marks new best result step begins walk ids same stands round marked back

  u_in : u < length map.lists
  u_in = (known.is_dart d u (head_at map d) round.dart).0

  pub pair_of_round : result < length map.lists → IsSeparatingPair map.lists u result
  pair_of_round l = pair_seen map.lists plane u u_in result (all_marks.found l)

  pub least_of_round : (w : ℕ) → IsSeparatingPair map.lists u w → result ≤ w
  least_of_round w pair = all_marks.least w (seen_pair map.lists plane u u_in w pair)

-- a vertex without neighbours is in no pair
pub no_pair_alone : (lists : Lists) (u w : ℕ) → IsPlaneUncut lists → list_of lists u ≡ [] → ¬ IsSeparatingPair lists u w
no_pair_alone lists u w plane none pair = omega (arith, seen_pair lists plane u (omega arith) w pair, ap (λ (us : List ℕ). length us) none)

-- the least pair, where no lesser vertex has a partner
pub least_pair_at : (lists : Lists) (u v : ℕ) → ((a b : ℕ) → a < u → ¬ IsSeparatingPair lists a b) → IsSeparatingPair lists u v → ((w : ℕ) → IsSeparatingPair lists u w → v ≤ w) → IsLeastPair lists u v
least_pair_at lists u v before pair least = least_pair lists u v before (pair, least)
