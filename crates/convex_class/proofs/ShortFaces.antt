-- A map whose faces have at most three darts has no separating pair.
use Rattle.std.proofs.Common.{◌≡◌, ◌≢◌, ◌⊎◌, ℕ, ◌+◌, ◌<◌, ◌≤◌, List, length, get_or, Some, sym, ap, ◌∙◌, inl, inr, arith}
use Rattle.vertex_rounds.proofs.LeastLemmas.{place_in}
use Rattle.std.specs.Option.{option_map}
use Rattle.std.proofs.lemmas.Bool.{cases_eq}
use Rattle.std.proofs.lemmas.List.{get_or_default, get_or_past}
use Rattle.map_theory.specs.Maps.{face_step, follows}
use Rattle.half_edges.specs.Map.{Map, IsHalfMap, dart_at}
use Rattle.euler_faces.specs.FaceWalks.{walk_at, AreFaces}
use Rattle.graph_search.specs.Cuts.{IsSeparatingPair}
use Rattle.convex_peeling.proofs.Meetings.{AreMetTwice}
use Rattle.convex_peeling.specs.PolyhedralMapsLaws.{IsPlaneUncut}
use Rattle.convex_peeling.proofs.PolyhedralLemmas.{pairs_meet_twice}
use Rattle.convex_class.specs.Clear.{after_place}
use Rattle.convex_class.proofs.Bad.{StandsIn, head_of, some_walk, same_walk}

after_next : (walk : List ℕ) (i j : ℕ) → i + 1 ≡ j → j < length walk → after_place walk i ≡ get_or walk j 0
after_next walk i j e l = ap (λ k. get_or walk k (get_or walk 0 0)) e ∙ get_or_default walk j (get_or walk 0 0) 0 l

after_last : (walk : List ℕ) (i j : ℕ) → i + 1 ≡ length walk → j ≡ 0 → after_place walk i ≡ get_or walk j 0
after_last walk i j e first = get_or_past walk (i + 1) (get_or walk 0 0) (omega arith) ∙ ap (λ k. get_or walk k 0) (sym first)

-- of two places of a walk of three the one follows the other
one_follows : (walk : List ℕ) (i j : ℕ) → length walk ≤ 3 → i < length walk → j < length walk → i ≢ j → (after_place walk i ≡ get_or walk j 0) ⊎ (after_place walk j ≡ get_or walk i 0)
one_follows walk i j short i_in j_in apart = grind (arith, cases_eq, after_next, after_last)

module _ (map : Map) (known : IsHalfMap map) (walks : List (List ℕ)) (faces : AreFaces map walks) (short : (f : ℕ) → f < length walks → length (walk_at walks f) ≤ 3) where
  -- a face at u passes just the two neighbours of u, and from the second one it leads to u
  passed_first : (f u a v b : ℕ) → u ≢ v → b ≢ u → StandsIn map walks f u a → StandsIn map walks f v b → v ≡ a
  passed_first f u a v b two other p q =
      let walk = walk_at walks f in
      let w = faces.each f p.1.0 in
      let i = place_in walk p.0 p.1.1 in
      let j = place_in walk q.0 q.1.1 in
      let at_i : dart_at map (get_or walk i.0 0) ≡ Some (u, a) = ap (dart_at map) i.2 ∙ p.2 in
      let at_j : dart_at map (get_or walk j.0 0) ≡ Some (v, b) = ap (dart_at map) j.2 ∙ q.2 in
      let apart : i.0 ≢ j.0 = λ e. two (head_of u a v b (sym at_i ∙ (ap (λ k. dart_at map (get_or walk k 0)) e ∙ at_j))).0 in
      let from_i : dart_at map (after_place walk i.0) ≡ Some (a, follows map.lists a u) = w.steps i.0 i.1 ∙ ap (option_map (face_step map.lists)) at_i in
      let from_j : dart_at map (after_place walk j.0) ≡ Some (b, follows map.lists b v) = w.steps j.0 j.1 ∙ ap (option_map (face_step map.lists)) at_j in
      elim (one_follows walk i.0 j.0 (short f p.1.0) i.1 j.1 apart) [
        | inl e ↦ (head_of v b a (follows map.lists a u) (sym at_j ∙ (sym (ap (dart_at map) e) ∙ from_i))).0
        | inr e ↦ absurd (other (sym (head_of u a b (follows map.lists b v) (sym at_i ∙ (sym (ap (dart_at map) e) ∙ from_j))).0))
      ]

  pub no_pair : IsPlaneUncut map.lists → (u v : ℕ) → ¬ IsSeparatingPair map.lists u v
  no_pair plane u v pair =
      let two : u ≢ v = λ e. absurd (omega arith) in
      let found = (pairs_meet_twice map.lists u v plane pair.0 pair.1).0 pair in
      let b = found.1 in
      let c = found.2 in
      let e = found.3 in
      let on : AreMetTwice map.lists u v found.0 b c e = found.4 in
      let f = some_walk map known walks faces u found.0 on.from_u.0 in
      let g = some_walk map known walks faces u c on.from_u.1 in
      let one = passed_first f.0 u found.0 v b two on.others.0 f.1 (same_walk map known walks faces f.0 u found.0 v b f.1 on.from_v.0 on.one) in
      on.two (sym one ∙ (passed_first g.0 u c v e two on.others.1 g.1 (same_walk map known walks faces g.0 u c v e g.1 on.from_v.1 on.other)))
