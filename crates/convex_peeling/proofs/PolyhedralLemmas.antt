-- A plane map without cut vertices is three-connected where it is polyhedral, and polyhedral where it is three-connected.
use Rattle.std.proofs.Common.{◌≡◌, ◌≢◌, ◌⊎◌, ℕ, ◌<◌, ◌≤◌, [], ◌∷◌, length, Contains, sym, ap, ◌∙◌, subst, inl, inr, arith}
use Rattle.std.proofs.lemmas.Bool.{cases_lt}
use Rattle.map_lists.specs.Lists.{Lists}
use Rattle.map_theory.specs.Maps.{Dart, HasDart, component_count, list_of, follows, face_step, IsPlane}
use Rattle.map_theory.specs.Paths.{SameFace}
use Rattle.map_theory.proofs.DartLemmas.{HasDart-follows}
use Rattle.plane_laws.proofs.ComponentPaths.{JoinsAvoiding-fewer}
use Rattle.plane_laws.proofs.Triangles.{faces_have_three}
use Rattle.plane_peeling.proofs.RestrictedMaps.{cases_Contains}
use Rattle.graph_search.specs.Cuts.{AreSeparated, IsSeparatingPair}
use Rattle.graph_search.proofs.PairLemmas.{AreBoth-pair}
use Rattle.convex_peeling.specs.Polyhedral.{IsEdgeBetween, IsPolyhedral, IsThreeConnected}
use Rattle.convex_peeling.specs.PolyhedralMapsLaws.{IsPlaneUncut}
use Rattle.convex_peeling.proofs.Corners.{SameFace-turned, SameFace-chained, SameFace-step, cases_SameFace, passed_once}
use Rattle.convex_peeling.proofs.TwoFaces.{two_faces_part, AreOnTwoFaces-met}
use Rattle.convex_peeling.proofs.Meetings.{meet_twice, AreOnTwoFaces, StandOnTwoFaces, MeetTwice}
use Rattle.std.specs.Prelude.{◌↔◌}

-- vertices in the other order part the same
pub AreSeparated-swapped : (lists : Lists) (u v s t : ℕ) → AreSeparated lists (u ∷ v ∷ []) s t → AreSeparated lists (v ∷ u ∷ []) s t
AreSeparated-swapped lists u v s t separated =
    let same : (x y z : ℕ) → Contains (x ∷ y ∷ []) z → Contains (y ∷ x ∷ []) z = λ x y z c.
    elim ((AreBoth-pair x y).cases z c) [
      | inl e ↦ subst (Contains (y ∷ x ∷ [])) (sym e) (AreBoth-pair y x).other
      | inr e ↦ subst (Contains (y ∷ x ∷ [])) (sym e) (AreBoth-pair y x).one
    ] in
    record {
      s_off = λ c. separated.s_off (same v u s c);
      t_off = λ c. separated.t_off (same v u t c);
      path = separated.path;
      joined = separated.joined;
      apart = λ other j. separated.apart other (JoinsAvoiding-fewer lists (v ∷ u ∷ []) (u ∷ v ∷ []) s t other (same u v) j);
    }

-- what two vertices part makes them a separating pair, in the one order or the other
pub pair_of_separated : (lists : Lists) (u v : ℕ) → u < length lists → v < length lists → u ≢ v → (s : ℕ) × (t : ℕ) × AreSeparated lists (u ∷ v ∷ []) s t → IsSeparatingPair lists u v ⊎ IsSeparatingPair lists v u
pair_of_separated lists u v u_in v_in ne p =
    elim (cases_lt u v) [
      | inl l ↦ inl (l, v_in, p.0, p.1, p.2)
      | inr l ↦ inr (omega arith, u_in, p.0, p.1, AreSeparated-swapped lists u v p.0 p.1 p.2)
    ]

-- whether two vertices are an edge between two faces
cases_IsEdgeBetween : (lists : Lists) (d e : Dart) (u v : ℕ) → IsEdgeBetween lists d e u v ⊎ (¬ IsEdgeBetween lists d e u v)
cases_IsEdgeBetween lists d e u v =
    elim (cases_lt u (length lists)) [
      | inr past ↦ inr (λ h. let l = h.0.0 in omega arith)
      | inl u_in ↦ elim (cases_Contains (list_of lists u) v) [
        | inr none ↦ inr (λ h. none h.0.1)
        | inl has ↦ grind (arith, SameFace, cases_SameFace)
      ]
    ]

-- Without cut vertices no face passes a vertex twice.
pub faces_pass_once : (lists : Lists) (x y z : ℕ) → IsPlaneUncut lists → HasDart lists x y → HasDart lists x z → SameFace lists (x, y) (x, z) → y ≡ z
faces_pass_once lists x y z map has_y has_z same = passed_once lists map.simple map.plane map.uncut x y z has_y has_z same

-- Without cut vertices two vertices are a separating pair exactly where they stand on two faces, and are no edge between these.
pub pairs_stand_on_two_faces : (lists : Lists) (u v : ℕ) → IsPlaneUncut lists → u < v → v < length lists → IsSeparatingPair lists u v ↔ StandOnTwoFaces lists u v
pairs_stand_on_two_faces lists u v map order v_in =
    let ne : u ≢ v = λ e. (let q = e in omega arith) in (
      λ pair.
          let met = meet_twice lists map.simple map.plane map.uncut u v v_in ne (omega arith) pair.2 pair.3 pair.4 in
          (met.0, met.1, met.2, met.3, AreOnTwoFaces-met lists map.simple map.plane map.uncut u v met.0 met.1 met.2 met.3 met.4),
      λ on.
          let p = two_faces_part lists map.simple map.plane u v on.0 on.1 on.2 on.3 ne on.4 in
          (order, v_in, p.0, p.1, p.2),
    )

-- Or exactly where the faces of two darts of the lesser pass the greater with darts to others than the lesser.
pub pairs_meet_twice : (lists : Lists) (u v : ℕ) → IsPlaneUncut lists → u < v → v < length lists → IsSeparatingPair lists u v ↔ MeetTwice lists u v
pairs_meet_twice lists u v map order v_in =
    let ne : u ≢ v = λ e. (let q = e in omega arith) in (
      λ pair. meet_twice lists map.simple map.plane map.uncut u v v_in ne (omega arith) pair.2 pair.3 pair.4,
      λ met.
          let on = AreOnTwoFaces-met lists map.simple map.plane map.uncut u v met.0 met.1 met.2 met.3 met.4 in
          let p = two_faces_part lists map.simple map.plane u v met.0 met.1 met.2 met.3 ne on in
          (order, v_in, p.0, p.1, p.2),
    )

-- In a large connected map without cut vertices each edge has two faces.
edge_apart : (lists : Lists) → IsPlaneUncut lists → 3 ≤ length lists → component_count lists ≡ 1 → (x y : ℕ) → HasDart lists x y → ¬ SameFace lists (x, y) (y, x)
edge_apart lists map some one x y has same =
    let simple = map.simple in
    let back = simple.both_ways x y has in
    let once = faces_pass_once lists in
    let first = SameFace-step lists simple y x back in
    let second = SameFace-step lists simple x y has in
    let at_x : y ≡ follows lists x y = once x y (follows lists x y) map has (HasDart-follows lists x y has) (SameFace-chained lists simple (x, y) (y, x) (x, follows lists x y) same first) in
    let at_y : x ≡ follows lists y x = once y x (follows lists y x) map back (HasDart-follows lists y x back) (SameFace-chained lists simple (y, x) (x, y) (y, follows lists y x) (SameFace-turned lists simple (x, y) (y, x) same) second) in
    (faces_have_three lists x y simple one some has).1 (ap (face_step lists) (ap (λ z. (y, z)) (sym at_y)) ∙ ap (λ z. (x, z)) (sym at_x))

polyhedral_of_unpaired : (lists : Lists) → IsPlaneUncut lists → 3 ≤ length lists → component_count lists ≡ 1 → ((u v : ℕ) → ¬ IsSeparatingPair lists u v) → IsPolyhedral lists
polyhedral_of_unpaired lists map some one unpaired =
    record {
      once = λ x y z has_y has_z same. faces_pass_once lists x y z map has_y has_z same;
      apart = edge_apart lists map some one;
      share = λ u v a b c e ne has_a has_b has_c has_e on_one on_other differ.
          elim (cases_IsEdgeBetween lists (u, a) (u, c) u v) [
            | inl edge ↦ edge
            | inr none ↦
                let on : AreOnTwoFaces lists u v a b c e = record { from_u = (has_a, has_c); from_v = (has_b, has_e); one = on_one; other = on_other; apart = differ; no_edge = none } in
                elim (pair_of_separated lists u v has_a.0 has_b.0 ne (two_faces_part lists map.simple map.plane u v a b c e ne on)) [
                  | inl pair ↦ absurd (unpaired u v pair)
                  | inr pair ↦ absurd (unpaired v u pair)
                ]
          ];
    }

-- A three-connected map of genus zero is polyhedral.
pub three_connected_is_polyhedral : (lists : Lists) → IsThreeConnected lists → IsPlane lists → IsPolyhedral lists
three_connected_is_polyhedral lists three plane =
    polyhedral_of_unpaired lists (record { simple = three.simple; plane = plane; uncut = three.uncut }) (omega arith) three.connected three.unpaired
