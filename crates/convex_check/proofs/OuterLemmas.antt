-- The points of the base's face, and its corners.
use Rattle.std.proofs.Common.{◌≡◌, ℕ, ◌<◌, pos, List, length, get_or, All, Contains, sym, ap, ◌∙◌, subst, arith}
use Rattle.std.proofs.lemmas.List.{get_or_default}
use Rattle.std.proofs.lemmas.List.Elements.{Contains-get_or}
use Rattle.map_theory.specs.Maps.{Dart, HasDart}
use Rattle.map_theory.specs.Paths.{SameFace}
use Rattle.half_edges.specs.Map.{Map, IsHalfMap, IsLive, dart_at}
use Rattle.euler_faces.specs.FaceWalks.{walk_at, AreFaces}
use Rattle.euler_faces.proofs.NumberLemmas.{live_from}
use Rattle.pg_plane.specs.declared.grid_points.Point.{Point}
use Rattle.pg_plane.specs.Geometry.{area}
use Rattle.pg_plane.specs.Range.{IsInRange}
use Rattle.plane_drawings.specs.Drawing.{place, HasPlaces}
use Rattle.vertex_rounds.specs.Rounds.{dart_of}
use Rattle.vertex_rounds.proofs.DartIds.{dart_of-is, has_dart}
use Rattle.drawings.specs.Corners.{IsOnTriangle, HasCorners}
use Rattle.drawings.specs.Convex.{IsOnFace, HasOuterCorners}
use Rattle.convex_check.specs.Walks.{AreWalkPlaces}
use Rattle.convex_check.proofs.BendLemmas.{one_walk_face, in_walk_of}

-- a half-edge map, and a point for each vertex
pub record IsDrawn (map : Map) (points : List Point) : Type 0 where
  pub known : IsHalfMap map
  pub places : HasPlaces map.lists points

-- each dart of a face's walk is live
pub live_in : (map : Map) (walks : List (List ℕ)) → AreFaces map walks → (f d : ℕ) → f < length walks → Contains (walk_at walks f) d → IsLive map d
live_in map walks faces f d l c = subst (λ (x : ℕ). IsLive map x) (get_or_default (walk_at walks f) c.0 0 d c.1 ∙ c.2) ((faces.each f l).live c.0 c.1)

module _ (map : Map) (points : List Point) (drawn : IsDrawn map points) (walks : List (List ℕ)) (faces : AreFaces map walks) (base f : ℕ) (live : IsLive map base) (l : f < length walks) (on : Contains (walk_at walks f) base) (places : List Point) (are : AreWalkPlaces map points (walk_at walks f) places) where
  abbrev walk : List ℕ
  walk = walk_at walks f

  abbrev outer : Dart
  outer = dart_of map base

  abbrev tail_at : ℕ → ℕ
  tail_at i = (dart_of map (get_or walk i 0)).0

  at_live : (i : ℕ) → i < length walk → IsLive map (get_or walk i 0)
  at_live i m = (faces.each f l).live i m

  tail_has : (i : ℕ) → i < length walk → HasDart map.lists (tail_at i) (dart_of map (get_or walk i 0)).1
  tail_has i m = has_dart map drawn.known (get_or walk i 0) (at_live i m)

  -- the vertices of the walk are those of the face
  on_face : (i : ℕ) → i < length walk → IsOnFace map.lists outer (tail_at i)
  on_face i m =
      let d = get_or walk i 0 in
      ((dart_of map d).1, tail_has i m, one_walk_face map drawn.known walks faces base d live (at_live i m) f l on (Contains-get_or walk i 0 m))

  of_face : (v : ℕ) → IsOnFace map.lists outer v → (i : ℕ) × (i < length walk) × (tail_at i ≡ v)
  of_face v h =
      let d = drawn.known.has_id v h.0 h.1 in
      let is = dart_of-is map d.0 (v, h.0) d.1 in
      let live' = live_from (dart_at map d.0) (v, h.0) d.1 in
      let c = in_walk_of map drawn.known walks faces base d.0 live live' f l on (subst (λ x. SameFace map.lists outer x) (sym is) h.2) in
      (c.0, c.1, ap (λ z. (dart_of map z).0) (get_or_default walk c.0 0 d.0 c.1 ∙ c.2) ∙ ap (λ (x : Dart). x.0) is)

  -- so the points are the places of the face's vertices
  to_point : (v : ℕ) → IsOnFace map.lists outer v → Contains places (place points v)
  to_point v h =
      let at = of_face v h in
      let m = at.1 in
      let in_places : at.0 < length places = omega arith in
      (at.0, in_places, get_or_default places at.0 (place points v) (record { x = pos 0; y = pos 0 }) in_places ∙ (are.each at.0 m ∙ ap (place points) at.2))

  from_point : (p : Point) → Contains places p → (v : ℕ) × IsOnFace map.lists outer v × (place points v ≡ p)
  from_point p c =
      let m : c.0 < length walk = omega arith in
      (tail_at c.0, on_face c.0 m, sym (are.each c.0 m) ∙ (get_or_default places c.0 (record { x = pos 0; y = pos 0 }) p c.1 ∙ c.2))

  pub places_in_range : All IsInRange places
  places_in_range i d k =
      let m : i < length walk = omega arith in
      subst IsInRange (sym (get_or_default places i d (record { x = pos 0; y = pos 0 }) k ∙ are.each i m)) (drawn.places.in_range (tail_at i) (omega (arith, tail_has i m)))

  -- and the corners of the points are those of the face
  pub outer_of_places : HasCorners places → HasOuterCorners map.lists points outer
  outer_of_places found =
      let h = found.3 in
      let a = from_point found.0 h.first in
      let b = from_point found.1 h.second in
      let c = from_point found.2 h.third in (
        a.0,
        b.0,
        c.0,
        record {
          first = a.1;
          second = b.1;
          third = c.1;
          apart = λ e. h.apart (ap (λ z. area z found.1 found.2) (sym a.2) ∙ (ap (λ z. area (place points a.0) z found.2) (sym b.2) ∙ (ap (λ z. area (place points a.0) (place points b.0) z) (sym c.2) ∙ e)));
          all = λ v on_v.
              subst (λ z. IsOnTriangle (place points v) z (place points b.0) (place points c.0)) (sym a.2)
              (subst (λ z. IsOnTriangle (place points v) found.0 z (place points c.0)) (sym b.2) (subst (λ z. IsOnTriangle (place points v) found.0 found.1 z) (sym c.2) (h.all (place points v) (to_point v on_v))));
        },
      )

  pub places_of_outer : HasOuterCorners map.lists points outer → HasCorners places
  places_of_outer found =
      let h = found.3 in (
        place points found.0,
        place points found.1,
        place points found.2,
        record {
          first = to_point found.0 h.first;
          second = to_point found.1 h.second;
          third = to_point found.2 h.third;
          apart = h.apart;
          all = λ p c.
              let v = from_point p c in
              subst (λ z. IsOnTriangle z (place points found.0) (place points found.1) (place points found.2)) v.2 (h.all v.0 v.1);
        },
      )
