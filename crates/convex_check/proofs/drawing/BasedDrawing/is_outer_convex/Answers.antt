use Rattle.std.proofs.Common.{ℕ, List, sym, subst}
use Rattle.euler_faces.specs.FaceWalks.{walk_at}
use Rattle.pg_plane.specs.declared.grid_points.Point.{Point}
use Rattle.convex_check.specs.Walks.{AreWalkPlaces}
use Rattle.convex_check.proofs.OuterLemmas.{live_in, places_in_range, outer_of_places, places_of_outer}
use Rattle.convex_check.proofs.drawing.BasedDrawing.is_outer_convex.Goals as goal

pub walk_points-requires : goal.walk_points-requires
walk_points-requires c = λ k d l. live_in c.args.self.now.map.now c.args.faces.now c.requires.faces c.of_dart.result.0 _ c.of_dart.ensures.face (c.walk-walk.ensures.stands k d l)

pub has_corners-requires : goal.has_corners-requires
has_corners-requires c =
    let map = c.args.self.now.map.now in
    let points = c.args.self.now.points.now in
    let here = subst (λ (ids : List ℕ). AreWalkPlaces map points ids c.in_ok-places.places.items) c.walk-walk.ensures.walk c.in_ok-places.ensures in
    let are = subst (λ (places : List Point). AreWalkPlaces map points (walk_at c.args.faces.now c.of_dart.result.0) places) (sym c.deref.ensures.value) here in
    places_in_range c.args.self.now.map.now c.args.self.now.points.now (record { known = c.args.self.now.map.now.known; places = c.args.self.now.places }) c.args.faces.now c.requires.faces c.args.self.now.base.0 c.of_dart.result.0 c.args.self.now.based c.of_dart.ensures.face c.of_dart.ensures.stands c.deref.result.now are

pub returns : goal.returns
returns c =
    let map = c.args.self.now.map.now in
    let points = c.args.self.now.points.now in
    let here = subst (λ (ids : List ℕ). AreWalkPlaces map points ids c.in_ok-places.places.items) c.walk-walk.ensures.walk c.in_ok-places.ensures in
    let are = subst (λ (places : List Point). AreWalkPlaces map points (walk_at c.args.faces.now c.of_dart.result.0) places) (sym c.deref.ensures.value) here in (
      λ t. outer_of_places c.args.self.now.map.now c.args.self.now.points.now (record { known = c.args.self.now.map.now.known; places = c.args.self.now.places }) c.args.faces.now c.requires.faces c.args.self.now.base.0 c.of_dart.result.0 c.args.self.now.based c.of_dart.ensures.face c.of_dart.ensures.stands c.deref.result.now are (c.has_corners.ensures.0 t),
      λ found. c.has_corners.ensures.1 (places_of_outer c.args.self.now.map.now c.args.self.now.points.now (record { known = c.args.self.now.map.now.known; places = c.args.self.now.places }) c.args.faces.now c.requires.faces c.args.self.now.base.0 c.of_dart.result.0 c.args.self.now.based c.of_dart.ensures.face c.of_dart.ensures.stands c.deref.result.now are found),
    )
