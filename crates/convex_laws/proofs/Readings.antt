-- A wood that is read off a drawing by regions is that of the drawing.
use Rattle.std.proofs.Common.{◌≡◌, ℕ, ◌-◌, List, [], ◌∷◌, sym, ◌∙◌, subst}
use Rattle.map_lists.specs.Lists.{Lists}
use Rattle.map_theory.specs.Maps.{Dart, face_count}
use Rattle.pg_plane.specs.declared.grid_points.Point.{Point}
use Rattle.plane_drawings.specs.Drawing.{place}
use Rattle.convex_counts.specs.declared.face_woods.axis.Axis.{Axis}
use Rattle.convex_counts.specs.declared.face_woods.axis.Axis.TheVariants.{One, Two, Three}
use Rattle.convex_counts.specs.Axes.{next, previous}
use Rattle.convex_peeling.specs.Polyhedral.{IsThreeConnected}
use Rattle.convex_peeling.proofs.Faces.{before_once}
use Rattle.convex_laws.specs.ConvexWoods.{IsOut, IsConvexWood}
use Rattle.convex_laws.specs.Regions.{IsAxisWay, IsOuterWay, IsFaceRegion}
use Rattle.convex_laws.specs.RegionDrawings.{IsCoordinate, IsRegionDrawing}
use Rattle.convex_laws.specs.Signs.{IsRisingBy}
use Rattle.convex_laws.specs.FaceRegionsLaws.{RisingWoodsDraw}
use Rattle.convex_laws.proofs.OneRegion.{regions_are_one}

module _ (lists : Lists) (base : Dart) (root : Axis → ℕ) (out : Axis → ℕ → ℕ) (root' : Axis → ℕ) (out' : Axis → ℕ → ℕ) (points : List Point) (three : IsThreeConnected lists) (drawn : IsRegionDrawing lists base root out points) (wood : IsConvexWood lists base root' out') (rises : (c : Axis) (v u : ℕ) → IsOut lists root' out' c v u → IsRisingBy c (place points v) (place points u)) where
  same_root : (c : Axis) → root' c ≡ root c
  same_root One = wood.roots.one ∙ sym drawn.wood.roots.one
  same_root Two = wood.roots.two ∙ sym drawn.wood.roots.two
  same_root Three = before_once lists three.simple (root' Three) base.0 (root Three) wood.roots.before drawn.wood.roots.before (wood.roots.step ∙ sym drawn.wood.roots.step)

  same_out : (c : Axis) (v u : ℕ) → IsOut lists root' out' c v u → IsOut lists root out c v u
  same_out c v u o = drawn.rising c v u (wood.edges c v u o) (rises c v u o)

  same_way : (c : Axis) (v w : ℕ) (ds : List Dart) → IsAxisWay lists root' out' c v w ds → IsAxisWay lists root out c v w ds
  same_way c v w [] e = e
  same_way c v w (d ∷ ds) h = (h.0, same_out c v d.1 h.1, same_way c d.1 w ds h.2)

  way_to_root : (c : Axis) (v : ℕ) (ds : List Dart) → IsAxisWay lists root' out' c v (root' c) ds → IsAxisWay lists root out c v (root c) ds
  way_to_root c v ds h = subst (λ w. IsAxisWay lists root out c v w ds) (same_root c) (same_way c v (root' c) ds h)

  pub same_region : (c : Axis) (v k : ℕ) → IsFaceRegion lists base root' out' c v k → IsFaceRegion lists base root out c v k
  same_region c v k f =
      let w = f.closed in
      record {
        walk = f.walk;
        closed = record {
          ahead = w.ahead;
          outer = w.outer;
          back = w.back;
          along_next = way_to_root (next c) v w.ahead w.along_next;
          along_outer = subst (λ a. IsOuterWay lists base a (root (previous c)) (root (next c)) w.outer) (same_root c)
              (subst (λ a. IsOuterWay lists base (root' c) a (root (next c)) w.outer) (same_root (previous c)) (subst (λ a. IsOuterWay lists base (root' c) (root' (previous c)) a w.outer) (same_root (next c)) w.along_outer));
          along_previous = way_to_root (previous c) v w.back w.along_previous;
          is = w.is;
        };
        count = f.count;
      }

pub rising_woods_draw : RisingWoodsDraw
rising_woods_draw lists base root out root' out' points plane three drawn wood rises c v k l f =
    let z = drawn.region c v l in
    let g = same_region lists base root out root' out' points three drawn wood rises c v k f in
    subst (IsCoordinate (face_count lists - 1) c (place points v)) (regions_are_one lists base root out c v z.0 k plane three drawn.wood z.1 g) z.2
