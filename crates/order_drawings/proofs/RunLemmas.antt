-- Points of a run by which its faces are counterclockwise are a drawing.
use Rattle.std.proofs.Common.{◌≡◌, ℕ, suc, ◌+◌, ◌-◌, ◌<◌, ◌≤◌, true, List, [], ◌∷◌, map, length, get_or, All, pos, ◌<ℤ◌, refl, sym, ap, ap₂, ◌∙◌, subst, inl, inr, arith}
use Rattle.std.specs.List.{range_with_len}
use Rattle.std.proofs.lemmas.List.{get_or_default}
use Rattle.std.proofs.lemmas.List.FromFn.{length-map-range_with_len, get_or-map-range_with_len}
use Rattle.pg_plane.specs.declared.grid_points.Point.{Point}
use Rattle.pg_plane.specs.Geometry.{area}
use Rattle.pg_plane.proofs.Identities.{area_turned}
use Rattle.map_lists.specs.Lists.{Lists}
use Rattle.map_theory.specs.Maps.{Dart, HasDart, follows, place_of, entry_after}
use Rattle.map_theory.specs.Paths.{SameFace}
use Rattle.map_theory.proofs.DartLemmas.{place_of-get_or}
use Rattle.plane_laws.specs.Triangulations.{IsTriangulation}
use Rattle.plane_peeling.specs.Restricted.{IsFaceOfThree, IsDartOfThree}
use Rattle.plane_peeling.specs.NearTriangulations.{IsOuterCycle, IsOuterDart}
use Rattle.plane_peeling.specs.Laws.{NothingTakenOff, OuterCycleIsFace}
use Rattle.plane_peeling.proofs.Rings.{entry_after-inside, entry_after-last}
use Rattle.plane_peeling.proofs.RestrictedMaps.{restricted_all}
use Rattle.plane_drawings.specs.Drawing.{place, IsCounterclockwise}
use Rattle.plane_drawings.specs.DrawingsLaw.{CounterclockwiseIsPlane}
use Rattle.canon_order.specs.Orders.{IsCanonicalOrder}
use Rattle.canon_order.proofs.Counters.{all_of_them}
use Rattle.contour_runs.specs.Runs.{Step, stage_after, IsRun, IsFaceOf}
use Rattle.contour_runs.proofs.Stages.{IsStage-run, IsRun-less, count-stage_after}
use Rattle.order_drawings.specs.OrderRuns.{IsMadeByStep, IsOrderRun}
use Rattle.order_drawings.specs.RunDrawings.{ArePlacedBy, IsCounterclockwiseRun, IsRunDrawing}

-- the vertices of a face that a run makes are placed
ends : (steps : ℕ → Step) (n : ℕ) → IsRun steps n → (k i a b v : ℕ) → k < n → IsFaceOf steps k i a b v → (a < n + 2) × (b < n + 2) × (v < n + 2)
ends steps n run k i a b v l f =
    let stage = IsStage-run steps k (IsRun-less steps k n (omega arith) run) in
    let w = (run k l).within in
    let c = count-stage_after steps k in
    (omega arith, omega arith, omega arith)

-- the darts of the face of the base
module _ (lists : Lists) (base : Dart) (triangulation : IsTriangulation lists) (dart : HasDart lists base.0 base.1) (peeled : NothingTakenOff) (face : OuterCycleIsFace) where
  abbrev third : ℕ
  third = follows lists base.1 base.0

  abbrev round : List ℕ
  round = base.1 ∷ third ∷ base.0 ∷ []

  whole : IsOuterCycle lists base.1 base.0 round
  whole =
      subst (λ map. IsOuterCycle map base.1 base.0 round) (restricted_all lists (λ v. true) triangulation.simple (λ v l. refl))
      (peeled lists (λ v. true) base.1 base.0 triangulation dart (λ v l. refl)).near.cycle

  on_base : (x y : ℕ) → HasDart lists x y → IsDartOfThree base.0 base.1 third x y → SameFace lists base (x, y)
  on_base x y d three = (face lists base.1 base.0 round triangulation.simple whole x y d).1 (outer three)
    where
      outer : IsDartOfThree base.0 base.1 third x y → IsOuterDart round x y
      outer (inl e) = ((2, omega arith, sym e.0), ap (λ z. entry_after z round) e.0 ∙ entry_after-last (base.1 ∷ third ∷ []) base.0 whole.distinct ∙ sym e.1)
      outer (inr (inl e)) = ((0, omega arith, sym e.0), ap (λ z. entry_after z round) e.0 ∙ entry_after-inside [] base.1 third (base.0 ∷ []) whole.distinct ∙ sym e.1)
      outer (inr (inr e)) = ((1, omega arith, sym e.0), ap (λ z. entry_after z round) e.0 ∙ entry_after-inside (base.1 ∷ []) third base.0 [] whole.distinct ∙ sym e.1)

  module _ (at : List ℕ) (steps : ℕ → Step) (point : ℕ → Point) (points : List Point) (order : IsCanonicalOrder lists base at) (run : IsOrderRun lists base at order.cycle steps) (good : IsCounterclockwiseRun steps (length at) point) (placed : ArePlacedBy at point points) where
    abbrev name : ℕ → ℕ
    name k = get_or at k 0

    some_at : 3 ≤ length at
    some_at = let c = order.count in let s = triangulation.some in omega arith

    -- the corners of a face by a dart of it
    corner : (a b c x y : ℕ) → x ≡ a → y ≡ b → follows lists b a ≡ c → pos 0 <ℤ area (place points a) (place points b) (place points c) → pos 0 <ℤ area (place points x) (place points y) (place points (follows lists y x))
    corner a b c x y ex ey f p =
        subst (λ z. pos 0 <ℤ area (place points x) (place points y) (place points z)) (sym f ∙ ap₂ (λ u w. follows lists u w) (sym ey) (sym ex))
        (subst (λ z. pos 0 <ℤ area (place points x) (place points z) (place points c)) (sym ey) (subst (λ z. pos 0 <ℤ area (place points z) (place points b) (place points c)) (sym ex) p))

    by_dart : (a b v x y : ℕ) → IsFaceOfThree lists a b v → pos 0 <ℤ area (place points a) (place points b) (place points v) → IsDartOfThree a b v x y → pos 0 <ℤ area (place points x) (place points y) (place points (follows lists y x))
    by_dart a b v x y f p (inl e) = corner a b v x y e.0 e.1 f.second p
    by_dart a b v x y f p (inr (inl e)) = corner b v a x y e.0 e.1 f.third (subst (λ z. pos 0 <ℤ z) (sym (area_turned (place points a) (place points b) (place points v))) p)
    by_dart a b v x y f p (inr (inr e)) = corner v a b x y e.0 e.1 f.round (subst (λ z. pos 0 <ℤ z) (area_turned (place points v) (place points a) (place points b)) p)

    -- the three of the base
    place_first : place points base.1 ≡ point 0
    place_first = let some = some_at in ap (place points) (sym order.built.first) ∙ placed 0 (omega arith)

    place_second : place points base.0 ≡ point 1
    place_second = let some = some_at in ap (place points) (sym order.built.second) ∙ placed 1 (omega arith)

    place_third : place points third ≡ point (length at - 1)
    place_third =
        let e : length lists - 1 ≡ length at - 1 = omega arith in
        ap (place points) (sym order.last ∙ ap name e) ∙ placed (length at - 1) (omega arith)

    -- a face that was made, at its points
    made_area : (k i a b v : ℕ) → k + 2 < length at → IsFaceOf steps k i a b v → pos 0 <ℤ area (place points (name a)) (place points (name b)) (place points (name v))
    made_area k i a b v l f =
        let low = ends steps (length at - 2) run.run k i a b v (omega arith) f in
        let p = good.made k i a b v l f in
        subst (λ z. pos 0 <ℤ area (place points (name a)) (place points (name b)) z) (sym (placed v (omega (arith, low.2))))
        (subst (λ z. pos 0 <ℤ area (place points (name a)) z (point v)) (sym (placed b (omega (arith, low.1)))) (subst (λ z. pos 0 <ℤ area z (point b) (point v)) (sym (placed a (omega (arith, low.0)))) p))

    -- so is each dart of it
    made_dart : (x y : ℕ) → IsMadeByStep at steps x y → pos 0 <ℤ area (place points x) (place points y) (place points (follows lists y x))
    made_dart x y m =
        let f = run.faces m.step m.place m.a m.b m.v m.earlier m.face in
        by_dart (name m.a) (name m.b) (name m.v) x y f (made_area m.step m.place m.a m.b m.v m.earlier m.face) m.dart

    inner : (x y : ℕ) → HasDart lists x y → ¬ SameFace lists base (x, y) → pos 0 <ℤ area (place points x) (place points y) (place points (follows lists y x))
    inner x y d other = made_dart x y (run.made x y d (λ three. other (on_base x y d three)))

    base_outside : area (place points base.0) (place points base.1) (place points third) <ℤ pos 0
    base_outside =
        subst (λ z. area (place points base.0) (place points base.1) z <ℤ pos 0) (sym place_third)
        (subst (λ z. area (place points base.0) z (point (length at - 1)) <ℤ pos 0) (sym place_first) (subst (λ z. area z (point 0) (point (length at - 1)) <ℤ pos 0) (sym place_second) good.outside))

    pub drawing : CounterclockwiseIsPlane → IsRunDrawing lists base point points
    drawing law =
        let ccw : IsCounterclockwise lists points base = record { inner = inner; outer = base_outside } in
        let plane = law lists points base triangulation dart ccw in
        record {
          counterclockwise = ccw;
          plane = plane.0;
          rotations = plane.1;
          each = λ v l.
              let all = all_of_them at v (subst (λ m. All (λ u. u < m) at) (sym order.count) order.vertices) order.built.once (omega arith) in
              let same : name all.0 ≡ v = get_or_default at all.0 0 v all.1 ∙ all.2 in
              (all.0, omega arith, ap (place points) (sym same) ∙ placed all.0 all.1);
          first = place_first;
          second = place_second;
          top = place_third ∙ ap (λ m. point (m - 1)) order.count;
        }

-- points for the places of an order
pub points_of_order : (lists : Lists) (base : Dart) (at : List ℕ) (point : ℕ → Point) → IsCanonicalOrder lists base at → (points : List Point) × (length points ≡ length lists) × ArePlacedBy at point points
points_of_order lists base at point order =
    let drawn = map (λ v. point (place_of v at)) (range_with_len 0 (length lists)) in (
      drawn,
      length-map-range_with_len (λ v. point (place_of v at)) 0 (length lists),
      λ k l.
          get_or-map-range_with_len (λ v. point (place_of v at)) 0 (length lists) (get_or at k 0) (get_or at k 0) (record { x = pos 0; y = pos 0 }) (order.vertices k 0 l) (omega arith)
          ∙ ap point (place_of-get_or at k 0 order.built.once l),
    )
