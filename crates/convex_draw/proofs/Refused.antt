-- Figures that wrong bodies of the drawing would give: the clause refuses them.
use Rattle.std.proofs.Common.{◌≡◌, ◌≢◌, ◌∙◌, ℕ, ◌+◌, ◌*◌, ◌-◌, ◌<◌, ◌≤◌, List, [], ◌∷◌, length, sym, ap, pos, ℤ, arith}
use Rattle.std.proofs.lemmas.Int.{ints}
use Rattle.map_lists.specs.Lists.{Lists}
use Rattle.map_theory.specs.Maps.{Dart, HasDart, IsPlane, face_count}
use Rattle.map_theory.proofs.DartLemmas.{HasDart-at}
use Rattle.pg_plane.specs.declared.grid_points.Point.{Point}
use Rattle.pg_plane.specs.declared.figures.GridFigure.{GridFigure}
use Rattle.plane_drawings.specs.Drawing.{place}
use Rattle.convex_peeling.specs.Polyhedral.{IsThreeConnected}
use Rattle.convex_counts.specs.declared.face_woods.axis.Axis.{Axis}
use Rattle.convex_counts.specs.declared.face_woods.axis.Axis.TheVariants.{One, Two}
use Rattle.convex_laws.specs.ConvexDrawings.{grid_point}
use Rattle.convex_laws.specs.RegionDrawings.{IsRegionDrawing}
use Rattle.convex_laws.specs.Signs.{IsRisingBy}
use Rattle.convex_laws.proofs.OneRegion.{regions_are_one}
use Rattle.convex_draw.specs.Grids.{IsConvexGrid}
use Rattle.convex_draw.specs.Figures.{IsConvexFigure}

-- the base is turned round: its tail stands at the lower right corner
base_turned_round : (lists : Lists) (s d : ℕ) (figure : GridFigure) → 2 ≤ face_count lists → place figure.points s ≡ grid_point (face_count lists - 1) 0 → ¬ IsConvexGrid lists s d figure
base_turned_round lists s d figure more e w =
    let h : pos (face_count lists - 1) ≡ pos 0 = ap (λ (p : Point). p.x) (sym e ∙ w.first) in
    omega (arith, ints)

-- it is the drawing by counts of vertices, in a grid of n - 2 in both directions, of a map whose faces are triangles
counts_of_vertices : (lists : Lists) (s d : ℕ) (figure : GridFigure) → 4 ≤ length lists → face_count lists + 4 ≡ 2 * length lists → figure.width ≡ pos (length lists - 2) → ¬ IsConvexGrid lists s d figure
counts_of_vertices lists s d figure some all e w =
    let h : pos (length lists - 2) ≡ pos (face_count lists - 1) = sym e ∙ w.width in
    omega (arith, ints)

module _ (lists : Lists) (base : Dart) (root : Axis → ℕ) (out : Axis → ℕ → ℕ) (plane : IsPlane lists) (three : IsThreeConnected lists) (points other : List Point) (drawn : IsRegionDrawing lists base root out points) (v : ℕ) (l : v < length lists) where
  -- the regions of a wood have one drawing
  same_x : IsRegionDrawing lists base root out other → (place other v).x ≡ (place points v).x
  same_x h =
      let a = drawn.region One v l in
      let b = h.region One v l in
      b.2 ∙ (ap (λ k. pos k) (regions_are_one lists base root out One v b.0 a.0 plane three drawn.wood b.1 a.1) ∙ sym a.2)

  same_y : IsRegionDrawing lists base root out other → (place other v).y ≡ (place points v).y
  same_y h =
      let a = drawn.region Two v l in
      let b = h.region Two v l in
      b.2 ∙ (ap (λ k. pos k) (regions_are_one lists base root out Two v b.0 a.0 plane three drawn.wood b.1 a.1) ∙ sym a.2)

  -- the two counts of one vertex are exchanged
  counts_exchanged : (i j : ℕ) → i ≢ j → place points v ≡ grid_point i j → place other v ≡ grid_point j i → ¬ IsRegionDrawing lists base root out other
  counts_exchanged i j ne e f h =
      let x : pos j ≡ pos i = sym (ap (λ (p : Point). p.x) f) ∙ (same_x h ∙ ap (λ (p : Point). p.x) e) in
      ne (omega (arith, ints))

  -- one vertex stands elsewhere, as in a drawing by another method
  stands_elsewhere : (i j k m : ℕ) → i ≢ k → place points v ≡ grid_point i j → place other v ≡ grid_point k m → ¬ IsRegionDrawing lists base root out other
  stands_elsewhere i j k m ne e f h =
      let x : pos k ≡ pos i = sym (ap (λ (p : Point). p.x) f) ∙ (same_x h ∙ ap (λ (p : Point). p.x) e) in
      ne (omega (arith, ints))

-- two darts from one vertex lead along one axis, along which a convex wood has one
two_along_one_axis :
    (lists : Lists) (figure : GridFigure) (c : Axis) (v u w : ℕ) → u ≢ w → HasDart lists v u → HasDart lists v w → IsRisingBy c (place figure.points v) (place figure.points u) → IsRisingBy c (place figure.points v) (place figure.points w)
    → ¬ IsConvexFigure lists figure
two_along_one_axis lists figure c v u w ne a b p q f = ne (sym (f.regions.rising c v u a p).is ∙ (f.regions.rising c v w b q).is)

-- the wheel of four spokes, with its rim outside
abbrev wheel : Lists
wheel = (1 ∷ 4 ∷ 3 ∷ []) ∷ (2 ∷ 4 ∷ 0 ∷ []) ∷ (3 ∷ 4 ∷ 1 ∷ []) ∷ (0 ∷ 4 ∷ 2 ∷ []) ∷ (0 ∷ 1 ∷ 2 ∷ 3 ∷ []) ∷ []

-- it is convex, plane and in the grid, with its rotations and its corners, but no convex wood has these counts
convex_by_no_wood : (width height : ℤ) → ¬ IsConvexFigure wheel (record { points = grid_point 0 4 ∷ grid_point 4 0 ∷ grid_point 2 0 ∷ grid_point 0 0 ∷ grid_point 1 1 ∷ []; width = width; height = height })
convex_by_no_wood width height =
    let figure : GridFigure = record { points = grid_point 0 4 ∷ grid_point 4 0 ∷ grid_point 2 0 ∷ grid_point 0 0 ∷ grid_point 1 1 ∷ []; width = width; height = height } in
    two_along_one_axis wheel figure One 4 1 2 (omega arith) (HasDart-at wheel 4 1 0 (omega arith) (omega arith)) (HasDart-at wheel 4 2 0 (omega arith) (omega arith)) (omega (arith, ints), omega (arith, ints), omega (arith, ints)) (omega (arith, ints), omega (arith, ints), omega (arith, ints))
