-- The drawing by the counts of a run is one in a grid.
use Rattle.std.proofs.Common.{◌≡◌, ℕ, zero, suc, ◌+◌, ◌*◌, ◌-◌, ◌<◌, ◌≤◌, ◌<ℤ◌, List, length, pos, refl, sym, ap, ◌∙◌, subst, inl, inr, arith}
use Rattle.std.proofs.lemmas.Int.{ints}
use Rattle.map_lists.specs.Lists.{Lists}
use Rattle.map_theory.specs.Maps.{HasDart, IsPlane, follows, face_count, component_count}
use Rattle.map_theory.specs.Paths.{SameFace}
use Rattle.map_theory.proofs.DartLemmas.{HasDart-face_step}
use Rattle.pg_plane.specs.declared.grid_points.Point.{Point}
use Rattle.pg_plane.specs.declared.figures.GridFigure.{GridFigure}
use Rattle.pg_plane.specs.Geometry.{area}
use Rattle.pg_plane.proofs.Segments.{IsOnSegment-back}
use Rattle.plane_drawings.specs.Drawing.{place, IsInGrid}
use Rattle.drawings.proofs.FacesJoined.{SameFace-turned}
use Rattle.contour_runs.specs.FaceRuns.{Step, stage_after, faces_made, IsRun}
use Rattle.contour_runs.proofs.FaceRunsPlaces.{order, cut-add}
use Rattle.contour_runs.proofs.FaceRunsStages.{IsStage-run, IsRun-less}
use Rattle.convex_counts.specs.Counts.{face_counts}
use Rattle.convex_counts.specs.Turns.{well_turned}
use Rattle.convex_peeling.proofs.Faces.{SameFace-labels, face_of-step}
use Rattle.convex_counts.proofs.Turns.{contours_as_before}
use Rattle.convex_counts.specs.declared.face_woods.axis.Axis.{Axis}
use Rattle.convex_counts.specs.declared.face_woods.axis.Axis.TheVariants.{One, Two, Three}
use Rattle.convex_laws.specs.ConvexWoods.{AreRoots}
use Rattle.convex_laws.specs.ConvexWoodsLaws.{IsNamedRun}
use Rattle.convex_laws.proofs.WoodRegions.{regions_draw, some_wood, some_wood-rises}
use Rattle.convex_laws.specs.ConvexDrawings.{AreCountPoints, IsConvexDrawing, grid_point}
use Rattle.convex_laws.proofs.ConvexDrawingsTurned.{touched_run_draws}
use Rattle.drawings.specs.Convex.{IsConvex}
use Rattle.convex_laws.specs.declared.convex_rows.rows.ConvexRows.{ConvexRows}
use Rattle.convex_draw.specs.Points.{IsListedRun, ArePointsOf}
use Rattle.convex_laws.proofs.ConvexWoodsTurned.{faces_made-well_turned}
use Rattle.convex_draw.proofs.ByRows.{IsRunByRows}
use Rattle.convex_draw.specs.Grids.{IsConvexGrid}
use Rattle.convex_laws.proofs.OuterFace.{outer-SameFace, SameFace-outer, before_base}

-- a run makes no more faces than twice its vertices
pub faces_made-few : (steps : ℕ → Step) (n : ℕ) → IsRun steps n → faces_made steps n + (stage_after steps n).width ≤ 2 * (stage_after steps n).count
faces_made-few steps zero run = omega arith
faces_made-few steps (suc n) run =
    let less = faces_made-few steps n (IsRun-less steps n (suc n) (omega arith) run) in
    let g = stage_after steps n in
    let s = steps n in
    let step = run n (omega arith) in
    let o = order g s step in
    let w = step.within in
    let a = cut-add g s step 0 s.faces (omega arith) in
    let b = step.begin in
    let e = step.end in
    let z : 0 + s.faces ≡ s.faces = omega arith in
    let v = step.some_vertex in
    let k : s.first + s.faces ≤ s.last = omega (arith, ap s.cut z) in
    elim step.single [ inl one ↦ omega arith | inr one ↦ omega arith ]

-- the roots of the axes
roots_at : ℕ → ℕ → ℕ → Axis → ℕ
roots_at s d e One = d
roots_at s d e Two = s
roots_at s d e Three = e

module _ (lists : Lists) (s d : ℕ) (rows : ConvexRows) (h : IsRunByRows lists s d rows) where
  abbrev n : ℕ
  n = length rows.rows

  abbrev steps : ℕ → Step
  steps = h.steps

  some_faces : (m : ℕ) → 0 < m → IsRun steps m → 0 < faces_made steps m
  some_faces zero l run = absurd (omega arith)
  some_faces (suc m) l run = let step = run m (omega arith) in let f = step.some_face in omega arith

  pub faces_two : 2 ≤ face_count lists
  faces_two = let f = h.run.faces in let l = some_faces n h.run.touched.some h.run.touched.run in omega arith

  pub side_small : (side : ℕ) → side + 1 ≡ face_count lists → length lists < 4096 → side < 1048576
  side_small side e few =
      let f = h.run.faces in
      let c = h.ranked.all in
      let w = (IsStage-run steps n h.run.touched.run).wide in
      let l = faces_made-few steps n h.run.touched.run in
      omega arith

  pub IsListedRun-rows : (side : ℕ) → side + 1 ≡ face_count lists → IsListedRun steps h.at rows d s (length lists) side
  IsListedRun-rows side e =
      let base = h.run.map.dart in
      let first = h.run.map.first in
      let second = h.run.map.second in
      let f = h.run.faces in
      record {
        touched = h.run.touched;
        rows_are = h.rows_are;
        ranked = h.ranked;
        first = ap h.at (sym first) ∙ h.back d (h.run.map.simple.in_range s d base);
        second = ap h.at (sym second) ∙ h.back s base.0;
        made = omega arith;
      }

  module _ (side : ℕ) (e : side + 1 ≡ face_count lists) (figure : GridFigure) (width : figure.width ≡ pos side) (height : figure.height ≡ pos side) (are : ArePointsOf (face_counts (well_turned steps) n) h.at (length lists) figure.points) where
    abbrev points : List Point
    points = figure.points

    points_are : AreCountPoints lists (well_turned steps) n h.rank points
    points_are v l =
        let c = h.ranked.all in
        let r = h.run.map.placed v l in
        ap (place points) (sym (h.back v l)) ∙ are.placed (h.rank v) (omega arith)

    drawing : IsConvexDrawing lists (s, d) (well_turned steps) n h.rank h.face points
    drawing = touched_run_draws lists (s, d) steps n h.rank h.face points h.run.touched h.run.map points_are

    made : faces_made (well_turned steps) n ≡ side
    made = let f = h.run.faces in let w = faces_made-well_turned steps n in omega arith

    outer : faces_made (well_turned steps) n ≡ faces_made steps n
    outer = faces_made-well_turned steps n

    abbrev last : ℕ
    last = (before_base lists s d steps n h.rank h.face h.run.touched.run h.run.map).0

    last_dart : HasDart lists last s
    last_dart = (before_base lists s d steps n h.rank h.face h.run.touched.run h.run.map).1.dart

    last_same : SameFace lists (s, d) (last, s)
    last_same = (before_base lists s d steps n h.rank h.face h.run.touched.run h.run.map).1.same

    -- such a vertex has the last rank
    rank_last : (e : ℕ) → HasDart lists e s → SameFace lists (e, s) (s, d) → suc (h.rank e) ≡ (stage_after (well_turned steps) n).count
    rank_last e has same = h.run.last e has same ∙ sym (contours_as_before steps n).1

    convex : IsConvex lists points (s, d)
    convex =
        let top = rank_last last last_dart (SameFace-turned lists (s, d) (last, s) last_same) in
        let base = h.run.map.dart in
        let next = HasDart-face_step lists (s, d) h.run.map.simple base in
        record {
          inner = λ a b has other. drawing.inner a b has (λ on. other (outer-SameFace lists s d steps n h.rank h.face h.run.touched.run h.run.map a b has (on ∙ outer)));
          outer = (
            d,
            s,
            last,
            record {
              first = (follows lists d s, next, SameFace-labels lists s d d (follows lists d s) (sym (face_of-step lists h.run.map.simple s d base)));
              second = (d, base, SameFace-labels lists s d s d refl);
              third = (s, last_dart, last_same);
              apart = λ flat. let c = drawing.corners last last_dart.0 top in positive flat c;
              all = λ v on.
                  let side = drawing.sides v on.0 last on.1 (SameFace-outer lists s d steps n h.rank h.face h.run.touched.run h.run.map v on.0 on.1 on.2 ∙ sym outer) last_dart.0 top in
                  elim side [ inl a ↦ inr (inr (IsOnSegment-back (place points v) (place points d) (place points last) a)) | inr a ↦ inr (inl (IsOnSegment-back (place points v) (place points last) (place points s) a)) ];
            },
          );
        }
      where
        positive : area (place points d) (place points s) (place points last) ≡ pos 0 → pos 0 <ℤ area (place points d) (place points s) (place points last) → ⊥
        positive flat more = omega (arith, ints)

    less_one : side ≡ face_count lists - 1
    less_one = omega arith

    named : IsNamedRun lists s d steps n h.rank h.face h.at
    named = record { run = h.run; ranked = h.ranked; named = h.back }

    roots : AreRoots lists (s, d) (roots_at s d last)
    unfolding roots_at
    roots = record { one = refl; two = refl; before = last_dart; step = (before_base lists s d steps n h.rank h.face h.run.touched.run h.run.map).1.step }

    pub IsConvexGrid-drawn : IsPlane lists → component_count lists ≡ 1 → IsConvexGrid lists s d figure
    IsConvexGrid-drawn plane connected = record {
      count = are.count;
      width = width ∙ ap pos less_one;
      height = height ∙ ap pos less_one;
      valid = record {
        in_grid = λ v l. subst (λ w. IsInGrid w figure.height (place points v)) (sym width) (subst (λ h. IsInGrid (pos side) h (place points v)) (sym height) (subst (λ m. IsInGrid (pos m) (pos m) (place points v)) made (drawing.grid v l)));
        plane = drawing.plane;
        rotations = drawing.rotations;
      };
      convex = convex;
      first = drawing.second ∙ ap (λ m. grid_point 0 m) (made ∙ less_one);
      second = drawing.first ∙ ap (λ m. grid_point m 0) (made ∙ less_one);
      third = λ e has same. drawing.last e has.0 (rank_last e has same);
      root = roots_at s d last;
      out = some_wood lists s d steps n h.rank h.face h.at (roots_at s d last) named roots;
      regions = regions_draw lists s d steps n h.rank h.face h.at (roots_at s d last) (some_wood lists s d steps n h.rank h.face h.at (roots_at s d last) named roots) points plane connected named roots
          (some_wood-rises lists s d steps n h.rank h.face h.at (roots_at s d last) named roots) points_are;
    }
