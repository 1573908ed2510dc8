use Rattle.std.proofs.Common.{Option, ◌≡◌, ◌∙◌, ◌+◌, ℕ, Some, unwrap_or, length, sym, ap, subst}
use Rattle.std.specs.Option.{option_map}
use Rattle.map_lists.specs.Lists.{Lists}
use Rattle.map_theory.specs.Maps.{Dart, face_count}
use Rattle.half_edges.specs.Map.{Map, dart_at}
use Rattle.vertex_rounds.specs.Rounds.{dart_of}
use Rattle.vertex_rounds.proofs.DartIds.{dart_of-live}
use Rattle.convex_counts.specs.Counts.{face_counts}
use Rattle.convex_counts.specs.Turns.{well_turned}
use Rattle.convex_draw.specs.Points.{IsListedRun, ArePointsOf}
use Rattle.convex_laws.specs.declared.convex_rows.rows.ConvexRows.{ConvexRows}
use Rattle.convex_draw.proofs.ByRows.{IsRunByRows, IsRunByRows-of}
use Rattle.convex_draw.proofs.GridLemmas.{faces_two, side_small, IsListedRun-rows, IsConvexGrid-drawn}
use Rattle.convex_draw.proofs.PointLemmas.{AreRunPoints-counts}
use Rattle.convex_draw.specs.RunPoints.{AreRunPoints}
use Rattle.convex_draw.proofs.map_drawing.figure_by_faces.Goals as goal

pub side_of-side-requires-clause-faces : goal.side_of-side-requires-clause-faces
side_of-side-requires-clause-faces c =
    let b = dart_of c.args.map.now c.args.base.0 in
    let live = dart_of-live c.args.map.now c.args.base.0 c.requires.base in
    faces_two c.args.map.now.lists b.0 b.1 c.in_ok-rows.rows (IsRunByRows-of c.args.map.now.lists b.0 b.1 c.in_ok-rows.rows (c.in_ok-rows.ensures b.0 b.1 live))

pub invariant_of-run : goal.invariant_of-run
invariant_of-run c =
    let b = dart_of c.args.map.now c.args.base.0 in
    let live = dart_of-live c.args.map.now c.args.base.0 c.requires.base in
    record { few = side_small c.args.map.now.lists b.0 b.1 c.in_ok-rows.rows (IsRunByRows-of c.args.map.now.lists b.0 b.1 c.in_ok-rows.rows (c.in_ok-rows.ensures b.0 b.1 live)) c.side_of-side.result c.side_of-side.ensures c.n.ensures.known.few_vertices }

pub in_square-requires : goal.in_square-requires
in_square-requires c =
    let b = dart_of c.args.map.now c.args.base.0 in
    let live = dart_of-live c.args.map.now c.args.base.0 c.requires.base in
    side_small c.args.map.now.lists b.0 b.1 c.in_ok-rows.rows (IsRunByRows-of c.args.map.now.lists b.0 b.1 c.in_ok-rows.rows (c.in_ok-rows.ensures b.0 b.1 live)) c.side_of-side.result c.side_of-side.ensures c.n.ensures.known.few_vertices

-- what the ends of a dart tell
some_is : (x y : ℕ) → Some x ≡ Some y → x ≡ y
some_is x y e = ap (λ (o : Option ℕ). unwrap_or o 0) e

head_is : (map : Map) (base s d v : ℕ) → dart_at map base ≡ Some (s, d) → option_map (λ (x : Dart). x.1) (dart_at map base) ≡ Some v → d ≡ v
head_is map base s d v e h = some_is d v (sym (ap (λ (o : Option Dart). option_map (λ (x : Dart). x.1) o) e) ∙ h)

tail_is : (map : Map) (base s d v : ℕ) → dart_at map base ≡ Some (s, d) → option_map (λ (x : Dart). x.0) (dart_at map base) ≡ Some v → s ≡ v
tail_is map base s d v e h = some_is s v (sym (ap (λ (o : Option Dart). option_map (λ (x : Dart). x.0) o) e) ∙ h)

-- the run by the vertices that the code reads
listed :
    (lists : Lists) (s d : ℕ) (rows : ConvexRows) (h : IsRunByRows lists s d rows) (side d' s' count : ℕ) → side + 1 ≡ face_count lists → d ≡ d' → s ≡ s' → length lists ≡ count → IsListedRun h.steps h.at rows d' s' count side
listed lists s d rows h side d' s' count e f k n =
    subst (λ d. IsListedRun h.steps h.at rows d s' count side) f (subst (λ s. IsListedRun h.steps h.at rows d s count side) k (subst (λ m. IsListedRun h.steps h.at rows d s m side) n (IsListedRun-rows lists s d rows h side e)))

pub count_points-requires : goal.count_points-requires
count_points-requires c =
    let map = c.args.map.now in
    let b = dart_of map c.args.base.0 in
    let live = dart_of-live map c.args.base.0 c.requires.base in
    let h = IsRunByRows-of map.lists b.0 b.1 c.in_ok-rows.rows (c.in_ok-rows.ensures b.0 b.1 live) in
    record { run = (h.steps, h.at, listed map.lists b.0 b.1 c.in_ok-rows.rows h c.side_of-side.result c.head.result.0 c.tail.result.0 c.n.result c.side_of-side.ensures (head_is map c.args.base.0 b.0 b.1 c.head.result.0 live c.head.ensures) (tail_is map c.args.base.0 b.0 b.1 c.tail.result.0 live c.tail.ensures) (sym c.n.ensures.count)) }

pub returns-clause-grid : goal.returns-clause-grid
returns-clause-grid c = λ s d e.
    let map = c.args.map.now in
    let h = IsRunByRows-of map.lists s d c.in_ok-rows.rows (c.in_ok-rows.ensures s d e) in
    let run = listed map.lists s d c.in_ok-rows.rows h c.side_of-side.result c.head.result.0 c.tail.result.0 c.n.result c.side_of-side.ensures (head_is map c.args.base.0 s d c.head.result.0 e c.head.ensures) (tail_is map c.args.base.0 s d c.tail.result.0 e c.tail.ensures) (sym c.n.ensures.count) in
    let are = c.in_ok-points.ensures h.steps h.at run in
    let steps = well_turned h.steps in
    IsConvexGrid-drawn map.lists s d c.in_ok-rows.rows h c.side_of-side.result c.side_of-side.ensures c.in_square.result c.in_square.ensures.width c.in_square.ensures.height
    (subst (λ points. ArePointsOf (face_counts steps (length c.in_ok-rows.rows.rows)) h.at (length map.lists) points) (sym c.in_square.ensures.points)
    (subst (λ m. ArePointsOf (face_counts steps (length c.in_ok-rows.rows.rows)) h.at m c.in_ok-points.points) c.n.ensures.count are)) c.requires.plane c.requires.three.connected

pub returns-clause-points : goal.returns-clause-points
returns-clause-points c = λ s d e.
    let map = c.args.map.now in
    let h = IsRunByRows-of map.lists s d c.in_ok-rows.rows (c.in_ok-rows.ensures s d e) in
    let run = listed map.lists s d c.in_ok-rows.rows h c.side_of-side.result c.head.result.0 c.tail.result.0 c.n.result c.side_of-side.ensures (head_is map c.args.base.0 s d c.head.result.0 e c.head.ensures) (tail_is map c.args.base.0 s d c.tail.result.0 e c.tail.ensures) (sym c.n.ensures.count) in
    subst (AreRunPoints map.lists s d) (sym c.in_square.ensures.points)
    (AreRunPoints-counts map.lists s d c.in_ok-rows.rows h c.side_of-side.result c.n.result c.in_ok-points.points c.side_of-side.ensures c.n.ensures.count c.n.ensures.known.few_vertices (c.in_ok-points.ensures h.steps h.at run) c.requires.plane c.requires.three.connected)
