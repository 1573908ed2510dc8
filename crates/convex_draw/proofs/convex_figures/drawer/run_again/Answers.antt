use Rattle.std.proofs.Common.{◌≡◌, ◌+◌, ◌-◌, ◌<◌, ◌≤◌, ℕ, length, sym, ap, ◌∙◌, subst, arith}
use Rattle.map_lists.specs.Lists.{Lists}
use Rattle.map_theory.specs.Maps.{face_count}
use Rattle.convex_laws.specs.Removed.{AreRowsOfRun}
use Rattle.convex_laws.specs.declared.convex_rows.rows.ConvexRows.{ConvexRows}
use Rattle.convex_orders.specs.declared.face_numbers.FaceNumbers.{FaceNumbers}
use Rattle.convex_orders.specs.declared.map_tables.Tables.{Tables}
use Rattle.convex_draw.specs.Grids.{IsConvexGrid}
use Rattle.convex_draw.proofs.ByLists.{run, two_faces, one_less, small_side, listed_run, drawn_grid, base_dart, rows_by}
use Rattle.convex_draw.proofs.FirstDart.{IsConvexFigure-of}
use Rattle.convex_draw.proofs.convex_figures.drawer.run_again.Goals as goal

-- what the tables and the rows of a run tell of the lists that have these numbers of faces
module _ (lists : Lists) (few : length lists < 4096) (t : ℕ) (tables : Tables) (rows : ConvexRows) (same : tables.lists ≡ lists) (tail : tables.tail ≡ 0) (head : tables.head ≡ t) (by : AreRowsOfRun tables.lists tables.tail tables.head rows) (faces : FaceNumbers) (kept : tables.faces ≡ faces) (count : faces.count ≡ face_count lists) where
  are : AreRowsOfRun lists 0 t rows
  are = rows_by lists t tables rows same tail head by

  all : tables.faces.count ≡ face_count lists
  all = ap (λ (f : FaceNumbers). f.count) kept ∙ count

  some : 2 ≤ tables.faces.count
  some = omega (arith, two_faces lists few 0 t rows are, all)

  one : (tables.faces.count - 1) + 1 ≡ face_count lists
  one = one_less lists few 0 t rows are tables.faces.count all

  small : tables.faces.count - 1 < 1048576
  small = small_side lists few 0 t rows are (tables.faces.count - 1) one

pub tables_of-requires-clause-base : goal.tables_of-requires-clause-base
tables_of-requires-clause-base c = base_dart c.args.lists.now c.args.t c.requires.three c.requires.first

pub overflow_sub-side : goal.overflow_sub-side
overflow_sub-side c =
    let e = c.in_ok-tables.ensures in
    omega (arith, some c.args.lists.now c.facts.ensures c.args.t c.in_ok-tables.tables c.in_ok-rows.rows.rows e.lists e.tail e.head c.in_ok-rows.ensures _ e.faces c.requires.count)

pub invariant_of-made : goal.invariant_of-made
invariant_of-made c =
    let e = c.in_ok-tables.ensures in
    record { few = small c.args.lists.now c.facts.ensures c.args.t c.in_ok-tables.tables c.in_ok-rows.rows.rows e.lists e.tail e.head c.in_ok-rows.ensures _ e.faces c.requires.count }

pub count_points_again-requires : goal.count_points_again-requires
count_points_again-requires c =
    let lists = c.args.lists.now in
    let e = c.in_ok-tables.ensures in
    let tables = c.in_ok-tables.tables in
    let rows = c.in_ok-rows.rows.rows in
    let by = are lists c.facts.ensures c.args.t tables rows e.lists e.tail e.head c.in_ok-rows.ensures _ e.faces c.requires.count in
    let side = one lists c.facts.ensures c.args.t tables rows e.lists e.tail e.head c.in_ok-rows.ensures _ e.faces c.requires.count in
    let h = run lists c.facts.ensures 0 c.args.t rows by in
    record { run = (h.steps, h.at, listed_run lists c.facts.ensures 0 c.args.t rows by (tables.faces.count - 1) c.count_of.result side c.count_of.ensures) }

pub in_square-figure-requires : goal.in_square-figure-requires
in_square-figure-requires c =
    let e = c.in_ok-tables.ensures in
    small c.args.lists.now c.facts.ensures c.args.t c.in_ok-tables.tables c.in_ok-rows.rows.rows e.lists e.tail e.head c.in_ok-rows.ensures _ e.faces c.requires.count

pub returns : goal.returns
returns c =
    let r = c.requires in
    let lists = c.args.lists.now in
    let e = c.in_ok-tables.ensures in
    let tables = c.in_ok-tables.tables in
    let rows = c.in_ok-rows.rows.rows in
    let by = are lists c.facts.ensures c.args.t tables rows e.lists e.tail e.head c.in_ok-rows.ensures _ e.faces r.count in
    let less = one lists c.facts.ensures c.args.t tables rows e.lists e.tail e.head c.in_ok-rows.ensures _ e.faces r.count in
    let side : ℕ = tables.faces.count - 1 in
    let h = run lists c.facts.ensures 0 c.args.t rows by in
    let listed = listed_run lists c.facts.ensures 0 c.args.t rows by side c.count_of.result less c.count_of.ensures in
    let figure = c.in_square-figure.result in
    let is = c.in_square-figure.ensures in
    IsConvexFigure-of lists figure (subst (λ d. IsConvexGrid lists 0 d figure) (sym r.first)
    (drawn_grid lists c.facts.ensures 0 c.args.t rows by r.plane r.three side c.count_of.result less c.count_of.ensures c.in_ok-points.points figure is.points is.width is.height (c.in_ok-points.ensures h.steps h.at listed)))
