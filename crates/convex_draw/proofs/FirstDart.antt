-- In a three-connected map vertex 0 has a neighbour, and the drawing over the dart to the first of them is the map's figure.
use Rattle.std.proofs.Common.{◌≡◌, [], length, ap, arith}
use Rattle.std.specs.Prelude.{slice_index}
use Rattle.map_lists.specs.Lists.{Lists}
use Rattle.map_theory.specs.Maps.{list_of}
use Rattle.pg_plane.specs.declared.figures.GridFigure.{GridFigure}
use Rattle.convex_peeling.specs.Polyhedral.{IsThreeConnected}
use Rattle.convex_peeling.proofs.Neighbours.{three_neighbours}
use Rattle.convex_draw.specs.Grids.{IsConvexGrid}
use Rattle.convex_draw.specs.Figures.{IsConvexFigure}

pub some_neighbour : (lists : Lists) → IsThreeConnected lists → ¬ (list_of lists 0 ≡ [])
some_neighbour lists three e = let some = three.some in let l = three_neighbours lists 0 three (omega arith) in let n = ap length e in omega arith

pub IsConvexFigure-of : (lists : Lists) (figure : GridFigure) → IsConvexGrid lists 0 (slice_index (list_of lists 0) 0) figure → IsConvexFigure lists figure
IsConvexFigure-of lists figure h = record {
  count = h.count;
  width = h.width;
  height = h.height;
  valid = h.valid;
  convex = h.convex;
  placed = record { first = h.first; second = h.second; third = h.third };
  root = h.root;
  out = h.out;
  regions = h.regions;
}
