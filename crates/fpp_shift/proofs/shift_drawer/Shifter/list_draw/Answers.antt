use Rattle.std.proofs.Common.{rules}
use Rattle.canon_order.specs.Orders.{vertices_of}
use Rattle.fpp_shift.proofs.shift_drawer.Shifter.list_draw.Goals as goal

pub returns : goal.returns
returns c = record {
  points = c.in_ok-points.ensures;
  drawing = λ base dart order. c.shift_points_draw.ensures c.args.lists.now base (vertices_of c.args.order.now) c.in_ok-points.points c.requires.triangulation dart order (c.in_ok-points.ensures base order);
  width = search rules;
  height = search rules;
}
