use Rattle.std.proofs.Common.{subst}
use Rattle.map_lists.specs.Lists.{Lists}
use Rattle.canon_order.specs.Orders.{vertices_of}
use Rattle.fpp_shift.specs.ShiftDrawings.{IsShiftOf}
use Rattle.fpp_shift.proofs.shift_drawer.shift_draw.Goals as goal

pub returns : goal.returns
returns c = subst (λ (ls : Lists). IsShiftOf ls (vertices_of c.args.order.now) c.in_ok-figure.figure) c.in_ok-lists.ensures c.in_ok-figure.ensures
