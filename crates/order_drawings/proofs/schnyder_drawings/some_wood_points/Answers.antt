use Rattle.std.proofs.Common.{length, ◌-◌}
use Rattle.contour_runs.specs.Wood.{wood_points, point_of}
use Rattle.order_drawings.proofs.schnyder_drawings.some_wood_points.Goals as goal

pub returns : goal.returns
returns c = λ lists base at triangulation order.
    let run = c.order_is_run.ensures lists base at triangulation order in
    let points = c.points_of_order.ensures lists base at (point_of (wood_points run.0 (length at - 2))) order in
    (points.0, record { steps = run.0; order = run.1; count = points.1; placed = points.2 })
