-- The map and the points are those of the arrays.
use Rattle.pigale_c.proofs.checks.judged_convex.Goals as goal

pub returns-in-Yes : goal.returns-in-Yes
returns-in-Yes c =
    let drawing = c.in_ok-drawing.ensures in
    let yes = rw c.in-Yes.is at c.check_points.ensures in
    (drawing.given, drawing.simple, (rw (drawing.map, drawing.points) at yes, rw (drawing.map, drawing.points) at c.in_ok-verdict-in-Yes.ensures))

pub returns : goal.returns
returns c =
    let drawing = c.in_ok-drawing.ensures in
    (drawing.given, drawing.simple, (rw (drawing.map, drawing.points) at c.check_points.ensures, c.in_default.not-Yes))
