-- The map and the points are those of the arrays.
use Rattle.pigale_c.proofs.checks.judged.Goals as goal

pub returns : goal.returns
returns c =
    (c.in_ok-drawing.ensures.given, c.in_ok-drawing.ensures.simple, rw (c.in_ok-drawing.ensures.map, c.in_ok-drawing.ensures.points) at c.check_points-verdict.ensures)
