-- The verdict is that on the lists of the edges.
use Rattle.pigale_c.proofs.edge_drawings.judged.Goals as goal

pub returns : goal.returns
returns c =
    let few = c.are_few.ensures.0 c.if-not-are_few.false in
    let verdict = rw c.in_ok-points.ensures.points at c.check_plane-verdict.ensures in (
      record { some_point = few.0; few_points = few.1; few_edges = few.2; places = c.in_ok-points.ensures.given },
      (c.in_ok-map.map.lists, c.in_ok-map.ensures.map, (c.in_ok-map.ensures.simple, verdict)),
    )
