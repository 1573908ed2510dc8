use Rattle.canon_order.specs.Orders.{vertices_of}
use Rattle.schnyder_wood.specs.Parents.{parent_in}
use Rattle.schnyder_grid.proofs.region_drawing.schnyder_draw.Goals as goal

pub returns-clause-coordinates : goal.returns-clause-coordinates
returns-clause-coordinates c = λ base v has of inner.
    let lists = c.args.tri.now.lists in
    let parent = parent_in c.args.wood.now in
    let at = vertices_of c.in_ok-order.order in
    let triangulation = c.requires.triangulation in
    let arranged = c.in_ok-order.ensures.arranged base has of in
    let canonical = c.arranged_is_order.ensures lists base parent at triangulation has of.wood_is arranged in
    let drawn = c.in_ok-figure.ensures.points base canonical in
    let parents = c.parents_of_arranged.ensures lists base parent at drawn.steps triangulation has of.wood_is arranged canonical drawn.order in
    c.drawn_at_coordinates.ensures lists base at parent c.in_ok-figure.figure.points v triangulation canonical drawn parents inner
