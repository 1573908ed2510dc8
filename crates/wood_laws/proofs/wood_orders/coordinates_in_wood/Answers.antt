use Rattle.wood_laws.proofs.wood_orders.coordinates_in_wood.Goals as goal

pub returns : goal.returns
returns c = λ lists base parent v triangulation has wood inner.
    let some = c.some_arranged.ensures lists base parent triangulation has wood in
    let order = c.arranged_is_order.ensures lists base parent some.0 triangulation has wood some.1 in
    let drawn = c.some_wood_points.ensures lists base some.0 triangulation order in
    let parents = c.parents_of_arranged.ensures lists base parent some.0 drawn.1.steps triangulation has wood some.1 order drawn.1.order in
    let stands = c.drawn_at_coordinates.ensures lists base some.0 parent drawn.0 v triangulation order drawn.1 parents inner in
    (stands.x, stands.y, stands.z, stands.coordinates)
