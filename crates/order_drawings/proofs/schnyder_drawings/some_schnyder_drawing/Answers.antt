use Rattle.order_drawings.proofs.schnyder_drawings.some_schnyder_drawing.Goals as goal

pub returns : goal.returns
returns c = λ lists base triangulation dart.
    let order = c.some_order.ensures lists base triangulation dart in
    let points = c.some_wood_points.ensures lists base order.0 triangulation order.1 in
    (points.0, c.wood_points_draw.ensures lists base order.0 points.0 triangulation dart order.1 points.1)
