use Rattle.wood_laws.proofs.wood_orders.order_of_wood.Goals as goal

pub returns : goal.returns
returns c = λ lists base parent triangulation has wood.
    let some = c.some_arranged.ensures lists base parent triangulation has wood in
    let order = c.arranged_is_order.ensures lists base parent some.0 triangulation has wood some.1 in
    let run = c.order_is_run.ensures lists base some.0 triangulation order in
    (some.0, record { order = order; steps = run.0; run = run.1; parents = c.parents_of_arranged.ensures lists base parent some.0 run.0 triangulation has wood some.1 order run.1 })
