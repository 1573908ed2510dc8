use Rattle.wood_laws.proofs.wood_orders.inside_of_wood.Goals as goal

pub returns : goal.returns
returns d = λ lists base parent c v x y triangulation has wood inner dart.
    let of = d.order_of_wood.ensures lists base parent triangulation has wood in
    d.inside_is_known.ensures lists base of.0 parent c v x y triangulation of.1 inner dart
