use Rattle.wood_laws.proofs.wood_orders.nested_in_wood.Goals as goal

pub returns : goal.returns
returns d = λ lists base parent c u v w triangulation has wood iu iv a b.
    let of = d.order_of_wood.ensures lists base parent triangulation has wood in
    d.regions_nested.ensures lists base of.0 parent c u v w triangulation of.1 iu iv a b
