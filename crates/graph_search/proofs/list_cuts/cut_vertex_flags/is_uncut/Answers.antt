use Rattle.graph_search.proofs.FlagLemmas.{none_low}
use Rattle.graph_search.proofs.list_cuts.cut_vertex_flags.is_uncut.Goals as goal

pub returns : goal.returns
returns c = λ told.
    let lists = c.args.lists.now in
    let f = c.args.forest.now in
    none_low lists c.requires.adjacency f.order.items f.number.items f.last.items f.parent.items c.args.low.now c.requires.forest c.requires.lows (rw (c.deref.ensures.value, c.deref-2.ensures.value) at c.no_child_apart.ensures told)
