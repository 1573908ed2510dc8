use Rattle.graph_search.proofs.search_forests.forest.search_forest.Goals as goal

pub returns : goal.returns
returns c = rw c.into_tables.ensures.order (rw c.into_tables.ensures.number (rw c.into_tables.ensures.last (rw c.into_tables.ensures.parent (rw c.begun-search.ensures.lists at c.finish.ensures.forest))))
