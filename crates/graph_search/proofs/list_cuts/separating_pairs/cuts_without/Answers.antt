use Rattle.graph_search.proofs.PairLemmas.{IsAdjacency-without}
use Rattle.graph_search.proofs.list_cuts.separating_pairs.cuts_without.Goals as goal

pub cut_flags-requires : goal.cut_flags-requires
cut_flags-requires c = record { adjacency = IsAdjacency-without c.args.lists.now c.in_ok-rest.rest c.args.v c.in_ok-rest.ensures c.requires.adjacency }
