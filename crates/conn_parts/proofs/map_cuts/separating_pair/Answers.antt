use Rattle.std.proofs.Common.{ℕ, subst}
use Rattle.map_lists.specs.Lists.{Lists}
use Rattle.graph_search.proofs.ForestLemmas.{IsAdjacency-simple}
use Rattle.graph_search.specs.Cuts.{IsSeparatingPair}
use Rattle.conn_parts.proofs.map_cuts.separating_pair.Goals as goal

pub list_separating_pair-requires : goal.list_separating_pair-requires
list_separating_pair-requires c = record { adjacency = rw c.in_ok-lists.ensures (IsAdjacency-simple c.args.map.now.lists c.args.map.now.known.simple) }

pub returns : goal.returns
returns c =
    let none = rw c.in-None.is at c.in_ok-p.ensures in
    subst (λ (ls : Lists). (u v : ℕ) → IsSeparatingPair ls u v → ⊥) c.in_ok-lists.ensures none
