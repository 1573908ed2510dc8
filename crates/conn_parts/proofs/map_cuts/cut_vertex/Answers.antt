use Rattle.std.proofs.Common.{ℕ, subst}
use Rattle.map_lists.specs.Lists.{Lists}
use Rattle.graph_search.proofs.ForestLemmas.{IsAdjacency-simple}
use Rattle.graph_search.specs.Cuts.{IsCutVertex}
use Rattle.conn_parts.proofs.map_cuts.cut_vertex.Goals as goal

pub list_cut_vertex-requires : goal.list_cut_vertex-requires
list_cut_vertex-requires c = record { adjacency = rw c.in_ok-lists.ensures (IsAdjacency-simple c.args.map.now.lists c.args.map.now.known.simple) }

pub returns : goal.returns
returns c =
    let none = rw c.in-None.is at c.in_ok-v.ensures in
    subst (λ (ls : Lists). (v : ℕ) → IsCutVertex ls v → ⊥) c.in_ok-lists.ensures none
