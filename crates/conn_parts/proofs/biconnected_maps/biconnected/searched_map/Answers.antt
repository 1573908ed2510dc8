use Rattle.std.proofs.Common.{ℕ, MatchOption, subst, arith}
use Rattle.graph_search.proofs.ForestLemmas.{IsAdjacency-simple}
use Rattle.graph_search.specs.Cuts.{IsCutVertex, IsLeastCutVertex}
use Rattle.conn_parts.proofs.biconnected_maps.biconnected.searched_map.Goals as goal

pub first_search-requires-clause-simple : goal.first_search-requires-clause-simple
first_search-requires-clause-simple c = c.in_ok-map.ensures.simple

pub low_points-requires-clause-adjacency : goal.low_points-requires-clause-adjacency
low_points-requires-clause-adjacency c = IsAdjacency-simple c.args.lists.now c.in_ok-map.ensures.simple

pub searched_cut_vertex-requires-clause-adjacency : goal.searched_cut_vertex-requires-clause-adjacency
searched_cut_vertex-requires-clause-adjacency c = IsAdjacency-simple c.args.lists.now c.in_ok-map.ensures.simple

pub returns-clause-served : goal.returns-clause-served
returns-clause-served c =
    let plane = c.in_ok-map.ensures in
    record {
      simple = plane.simple;
      some = plane.some;
      plane = plane.plane;
      connected = omega (arith, plane.parts.count, c.count.ensures, c.if-count-ne1.false);
      uncut = subst (λ found. MatchOption found ((v : ℕ) → ¬ IsCutVertex c.args.lists.now v) (λ v. IsLeastCutVertex c.args.lists.now v)) c.in-None.is c.searched_cut_vertex.ensures;
    }
