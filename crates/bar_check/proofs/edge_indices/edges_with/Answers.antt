use Rattle.std.proofs.Common.{arith}
use Rattle.drawings.proofs.EdgeCounts.{edges_before-more}
use Rattle.bar_check.proofs.edge_indices.edges_with.Goals as goal

pub returns-clause-count : goal.returns-clause-count
returns-clause-count c =
    let more = edges_before-more c.args.map.now.lists c.args.v.0 in
    let count = rw c.n.ensures.count at c.edges_until.ensures.count in
    omega (arith, c.requires.before)
