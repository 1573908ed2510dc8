-- The edges of a graph begin before they end.
use Rattle.std.proofs.Common.{length, arith}
use Rattle.pigale_c.proofs.ManyLemmas.{part_within}
use Rattle.pigale_c.proofs.many_graphs.ManyGraphs.edges_of.Goals as goal

pub returns-clause-order : goal.returns-clause-order
returns-clause-order c =
    let r = part_within c.args.self.now.edge_ends.now (length c.args.self.now.edges.now) c.args.i c.requires.given.edges_cut (omega (arith, c.requires.inside, c.requires.given.graphs)) in
    omega (arith, r.0, c.part_at.ensures.from, c.part_at.ensures.to)

pub returns-clause-within : goal.returns-clause-within
returns-clause-within c =
    let r = part_within c.args.self.now.edge_ends.now (length c.args.self.now.edges.now) c.args.i c.requires.given.edges_cut (omega (arith, c.requires.inside, c.requires.given.graphs)) in
    omega (arith, r.1, c.part_at.ensures.to)
