-- The points of a graph begin before they end.
use Rattle.std.proofs.Common.{arith}
use Rattle.pigale_c.proofs.ManyLemmas.{part_within}
use Rattle.pigale_c.proofs.many_graphs.ManyGraphs.points_of.Goals as goal

pub returns-clause-order : goal.returns-clause-order
returns-clause-order c =
    let r = part_within c.args.self.now.vertex_ends.now c.args.self.now.points c.args.i c.requires.given.vertices c.requires.inside in
    omega (arith, r.0, c.part_at.ensures.from, c.part_at.ensures.to)

pub returns-clause-within : goal.returns-clause-within
returns-clause-within c =
    let r = part_within c.args.self.now.vertex_ends.now c.args.self.now.points c.args.i c.requires.given.vertices c.requires.inside in
    omega (arith, r.1, c.part_at.ensures.to)
