-- A map begins before it ends, and ends within the lists.
use Rattle.std.proofs.Common.{length, arith}
use Rattle.pigale_c.proofs.ManyLemmas.{part_within}
use Rattle.pigale_c.proofs.many_maps.ManyMaps.lists_of.Goals as goal

pub returns-clause-order : goal.returns-clause-order
returns-clause-order c =
    let r = part_within c.args.self.now.map_ends.now (length c.args.self.now.ends.now) c.args.i c.requires.given.maps c.requires.inside in
    omega (arith, r.0, c.part_at.ensures.from, c.part_at.ensures.to)

pub returns-clause-within : goal.returns-clause-within
returns-clause-within c =
    let r = part_within c.args.self.now.map_ends.now (length c.args.self.now.ends.now) c.args.i c.requires.given.maps c.requires.inside in
    omega (arith, r.1, c.part_at.ensures.to)
