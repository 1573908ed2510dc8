use Rattle.half_edges.proofs.ArenaLemmas.{known}
use Rattle.half_edges.proofs.half_map.HalfMap.m.Goals as goal

pub returns-clause-known : goal.returns-clause-known
returns-clause-known c = known _ _ _ _ _ c.self.invariant c.args.self.now c.self.view_is
