use Rattle.half_edges.proofs.ArenaLemmas.{known}
use Rattle.half_edges.proofs.half_map.HalfMap.facts.Goals as goal

pub returns : goal.returns
returns c = known _ _ _ _ _ c.self.invariant c.args.self.now c.self.view_is
