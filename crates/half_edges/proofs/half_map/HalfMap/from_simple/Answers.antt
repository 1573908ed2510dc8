use Rattle.simple_maps.proofs.FaultLemmas.{NoMemory-from_simple}
use Rattle.half_edges.proofs.half_map.HalfMap.from_simple.Goals as goal

pub unreachable-requires : goal.unreachable-requires
unreachable-requires c = c.in_default.not-NoMemory (NoMemory-from_simple c.args.lists.now c.in-Err.fault c.requires.simple c.in-Err.ensures.fault)
