use Rattle.std.proofs.Common.{subst, sym}
use Rattle.map_theory.specs.Maps.{IsSimpleMap}
use Rattle.simple_maps.proofs.FaultLemmas.{NoMemory-from_simple}
use Rattle.euler_faces.proofs.euler_counts.euler.Goals as goal

pub unreachable-requires : goal.unreachable-requires
unreachable-requires c = c.in_default.not-NoMemory (NoMemory-from_simple _ c.in-Err.fault (subst IsSimpleMap (sym c.in_ok-lists.ensures) c.args.map.now.known.simple) c.in-Err.ensures.fault)
