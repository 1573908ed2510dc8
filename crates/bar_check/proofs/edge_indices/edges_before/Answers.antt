use Rattle.std.proofs.Common.{arith}
use Rattle.drawings.proofs.EdgeCounts.{edges_before-none}
use Rattle.bar_check.proofs.edge_indices.edges_before.Goals as goal

pub loop-u-init : goal.loop-u-init
loop-u-init c = record { count = edges_before-none c.args.map.now.lists; few = omega arith }
