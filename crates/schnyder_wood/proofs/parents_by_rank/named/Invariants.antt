use Rattle.std.proofs.Common.{take}
use Rattle.canon_order.specs.Orders.{vertices_of}
use Rattle.schnyder_wood.specs.Tables.{AreNamed}
use Rattle.schnyder_wood.proofs.parents_by_rank.named.Given as goal

abbrev pub invariant-loop-v : goal.invariant-loop-v
invariant-loop-v l = AreNamed l.table (take l.v l.order.rank) (vertices_of l.order) l.names.items
