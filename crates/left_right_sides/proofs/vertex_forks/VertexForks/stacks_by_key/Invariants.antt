use Rattle.std.proofs.Common.{◌≡◌, ◌+◌, length}
use Rattle.left_right_sides.proofs.vertex_forks.VertexForks.stacks_by_key.Given as goal

abbrev pub invariant-loop-p : goal.invariant-loop-p
invariant-loop-p l = length l.lists.first.items ≡ l.count + l.keys
