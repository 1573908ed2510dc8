use Rattle.std.proofs.Common.{◌≡◌, ◌≤◌, map, length}
use Rattle.std.specs.Vec.{vec_capacity}
use Rattle.canon_order.proofs.vertex_list_tools.reversed_vertices.Given as goal

abbrev pub invariant-loop-v : goal.invariant-loop-v
invariant-loop-v l = record {
  vertices : map (λ v. v.0) l.at.items ≡ map (λ v. v.now) l.yielded;
  room : length l.taken ≤ vec_capacity l.at;
}
