use Rattle.std.proofs.Common.{◌+◌, ◌-◌, ◌*◌, ◌≤◌, vec_len}
use Rattle.std.specs.Vec.{vec_capacity}
use Rattle.half_edges.specs.Links.{IsFreer}
use Rattle.half_edges.proofs.edge_edits.push_free.Given as goal

abbrev pub invariant-loop-i : goal.invariant-loop-i
invariant-loop-i l = record {
  freer : IsFreer l.fn.darts.items l.darts.items l.free l.spare l.i;
  room : vec_len l.darts + 2 * (l.more - l.i) ≤ vec_capacity l.darts;
}
