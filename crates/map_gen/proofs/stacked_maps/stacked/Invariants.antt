use Rattle.std.proofs.Common.{◌≡◌, ◌+◌, ◌*◌, ◌≤◌}
use Rattle.map_gen.proofs.Making.{IsMade, before}
use Rattle.map_gen.proofs.stacked_maps.stacked.Given as goal

abbrev pub invariant-loop-k : goal.invariant-loop-k
invariant-loop-k l = record {
  some : 3 ≤ l.k;
  most : l.k ≤ l.n;
  room : l.map.spare + 3 * l.k ≡ 3 * l.n;
  made : IsMade (before l.n l.fn.number l.k) l.map l.faces.items l.row;
}
