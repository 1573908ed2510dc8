use Rattle.std.proofs.Common.{◌≡◌, ◌≤◌, ◌*◌}
use Rattle.drawings.specs.Bars.{edges_before}
use Rattle.bar_check.proofs.edge_indices.edges_before.Given as goal

abbrev pub invariant-loop-u : goal.invariant-loop-u
invariant-loop-u l = record {
  count : l.count ≡ edges_before l.map.lists l.u;
  few : l.count ≤ 65535 * l.u;
}
