use Rattle.std.proofs.Common.{◌≡◌, ◌+◌, ◌-◌, ◌≤◌, ◌++◌, vec_len, vec_capacity}
use Rattle.half_edges.specs.Arena.{steps, walk}
use Rattle.half_edges.proofs.dart_records.push_heads.Given as goal

abbrev pub invariant-loop-k : goal.invariant-loop-k
invariant-loop-k l = record {
  at : l.d ≡ steps l.darts l.first l.k;
  met : l.entries.items ≡ l.initial.entries.items ++ walk l.darts l.first l.k;
  kept : vec_capacity l.initial.entries ≤ vec_capacity l.entries;
  room : vec_len l.entries + (l.degree - l.k) ≤ vec_capacity l.entries;
}
