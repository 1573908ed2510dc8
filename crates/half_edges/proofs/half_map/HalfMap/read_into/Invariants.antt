use Rattle.std.proofs.Common.{◌≡◌, ◌*◌, ◌≤◌, length, take, vec_len, vec_capacity}
use Rattle.map_lists.proofs.CutLemmas.{IsStored}
use Rattle.map_theory.specs.Maps.{darts_before}
use Rattle.half_edges.specs.Arena.{arena_lists}
use Rattle.half_edges.proofs.half_map.HalfMap.read_into.Given as goal

abbrev pub invariant-loop-vertex : goal.invariant-loop-vertex
invariant-loop-vertex l = record {
  stored : IsStored (arena_lists l.self-inside.darts.items (take l.vertex-index l.self-inside.vertices.items)) l.entries.items l.ends.items;
  met : length l.entries.items ≡ darts_before (arena_lists l.self-inside.darts.items l.self-inside.vertices.items) l.vertex-index;
  space : 2 * l.self-inside.edges ≤ vec_capacity l.entries;
  count : length l.ends.items ≡ l.vertex-index;
  room : vec_len l.self-inside.vertices ≤ vec_capacity l.ends;
}
