use Rattle.std.proofs.Common.{◌≡◌, ◌+◌, ◌-◌, ◌<◌, ◌≤◌, length, slice_index, Some, vec_len}
use Rattle.std.specs.Vec.{vec_capacity}
use Rattle.map_theory.specs.Maps.{list_of}
use Rattle.half_edges.specs.Map.{IsLive, dart_at}
use Rattle.convex_orders.specs.FaceNumbers.{AreOwn, AreOther, IsRowPut}
use Rattle.convex_orders.proofs.face_numbers.WalkedMap.put_vertex.Given as goal

abbrev pub invariant-loop : goal.invariant-loop
invariant-loop l = record {
  live : IsLive l.self.map.now l.d.0;
  dart : l.counter < length (list_of l.self.map.now.lists l.fn.v.0) → dart_at l.self.map.now l.d.0 ≡ Some (l.fn.v.0, slice_index (list_of l.self.map.now.lists l.fn.v.0) l.counter);
  own_room : vec_len l.own + (length (list_of l.self.map.now.lists l.fn.v.0) - l.counter) ≤ vec_capacity l.own;
  other_room : vec_len l.other + (length (list_of l.self.map.now.lists l.fn.v.0) - l.counter) ≤ vec_capacity l.other;
  own : IsRowPut (AreOwn l.self.map.now l.self.faces.now l.fn.v.0) l.counter l.initial.own.items l.own.items;
  other : IsRowPut (AreOther l.self.map.now l.self.faces.now l.fn.v.0) l.counter l.initial.other.items l.other.items;
}
