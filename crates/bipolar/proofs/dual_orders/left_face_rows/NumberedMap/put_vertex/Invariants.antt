use Rattle.std.proofs.Common.{◌≡◌, ◌<◌, length, slice_index, Some}
use Rattle.map_theory.specs.Maps.{list_of}
use Rattle.half_edges.specs.Map.{IsLive, dart_at}
use Rattle.bipolar.specs.FaceArcs.{ArePutNumbers}
use Rattle.bipolar.proofs.dual_orders.left_face_rows.NumberedMap.put_vertex.Given as goal

abbrev pub invariant-loop : goal.invariant-loop
invariant-loop l = record {
  live : IsLive l.self.map.now l.d.0;
  dart : l.counter < length (list_of l.self.map.now.lists l.fn.v.0) → dart_at l.self.map.now l.d.0 ≡ Some (l.fn.v.0, slice_index (list_of l.self.map.now.lists l.fn.v.0) l.counter);
  row : ArePutNumbers l.self.map.now l.self.faces.now l.self.rank.now l.self.numbers.now l.fn.v.0 l.counter l.initial.entries.items l.entries.items;
}
