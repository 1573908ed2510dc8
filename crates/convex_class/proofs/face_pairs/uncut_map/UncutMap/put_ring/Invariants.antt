use Rattle.std.proofs.Common.{◌≡◌, ◌<◌, length, slice_index, Some}
use Rattle.map_theory.specs.Maps.{list_of}
use Rattle.half_edges.specs.Map.{IsLive, dart_at}
use Rattle.euler_faces.specs.FaceWalks.{ids_of}
use Rattle.convex_class.proofs.RingLemmas.{IsRow}
use Rattle.convex_class.proofs.face_pairs.uncut_map.UncutMap.put_ring.Given as goal

abbrev pub invariant-loop : goal.invariant-loop
invariant-loop l = record {
  live : IsLive l.self.map.now l.d.0;
  dart : l.counter < length (list_of l.self.map.now.lists l.fn.v.0) → dart_at l.self.map.now l.d.0 ≡ Some (l.fn.v.0, slice_index (list_of l.self.map.now.lists l.fn.v.0) l.counter);
  row : IsRow l.self.map.now l.fn.v.0 l.counter (ids_of l.ring.items);
}
