use Rattle.std.proofs.Common.{◌≡◌, ◌*◌, ℕ, Bool, Some, length, Contains}
use Rattle.map_theory.specs.Maps.{Dart}
use Rattle.half_edges.specs.Map.{IsLive, dart_at, id_bound}
use Rattle.euler_faces.specs.declared.face_chains.FaceSide.{FaceSide}
use Rattle.euler_faces.specs.ChainSearch.{work, Tells, IsChaining}
use Rattle.euler_faces.proofs.face_chains.mark_reached.Given as goal

abbrev pub invariant-loop-side : goal.invariant-loop-side
invariant-loop-side g l = record {
  marks : length l.met ≡ 2 * id_bound l.map;
  live : (s : FaceSide) → Contains l.sides.items s → IsLive l.map s.dart.0;
  search : (base : Dart) (counts : ℕ → ℕ → Bool) → dart_at l.map l.fn.start.0 ≡ Some base → Tells l.map (goal.F-post g l.counts) counts → IsChaining l.map base counts l.met l.sides.items (λ d odd. ⊥);
}

abbrev pub decreases-loop-side : goal.decreases-loop-side
decreases-loop-side g l = work l.met l.sides.items
