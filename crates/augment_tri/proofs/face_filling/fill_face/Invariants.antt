use Rattle.std.proofs.Common.{◌≡◌, ℕ, Some}
use Rattle.half_edges.specs.Map.{Map, IsLive, dart_at}
use Rattle.augment_tri.specs.Growing.{IsCovered, IsFillable, IsGrown}
use Rattle.augment_tri.proofs.face_filling.fill_face.Given as goal

abbrev pub invariant-loop-at : goal.invariant-loop-at
invariant-loop-at l = record {
  fillable : IsFillable l.map;
  grown : IsGrown l.fn.map l.map;
  live : IsLive l.map l.at.0;
  covered : (first : Map) (k a b : ℕ) → dart_at l.fn.map l.fn.d.0 ≡ Some (a, b) → IsCovered first k l.fn.map.lists a b → (v u : ℕ) → dart_at l.map l.at.0 ≡ Some (v, u) → IsCovered first k l.map.lists v u;
}

abbrev pub decreases-loop-at : goal.decreases-loop-at
decreases-loop-at l = l.map.spare
