use Rattle.std.proofs.Common.{◌<◌, ◌≤◌, ℕ}
use Rattle.convex_class.specs.Clear.{IsClearFace}
use Rattle.convex_class.proofs.face_pairs.uncut_map.UncutMap.least_at_faces.Given as goal

abbrev pub invariant-loop-f : goal.invariant-loop-f
invariant-loop-f l = record {
  lower : l.best ≤ l.fn.best;
  clear : (x : ℕ) → x < l.f → IsClearFace l.self.map.now l.self.faces.now l.best x;
}
