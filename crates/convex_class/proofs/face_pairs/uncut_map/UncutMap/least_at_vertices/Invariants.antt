use Rattle.std.proofs.Common.{◌<◌, ℕ}
use Rattle.convex_class.specs.Clear.{IsClearVertex}
use Rattle.convex_class.proofs.face_pairs.uncut_map.UncutMap.least_at_vertices.Given as goal

abbrev pub invariant-loop-u : goal.invariant-loop-u
invariant-loop-u l = (x : ℕ) → x < l.u → IsClearVertex l.self.map.now l.self.faces.now l.best x
