use Rattle.std.proofs.Common.{◌≡◌, ◌<◌, ℕ, slice_index}
use Rattle.map_theory.specs.Maps.{list_of}
use Rattle.convex_class.proofs.face_pairs.twice_met_vertices.Star.least.Given as goal

abbrev pub invariant-loop-d : goal.invariant-loop-d
invariant-loop-d l = (i : ℕ) → i < l.d-index → slice_index l.marks (slice_index (list_of l.self.uncut.map.now.lists l.self.u) i) ≡ l.self.u
