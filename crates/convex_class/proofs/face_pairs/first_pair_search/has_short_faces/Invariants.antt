use Rattle.std.proofs.Common.{ℕ, ◌<◌, ◌≤◌, length}
use Rattle.euler_faces.specs.FaceWalks.{walk_at}
use Rattle.convex_class.proofs.face_pairs.first_pair_search.has_short_faces.Given as goal

abbrev pub invariant-loop-f : goal.invariant-loop-f
invariant-loop-f l = (g : ℕ) → g < l.f → length (walk_at l.faces g) ≤ 3
