use Rattle.std.proofs.Common.{◌≡◌, ℕ, ◌<◌, length, get_or}
use Rattle.euler_faces.proofs.stored_map.StoredMap.has_triangles.Given as goal

abbrev pub invariant-loop-d : goal.invariant-loop-d
invariant-loop-d l =
    l.wrong ≡ 0 → (e : ℕ) → e < l.d → get_or l.self.entries.now (get_or l.next (get_or l.twins (get_or l.next e 0) 0) 0) 0 ≡ get_or l.self.entries.now e 0
