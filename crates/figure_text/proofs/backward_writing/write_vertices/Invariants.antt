-- The last k vertices are written, and there is room for the others.
use Rattle.std.proofs.Common.{◌≡◌, ◌+◌, ◌*◌, ◌-◌, ◌≤◌, ◌∷◌, ◌++◌, length, drop, flat_map, decimal}
use Rattle.figure_text.proofs.backward_writing.write_vertices.Given as goal

abbrev pub invariant-loop-k : goal.invariant-loop-k
invariant-loop-k l =
    (length l.bytes ≡ length l.fn.bytes) × (l.start ≤ l.end) × (l.end ≤ l.start + 6 * l.k) × (drop l.start l.bytes ≡ flat_map (λ u. 32 ∷ decimal (u + 1)) (drop (length l.list - l.k) l.list) ++ drop l.end l.fn.bytes)
