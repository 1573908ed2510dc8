-- The laws of regions of runs. The region of number c of v has the faces of this shade for v, and the vertices on them.
use Rattle.std.specs.Prelude.{ℕ, ◌+◌, ◌<◌, ◌≡◌}
use Rattle.contour_runs.specs.Runs.{Step, IsRun}
use Rattle.wood_runs.specs.Parents.{Colour}
use Rattle.wood_runs.specs.Fronts.{shades, IsOn}
use Rattle.wood_runs.specs.Edges.{number}

-- w is in the region: on a face of this shade for v
abbrev pub IsInShade : (ℕ → Step) → ℕ → Colour → ℕ → ℕ → Type 0
IsInShade steps n c v w = (f : ℕ) × IsOn steps n w f × (shades steps n v f ≡ number c)

-- Where v is in a region of u, all faces of this region of v are in that of u.
abbrev pub RegionsNested : Type 0
RegionsNested =
    (steps : ℕ → Step) (n u v f : ℕ) (c : Colour) → IsRun steps n → u < n + 2 → IsInShade steps n c u v → shades steps n v f ≡ number c → shades steps n u f ≡ number c
