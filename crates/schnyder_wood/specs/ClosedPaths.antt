-- The closed path of a region, as the code holds it.
use Rattle.std.specs.Prelude.{ℕ, ◌≡◌, ◌≢◌, ◌⊎◌, slice_index}
use Rattle.wood_runs.specs.Parents.{Colour, next, previous}
use Rattle.schnyder_wood.specs.Parents.{Parents, root_in}
use Rattle.schnyder_wood.specs.Boundaries.{NotesPath}
use Rattle.schnyder_wood.specs.declared.schnyder_regions.closed_paths.ClosedPath.{ClosedPath}

-- the paths of the two other colours are noted, and their roots
pub record IsClosedPath (wood : Parents) (c : Colour) (v : ℕ) (path : ClosedPath) : Type 0 where
  pub nexts : NotesPath wood (next c) v path.nexts.items
  pub previouses : NotesPath wood (previous c) v path.previouses.items
  pub next_root : path.next_root.0 ≡ root_in wood (next c)
  pub previous_root : path.previous_root.0 ≡ root_in wood (previous c)

-- an edge along one of them, or between the roots
abbrev pub IsEdgeOf : ClosedPath → ℕ → ℕ → Type 0
IsEdgeOf path x y =
    ((slice_index path.nexts.items x ≡ y) ⊎ (slice_index path.nexts.items y ≡ x)) ⊎ (((slice_index path.previouses.items x ≡ y) ⊎ (slice_index path.previouses.items y ≡ x)) ⊎ (((x ≡ path.next_root.0) × (y ≡ path.previous_root.0)) ⊎ ((x ≡ path.previous_root.0) × (y ≡ path.next_root.0))))

-- a vertex from which one of them leads on, or a root
abbrev pub IsVertexOf : ClosedPath → ℕ → Type 0
IsVertexOf path u = (slice_index path.nexts.items u ≢ u) ⊎ ((slice_index path.previouses.items u ≢ u) ⊎ ((u ≡ path.next_root.0) ⊎ (u ≡ path.previous_root.0)))
