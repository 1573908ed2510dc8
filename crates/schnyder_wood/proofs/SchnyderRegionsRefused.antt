-- What the clauses on paths and sides determine.
use Rattle.std.proofs.Common.{◌≡◌, ◌<◌, ℕ, List, false, Some, ⊎_elim, ◌∙◌, sym, true≢false}
use Rattle.std.specs.Prelude.{slice_index}
use Rattle.half_edges.specs.Map.{Map, dart_at}
use Rattle.wood_runs.specs.Parents.{Colour}
use Rattle.schnyder_wood.specs.Parents.{Parents, count_in}
use Rattle.schnyder_wood.specs.Boundaries.{NotesPath}
use Rattle.schnyder_wood.specs.ClosedPaths.{IsEdgeOf}
use Rattle.schnyder_wood.specs.Search.{IsCrossed}
use Rattle.schnyder_wood.specs.declared.schnyder_regions.closed_paths.ClosedPath.{ClosedPath}

-- one table notes a path: that of another colour does not
NotesPath-unique : (wood : Parents) (c : Colour) (v : ℕ) (ups ups' : List ℕ) (u : ℕ) → u < count_in wood → NotesPath wood c v ups → NotesPath wood c v ups' → slice_index ups u ≡ slice_index ups' u
NotesPath-unique wood c v ups ups' u l a b =
    ⊎_elim (λ p. ⊎_elim (λ q. p.1 ∙ sym q.1) (λ q. absurd (q.0 p.0)) (b.each u l)) (λ p. ⊎_elim (λ q. absurd (p.0 q.0)) (λ q. p.1 ∙ sym q.1) (b.each u l)) (a.each u l)

-- over an edge of the closed path the number does not stay
over_an_edge_as_along : (map : Map) (path : ClosedPath) (d x y : ℕ) → dart_at map d ≡ Some (x, y) → IsEdgeOf path x y → IsCrossed map path d false → ⊥
over_an_edge_as_along map path d x y e edge a = true≢false (sym ((a.told x y e).1 edge))
