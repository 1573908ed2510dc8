-- Answers that wrong bodies would give: the clauses refuse them.
use Rattle.std.proofs.Common.{false, true, [], ◌∷◌, sym, arith, IsTrue}
use Rattle.std.specs.Prelude.{◌↔◌}
use Rattle.std.proofs.lemmas.Bool.{true≢false}
use Rattle.map_lists.specs.Lists.{Lists}
use Rattle.embed_theorem.specs.Expanded.{IsMapOf}
use Rattle.embed_theorem.specs.ListGraphs.{graph_of}
use Rattle.left_right_check.proofs.Refused.{octahedron, octahedron_is_plane}
use Rattle.left_right_lists.specs.Decided.{HasMap}
use Rattle.left_right_lists.specs.Depths.{IsDepthBy}
use Rattle.left_right_lists.specs.Sides.{AreTold}

-- a test that says no to the octahedron
octahedron_refused : ¬ (IsTrue false ↔ HasMap (graph_of octahedron))
octahedron_refused told = true≢false (sym (told.1 (octahedron, octahedron_is_plane)))

-- no lists for the octahedron
no_lists_refused : ¬ ((lists : Lists) → ¬ IsMapOf lists (graph_of octahedron))
no_lists_refused none = none octahedron octahedron_is_plane

-- a table without the side of an edge that is on the left
no_side_refused : ¬ AreTold ((1, 0) ∷ []) (true ∷ []) []
no_side_refused told = true≢false (sym (told 0 (omega arith)))

-- a vertex at the depth of its parent
depth_refused : ¬ IsDepthBy (2 ∷ 0 ∷ []) (0 ∷ 0 ∷ []) 1 0
depth_refused by = let e = by.below (omega arith) in omega arith
