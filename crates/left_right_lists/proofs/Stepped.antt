-- One more vertex stands where its lists are joined from those for each of its edges.
use Rattle.std.proofs.Common.{◌≡◌, ◌≢◌, ℕ, ◌+◌, ◌<◌, Bool, List, ◌∙◌}
use Rattle.map_theory.specs.Maps.{Dart}
use Rattle.left_right_laws.specs.Forests.{IsLeftRight}
use Rattle.left_right_maps.specs.Orders.{IsEdge}
use Rattle.left_right_maps.specs.RootedMaps.{joined}
use Rattle.left_right_maps.specs.Trees.{IsDepthFirstTree}
use Rattle.left_right_maps.proofs.Parts.{Sorted}
use Rattle.left_right_lists.specs.Blocks.{returned, block}
use Rattle.left_right_lists.proofs.PlacedLemmas.{ArePlaced, parts, placed_more}
use Rattle.left_right_lists.proofs.Forked.{entries_by, opens_by}

module _ (n : ℕ) (edge : ℕ → ℕ → Bool) (parent depth : ℕ → ℕ) (root : ℕ) (left : ℕ → ℕ → Bool) (g : IsDepthFirstTree n edge parent depth root) (sides : IsLeftRight (IsEdge edge) parent depth left) (number : ℕ → ℕ) (rising : (v : ℕ) → 0 < depth v → number (parent v) < number v) (only : (u v : ℕ) → u < n → v < n → number u ≡ number v → u ≡ v) where
  module _ (E : ℕ → List ℕ) (O : ℕ → List Dart) (k v : ℕ) (h : ArePlaced n edge parent depth root left g sides number rising only E O k) (in_n : v < n) (next : number v + (k + 1) ≡ n) where
    abbrev Order : Type 0
    Order = Sorted n edge parent depth root left g sides v h.words O (parts n edge parent depth root left g sides number rising only E O k v h in_n next)

    pub stepped : (sorted : Order) (E' : ℕ → List ℕ) (O' : ℕ → List Dart) → ((u : ℕ) → u ≢ v → E' u ≡ E u) → ((u : ℕ) → u ≢ v → O' u ≡ O u) → E' v ≡ joined (block parent depth O v) sorted.0 → O' v ≡ joined (returned parent depth O v) sorted.0 → ArePlaced n edge parent depth root left g sides number rising only E' O' (k + 1)
    stepped sorted E' O' kept kept' e o =
        placed_more n edge parent depth root left g sides number rising only E O k v h in_n next sorted E' O' kept kept'
        (e ∙ entries_by n edge parent depth root left g sides v h.words O (parts n edge parent depth root left g sides number rising only E O k v h in_n next) sorted)
        (o ∙ opens_by n edge parent depth root left g sides v h.words O (parts n edge parent depth root left g sides number rising only E O k v h in_n next) sorted)
