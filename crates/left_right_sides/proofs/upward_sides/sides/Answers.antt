use Rattle.std.proofs.Common.{◌≡◌, ℕ, Bool, false, List, length, slice_index_or, ◌∙◌, subst}
use Rattle.std.specs.Prelude.{MatchOption}
use Rattle.left_right_sides.specs.Standing.{IsSearchTree, MeetsAll}
use Rattle.left_right_sides.specs.Views.{rooted_by, AreNumbered}
use Rattle.left_right_sides.proofs.upward_sides.sides.Goals as goal

pub returns : goal.returns
returns c =
    subst (λ (hs : List ℕ). (edge : ℕ → ℕ → Bool) (number : ℕ → ℕ) (root : ℕ) → IsSearchTree (rooted_by edge number c.args.parents.now c.args.depths.now c.args.darts.now hs) root → AreNumbered (rooted_by edge number c.args.parents.now c.args.depths.now c.args.darts.now hs) c.args.order.now → length c.args.order.now ≡ length c.args.parents.now → MatchOption c.in_ok-found.found ((side : ℕ → Bool) → ¬ MeetsAll (rooted_by edge number c.args.parents.now c.args.depths.now c.args.darts.now hs) side) (λ sides. MeetsAll (rooted_by edge number c.args.parents.now c.args.depths.now c.args.darts.now hs) (λ x. slice_index_or sides.items x false)))
    (c.deref.ensures.value ∙ c.in_ok-heights.ensures) c.in_ok-found.ensures
