use Rattle.std.proofs.Common.{◌≡◌, ℕ, Bool, true, List, length, slice_index}
use Rattle.chained_lists.specs.Held.{Holds}
use Rattle.left_right_blocks.specs.Blocks.{Block}
use Rattle.left_right_blocks.specs.States.{IsState}
use Rattle.left_right_sides.specs.Standing.{IsStanding, IsSearchTree}
use Rattle.left_right_sides.specs.Items.{AreItems}
use Rattle.left_right_sides.proofs.Items.{AreItemsLeft}
use Rattle.left_right_sides.specs.Views.{rooted_by, IsAlike, MatchPlaced, AreNumbered}
use Rattle.left_right_sides.proofs.vertex_forks.VertexForks.place_all.Given as goal

abbrev pub invariant-loop-k : goal.invariant-loop-k
invariant-loop-k l = record {
  alike : IsAlike l.initial.blocks l.blocks;
  long : length l.lows ≡ length l.initial.lows;
  numbers : length l.items.next.items ≡ length l.initial.items.next.items;
  placed : (edge : ℕ → ℕ → Bool) (number : ℕ → ℕ) (root : ℕ) (P : ℕ → List Block) (lists : ℕ → List ℕ) → IsSearchTree (rooted_by edge number l.self.parents.now l.self.depths.now l.self.darts.now l.self.heights.now) root → AreNumbered (rooted_by edge number l.self.parents.now l.self.depths.now l.self.darts.now l.self.heights.now) l.order → length l.order ≡ length l.self.parents.now → length l.initial.lows ≡ length l.self.parents.now → IsState l.initial.blocks P → IsStanding (rooted_by edge number l.self.parents.now l.self.depths.now l.self.darts.now l.self.heights.now) 0 (slice_index l.initial.lows) P l.initial.blocks.ties.items → Holds l.initial.items lists → AreItems (rooted_by edge number l.self.parents.now l.self.depths.now l.self.darts.now l.self.heights.now) lists → MatchPlaced (rooted_by edge number l.self.parents.now l.self.depths.now l.self.darts.now l.self.heights.now) l.k l.lows l.blocks true × ((now : ℕ → List ℕ) × (Holds l.items now × AreItemsLeft (rooted_by edge number l.self.parents.now l.self.depths.now l.self.darts.now l.self.heights.now) l.k now));
}
