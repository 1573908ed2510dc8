use Rattle.std.proofs.Common.{◌≡◌, ℕ, Bool, List, length, slice_index, Contains}
use Rattle.chained_lists.specs.Held.{Holds}
use Rattle.left_right_blocks.specs.Blocks.{Block}
use Rattle.left_right_blocks.specs.States.{IsState}
use Rattle.left_right_sides.specs.Standing.{IsStanding, IsStackOf, IsNext, IsSearchTree}
use Rattle.left_right_sides.specs.Views.{rooted_by, IsAlike, AreFoundTo}
use Rattle.left_right_sides.proofs.Items.{IsPoppedTo}
use Rattle.left_right_sides.proofs.vertex_forks.VertexForks.find_edges.Given as goal

abbrev pub invariant-loop : goal.invariant-loop
invariant-loop l = record {
  alike : IsAlike l.initial.blocks l.blocks;
  numbers : length l.items.next.items ≡ length l.initial.items.next.items;
  popped : (lists0 : ℕ → List ℕ) → Holds l.initial.items lists0 → (lists : ℕ → List ℕ) × IsPoppedTo lists0 l.list lists l.items l.counter;
  found : (edge : ℕ → ℕ → Bool) (number : ℕ → ℕ) (root k : ℕ) (P : ℕ → List Block) (lists0 : ℕ → List ℕ) → IsSearchTree (rooted_by edge number l.self.parents.now l.self.depths.now l.self.darts.now l.self.heights.now) root → IsState l.initial.blocks P → IsStanding (rooted_by edge number l.self.parents.now l.self.depths.now l.self.darts.now l.self.heights.now) k (slice_index l.lows) P l.initial.blocks.ties.items → IsNext (rooted_by edge number l.self.parents.now l.self.depths.now l.self.darts.now l.self.heights.now) k l.v → Holds l.initial.items lists0 → ((p : ℕ) → IsStackOf (rooted_by edge number l.self.parents.now l.self.depths.now l.self.darts.now l.self.heights.now) l.v p → Contains (lists0 l.list) p) → (lists : ℕ → List ℕ) × (IsPoppedTo lists0 l.list lists l.items l.counter × AreFoundTo (rooted_by edge number l.self.parents.now l.self.depths.now l.self.darts.now l.self.heights.now) l.v P l.initial.blocks.ties.items l.blocks l.found.items (lists l.list));
}
