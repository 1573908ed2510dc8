use Rattle.std.proofs.Common.{◌≡◌, ℕ, List, length, slice_index}
use Rattle.chained_lists.specs.Held.{Holds}
use Rattle.left_right_blocks.specs.Trims.{AreTied}
use Rattle.left_right_blocks.proofs.Trimming.{TrimsTo}
use Rattle.left_right_blocks.proofs.blocks.Blocks.trim.Given as goal

abbrev pub invariant-loop : goal.invariant-loop
invariant-loop l = record {
  edges : l.self.edges ≡ l.initial.self.edges;
  count : length l.self.stacks.first.items ≡ length l.initial.self.stacks.first.items;
  trimmed : (lists stacks : ℕ → List ℕ) → Holds l.initial.self.lists lists → Holds l.initial.self.stacks stacks → AreTied l.initial.self.edges lists l.initial.self.ties.items → TrimsTo (slice_index l.heights) l.initial.self.edges l.depth l.stack lists stacks l.initial.self.ties.items l.self.lists l.self.stacks l.self.ties.items l.counter;
}
