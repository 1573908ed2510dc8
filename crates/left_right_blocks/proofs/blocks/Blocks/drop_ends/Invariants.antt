use Rattle.std.proofs.Common.{◌≡◌, ◌≢◌, ℕ, List, slice_index}
use Rattle.chained_lists.specs.Held.{Holds}
use Rattle.left_right_blocks.specs.Trims.{AreTied}
use Rattle.left_right_blocks.proofs.Dropping.{DropsTo}
use Rattle.left_right_blocks.proofs.blocks.Blocks.drop_ends.Given as goal

abbrev pub invariant-loop : goal.invariant-loop
invariant-loop l = record {
  edges : l.self.edges ≡ l.initial.self.edges;
  stacks : l.self.stacks ≡ l.initial.self.stacks;
  dropped : (lists : ℕ → List ℕ) → Holds l.initial.self.lists lists → AreTied l.initial.self.edges lists l.initial.self.ties.items → l.one ≢ l.other → DropsTo (slice_index l.heights) l.initial.self.edges l.depth l.one l.other lists l.initial.self.ties.items l.self.lists l.self.ties.items l.counter;
}
