use Rattle.std.proofs.Common.{ℕ, List, slice_index}
use Rattle.chained_lists.specs.Held.{Holds}
use Rattle.left_right_blocks.specs.Steps.{IsSame, IsTaken}
use Rattle.left_right_blocks.proofs.Steps.{TakesTo}
use Rattle.left_right_blocks.proofs.blocks.Blocks.take_more.Given as goal

abbrev pub invariant-loop : goal.invariant-loop
invariant-loop l = record {
  same : IsSame l.initial.self l.self;
  taken : (lists0 stacks0 lists stacks : ℕ → List ℕ) (ids : List ℕ) → Holds l.initial.self.lists lists → Holds l.initial.self.stacks stacks → IsTaken (slice_index l.heights) l.initial.self.edges l.fork.limit l.fork.from lists0 stacks0 lists stacks l.first ids → TakesTo (slice_index l.heights) l.initial.self.edges lists0 stacks0 l.first l.fork.limit l.fork.from l.self.lists l.self.stacks l.counter;
}
