use Rattle.std.proofs.Common.{ℕ, List, [], slice_index}
use Rattle.chained_lists.specs.Held.{Holds}
use Rattle.left_right_blocks.specs.Steps.{IsSame, IsPut}
use Rattle.left_right_blocks.proofs.Steps.{PutsTo}
use Rattle.left_right_blocks.proofs.blocks.Blocks.put_more.Given as goal

abbrev pub invariant-loop : goal.invariant-loop
invariant-loop l = record {
  same : IsSame l.initial.self l.self;
  put : (lists0 stacks0 : ℕ → List ℕ) → Holds l.initial.self.lists lists0 → Holds l.initial.self.stacks stacks0 → IsPut (slice_index l.heights) l.initial.self.edges l.fork.low l.fork.into lists0 stacks0 lists0 stacks0 l.first [] → PutsTo (slice_index l.heights) l.initial.self.edges lists0 stacks0 l.first l.fork.low l.fork.into l.self.lists l.self.stacks l.counter;
}
