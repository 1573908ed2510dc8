use Rattle.std.proofs.Common.{ℕ, List, take, slice_index}
use Rattle.left_right_blocks.specs.Blocks.{Block}
use Rattle.left_right_blocks.specs.States.{IsState}
use Rattle.left_right_blocks.specs.Steps.{IsSame}
use Rattle.left_right_blocks.specs.Forks.{IsFork, IsGathered}
use Rattle.left_right_blocks.proofs.blocks.Blocks.gather.Given as goal

abbrev pub invariant-loop-i : goal.invariant-loop-i
invariant-loop-i l = record {
  same : IsSame l.fn.self l.self;
  gathered : (P : ℕ → List Block) → IsState l.fn.self P → IsFork (slice_index l.heights) l.into P l.edges → (P' : ℕ → List Block) × (IsState l.self P' × IsGathered (slice_index l.heights) l.into P P' l.fn.self.ties.items (take l.i l.edges));
}
