use Rattle.std.proofs.Common.{◌<◌, ℕ, List, ap, ◌∙◌, subst, arith, length, slice_index}
use Rattle.chained_lists.specs.Held.{Holds}
use Rattle.chained_lists.specs.declared.ChainedLists.{ChainedLists}
use Rattle.left_right_blocks.specs.Trims.{AreTied, AreBlockDropped}
use Rattle.left_right_blocks.proofs.Trimming.{trims_none, trims_some, trims_step, trims_full, popped_first}
use Rattle.left_right_blocks.proofs.blocks.Blocks.trim.Goals as goal

pub returns-in_default-clause-trimmed : goal.returns-in_default-clause-trimmed
returns-in_default-clause-trimmed c = λ lists stacks low a b tied part.
    trims_none (slice_index c.args.heights.now) c.args.self.now.edges c.args.depth c.args.stack lists stacks c.args.self.now.ties.items b.apart (λ q x k. subst (λ z. x < z) c.args.self.now.stacks_of (b.within q x k)) low c.loop.counter c.loop.self.lists c.loop.self.stacks c.loop.self.ties.items part c.in_default.ensures.first (c.loop.invariant.trimmed lists stacks a b tied)

pub returns-then-branch-clause-trimmed : goal.returns-then-branch-clause-trimmed
returns-then-branch-clause-trimmed c = λ lists stacks low a b tied part.
    let height = slice_index c.args.heights.now in
    let dropped = subst (λ k. (ls : ℕ → List ℕ) → Holds c.loop.self.lists ls → AreTied k ls c.loop.self.ties.items → c.in-Some.b < k → AreBlockDropped height k c.args.depth c.in-Some.b ls c.drop_block.new.self.lists c.loop.self.ties.items c.drop_block.new.self.ties.items c.in_ok-drop_block.field-0) c.loop.invariant.edges c.in_ok-drop_block.ensures.dropped in
    trims_some height c.args.self.now.edges c.args.depth c.args.stack lists stacks c.args.self.now.ties.items b.apart (λ q x k. subst (λ z. x < z) c.args.self.now.stacks_of (b.within q x k)) c.loop.counter c.in-Some.b c.loop.self.lists c.drop_block.new.self.lists c.loop.self.stacks c.loop.self.ties.items c.drop_block.new.self.ties.items c.in_ok-drop_block.field-0 c.in-Some.ensures.first dropped (c.loop.invariant.trimmed lists stacks a b tied) c.if-branch.true low c.drop_block.new.self.stacks c.in_ok-drop_block.ensures.stacks part

pub loop-preserved : goal.loop-preserved
loop-preserved c =
    let height = slice_index c.args.heights.now in
    record {
      edges = c.in_ok-drop_block.ensures.edges ∙ c.loop.invariant.edges;
      count = c.pop.ensures.count ∙ (ap (λ (z : ChainedLists). length z.first.items) c.in_ok-drop_block.ensures.stacks ∙ c.loop.invariant.count);
      trimmed = λ lists stacks a b tied.
          let dropped = subst (λ k. (ls : ℕ → List ℕ) → Holds c.loop.self.lists ls → AreTied k ls c.loop.self.ties.items → c.in-Some.b < k → AreBlockDropped height k c.args.depth c.in-Some.b ls c.drop_block.new.self.lists c.loop.self.ties.items c.drop_block.new.self.ties.items c.in_ok-drop_block.field-0) c.loop.invariant.edges c.in_ok-drop_block.ensures.dropped in
          trims_step height c.args.self.now.edges c.args.depth c.args.stack lists stacks c.args.self.now.ties.items b.apart (λ q x k. subst (λ z. x < z) c.args.self.now.stacks_of (b.within q x k)) c.loop.counter c.in-Some.b c.loop.self.lists c.drop_block.new.self.lists c.loop.self.stacks c.loop.self.ties.items c.drop_block.new.self.ties.items c.in_ok-drop_block.field-0 c.in-Some.ensures.first dropped (c.loop.invariant.trimmed lists stacks a b tied) c.if-branch.false c.drop_block.new.self.stacks c.pop.new.self c.in-Some.b c.in_ok-drop_block.ensures.stacks
          (λ ss h. popped_first c.pop.new.self ss c.args.stack c.in-Some.b c.pop.result (c.pop.ensures.popped ss h) (c.in-Some.ensures.first ss (subst (λ (z : ChainedLists). Holds z ss) c.in_ok-drop_block.ensures.stacks h)));
    }

pub returns-clause-trimmed : goal.returns-clause-trimmed
returns-clause-trimmed c = λ lists stacks low a b tied part.
    trims_full (slice_index c.args.heights.now) c.args.self.now.edges c.args.depth c.args.stack lists stacks c.args.self.now.ties.items b.apart (λ q x k. subst (λ z. x < z) c.args.self.now.stacks_of (b.within q x k)) low c.loop.counter c.loop.self.lists c.loop.self.stacks c.loop.self.ties.items (omega (arith, c.loop-test.false)) part (c.loop.invariant.trimmed lists stacks a b tied)
