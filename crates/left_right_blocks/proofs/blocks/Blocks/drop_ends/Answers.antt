use Rattle.std.proofs.Common.{◌+◌, ◌++◌, ap, ◌∙◌, sym, subst, arith, slice_index}
use Rattle.chained_lists.specs.declared.ChainedLists.{ChainedLists}
use Rattle.left_right_blocks.specs.Trims.{ties_of}
use Rattle.left_right_blocks.proofs.Dropping.{DropsTo, drops_step, drops_full}
use Rattle.left_right_blocks.proofs.blocks.Blocks.drop_ends.Goals as goal

pub loop-preserved : goal.loop-preserved
loop-preserved c =
    let height = slice_index c.args.heights.now in
    let edges = c.args.self.now.edges in
    record {
      edges = c.in_ok-tie.ensures.edges ∙ (c.pop_end.ensures.same.edges ∙ c.loop.invariant.edges);
      stacks = c.in_ok-tie.ensures.stacks ∙ (c.pop_end.ensures.stacks ∙ c.loop.invariant.stacks);
      dropped = λ lists a tied ne.
          subst (λ (z : ChainedLists). DropsTo height edges c.args.depth c.args.one c.args.other lists c.args.self.now.ties.items z c.tie.new.self.ties.items (c.loop.counter + 1)) (sym c.in_ok-tie.ensures.lists)
          (drops_step height edges c.args.depth c.args.one c.args.other lists c.args.self.now.ties.items ne c.loop.self.lists c.pop_end.new.self.lists c.loop.self.ties.items c.tie.new.self.ties.items c.loop.counter c.in-Some.x (c.loop.self.lists_of ∙ c.loop.invariant.edges) c.in-Some.ensures.popped
          (λ ls h. c.in_ok-tie.ensures.tied ls h ∙ ap (λ us. us ++ ties_of c.in-Some.x (ls c.args.one) (ls c.args.other)) c.pop_end.ensures.same.ties)
          (c.loop.invariant.dropped lists a tied ne));
    }

pub returns-clause-dropped : goal.returns-clause-dropped
returns-clause-dropped c = λ lists a tied ne.
    drops_full (slice_index c.args.heights.now) c.args.self.now.edges c.args.depth c.args.one c.args.other lists c.args.self.now.ties.items c.loop.self.lists c.args.self.now.lists c.loop.self.ties.items c.loop.counter a c.args.self.now.lists_of (omega (arith, c.loop-test.false)) (c.loop.invariant.dropped lists a tied ne)
