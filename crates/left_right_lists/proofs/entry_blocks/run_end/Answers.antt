use Rattle.left_right_lists.proofs.RunLemmas.{run_more, same_true, same_false}
use Rattle.left_right_lists.proofs.entry_blocks.run_end.Goals as goal

pub loop-i-preserved : goal.loop-i-preserved
loop-i-preserved c =
    record {
      at = λ ends. run_more _ c.args.ds.now c.args.from c.loop-i.i (0, 0) c.loop-i-test.true (same_true _ c.args.ends c.if-ds-i.false ends) (c.loop-i.invariant.at ends);
      off = λ ends. run_more _ c.args.ds.now c.args.from c.loop-i.i (0, 0) c.loop-i-test.true (same_false _ c.args.ends c.if-ds-i.false ends) (c.loop-i.invariant.off ends);
    }
