use Rattle.std.proofs.Common.{refl}
use Rattle.left_right_lists.proofs.RunLemmas.{block_is}
use Rattle.left_right_lists.proofs.entry_blocks.push_block.Goals as goal

pub returns : goal.returns
returns c = block_is c.args.ds.now c.args.v c.run_end-first.result c.run_end-last.result (c.run_end-first.ensures.at refl) (c.run_end-last.ensures.off refl) c.args.list.now.items c.push_lower_ends.new.list.items c.push.new.self.items c.push_lower_ends-2.new.list.items c.args.u c.in_ok-push_lower_ends.ensures c.in_ok-push.ensures.items c.in_ok-push_lower_ends-2.ensures
