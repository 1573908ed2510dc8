use Rattle.std.proofs.Common.{below_more}
use Rattle.draw_check.proofs.corner_check.Corners.is_round_well.Goals as goal

pub loop-k-preserved : goal.loop-k-preserved
loop-k-preserved c = below_more _ c.loop-k.k c.loop-k.invariant (λ p. rw c.list-list.ensures at c.if-not-is_well-2.ensures)
