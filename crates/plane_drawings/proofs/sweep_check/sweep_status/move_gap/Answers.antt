use Rattle.std.proofs.Common.{arith}
use Rattle.plane_drawings.proofs.ListLemmas.{gap_down, gap_up}
use Rattle.plane_drawings.proofs.sweep_check.sweep_status.move_gap.Goals as goal

pub returns-then-place-gap-clause-lines : goal.returns-then-place-gap-clause-lines
returns-then-place-gap-clause-lines c = gap_down c.args.status.now c.args.gap.begin c.args.gap.end c.args.place c.requires.order c.requires.within (omega arith) c.copy_within.new.self c.copy_within.ensures.after

pub returns-else-place-gap-clause-lines : goal.returns-else-place-gap-clause-lines
returns-else-place-gap-clause-lines c = gap_up c.args.status.now c.args.gap.begin c.args.gap.end c.args.place c.requires.order (omega arith) (omega (arith, c.requires.place)) c.copy_within-else-place-gap.new.self c.copy_within-else-place-gap.ensures.after
