use Rattle.bar_check.specs.Reach.{IsSwept}
use Rattle.bar_check.proofs.drawing.OrderedBars.passes_all.Given as goal

abbrev pub invariant-loop-h : goal.invariant-loop-h
invariant-loop-h l = IsSwept l.self.drawing.map.now.lists l.self.drawing.fig.now l.h l.peaks l.blocks l.superblocks
