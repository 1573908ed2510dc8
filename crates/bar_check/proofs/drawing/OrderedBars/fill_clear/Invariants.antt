use Rattle.std.proofs.Common.{length}
use Rattle.bar_check.specs.Tables.{AreClear, HasTops}
use Rattle.bar_check.proofs.drawing.OrderedBars.fill_clear.Given as goal

abbrev pub invariant-loop-h : goal.invariant-loop-h
invariant-loop-h l = record {
  tops : HasTops (length l.self.drawing.map.now.lists) l.self.drawing.fig.now l.h l.tops;
  clear : AreClear l.self.drawing.map.now l.self.drawing.fig.now l.clear;
}
