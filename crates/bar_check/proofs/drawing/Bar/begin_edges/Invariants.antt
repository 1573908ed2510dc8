use Rattle.std.proofs.Common.{◌-◌, length}
use Rattle.map_theory.specs.Maps.{list_of}
use Rattle.vertex_rounds.proofs.RoundLemmas.{LeavesFrom, place_at}
use Rattle.bar_check.specs.Reach.{HasReach, IsBegun}
use Rattle.bar_check.proofs.drawing.Bar.begin_edges.Given as goal

abbrev pub invariant-round : goal.invariant-round
invariant-round l = record {
  dart : LeavesFrom l.self.drawing.map.now l.self.v.0 l.d.0;
  reach : HasReach l.self.drawing.map.now.lists l.self.drawing.fig.now (IsBegun l.self.drawing.map.now.lists l.self.drawing.fig.now l.self.h l.self.v.0 (place_at l.self.drawing.map.now l.self.v.0 l.d.0)) l.peaks l.blocks l.superblocks;
}

abbrev pub decreases-round : goal.decreases-round
decreases-round l = length (list_of l.self.drawing.map.now.lists l.self.v.0) - place_at l.self.drawing.map.now l.self.v.0 l.d.0
