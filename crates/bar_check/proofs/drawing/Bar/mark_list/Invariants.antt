use Rattle.std.proofs.Common.{◌-◌, length}
use Rattle.map_theory.specs.Maps.{list_of}
use Rattle.vertex_rounds.proofs.RoundLemmas.{LeavesFrom, place_at}
use Rattle.bar_check.specs.Tables.{AreClear}
use Rattle.bar_check.proofs.drawing.Bar.mark_list.Given as goal

abbrev pub invariant-round : goal.invariant-round
invariant-round l = record {
  dart : LeavesFrom l.self.drawing.map.now l.self.v.0 l.d.0;
  clear : AreClear l.self.drawing.map.now l.self.drawing.fig.now l.clear;
}

abbrev pub decreases-round : goal.decreases-round
decreases-round l = length (list_of l.self.drawing.map.now.lists l.self.v.0) - place_at l.self.drawing.map.now l.self.v.0 l.d.0
