use Rattle.std.proofs.Common.{◌-◌, length}
use Rattle.map_theory.specs.Maps.{list_of}
use Rattle.vertex_rounds.proofs.RoundLemmas.{LeavesFrom, place_at}
use Rattle.bar_check.specs.Tables.{AreFilled, IsFirstMetBad}
use Rattle.bar_check.proofs.drawing.GreaterEnd.put_list.Given as goal

abbrev pub invariant-round : goal.invariant-round
invariant-round l = record {
  dart : LeavesFrom l.self.bars.map.now l.self.b.0 l.d.0;
  filled : AreFilled l.self.bars.map.now l.self.bars.fig.now l.self.b.0 (place_at l.self.bars.map.now l.self.b.0 l.d.0) l.next l.columns;
  found : IsFirstMetBad l.self.bars.map.now.lists l.self.bars.fig.now l.self.bars.width l.self.b.0 (place_at l.self.bars.map.now l.self.b.0 l.d.0) l.bad;
}

abbrev pub decreases-round : goal.decreases-round
decreases-round l = length (list_of l.self.bars.map.now.lists l.self.b.0) - place_at l.self.bars.map.now l.self.b.0 l.d.0
