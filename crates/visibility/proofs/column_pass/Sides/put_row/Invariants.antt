use Rattle.std.proofs.Common.{◌≡◌, ◌+◌, ◌≤◌, ◌&&◌, nat_lt, length, take, count_by}
use Rattle.map_theory.specs.Maps.{list_of}
use Rattle.graph_search.specs.Arcs.{arcs_of}
use Rattle.bipolar.specs.FaceNumbers.{left_rows}
use Rattle.visibility.specs.Spans.{AreFilledTo}
use Rattle.visibility.proofs.SpanLemmas.{IsSpan}
use Rattle.visibility.proofs.column_pass.Sides.put_row.Given as goal

abbrev pub invariant-loop-i : goal.invariant-loop-i
invariant-loop-i l = record {
  few : l.down ≤ l.i;
  count : count_by (λ u. nat_lt l.b u && nat_lt u (length l.self.lists.now)) (take l.i (list_of l.self.lists.now l.b)) + l.down ≡ l.i;
  filled : AreFilledTo l.self.lists.now (left_rows l.self.lists.now l.self.rank.now l.self.of.now l.self.numbers.now) l.b l.i l.starts l.columns;
  span : IsSpan (arcs_of (left_rows l.self.lists.now l.self.rank.now l.self.of.now l.self.numbers.now) l.b) l.i l.least l.greatest;
}
