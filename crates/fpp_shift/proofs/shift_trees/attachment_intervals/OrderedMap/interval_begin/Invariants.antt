use Rattle.std.proofs.Common.{ℕ, ◌≡◌, ◌<◌, length, get_or, Some}
use Rattle.map_theory.specs.Maps.{list_of}
use Rattle.half_edges.specs.Map.{dart_at}
use Rattle.fpp_shift.specs.ShiftTreesRows.{BeginsRow}
use Rattle.fpp_shift.proofs.shift_trees.attachment_intervals.OrderedMap.interval_begin.Given as goal

abbrev pub invariant-loop : goal.invariant-loop
invariant-loop l = record {
  dart : l.counter < length (list_of l.self.map.now.lists l.fn.v.0) → dart_at l.self.map.now l.d.0 ≡ Some (l.fn.v.0, get_or (list_of l.self.map.now.lists l.fn.v.0) l.counter 0);
  none : (j : ℕ) → j < l.counter → ¬ BeginsRow l.self.map.now.lists l.self.ranks.now l.k l.fn.v.0 (get_or (list_of l.self.map.now.lists l.fn.v.0) j 0);
}
