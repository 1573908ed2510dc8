use Rattle.std.proofs.Common.{◌≡◌, ◌+◌, ◌≤◌, length, map, vec_capacity}
use Rattle.map_lists.specs.Cuts.{cut, AreCuts}
use Rattle.order_drawings.specs.Rows.{AreRanked}
use Rattle.order_drawings.proofs.order_tables.contour_rows.listed_rows.Given as goal

abbrev pub invariant-loop-k : goal.invariant-loop-k
invariant-loop-k l = record {
  count : length l.ends.items + 2 ≡ l.k;
  room : length l.at ≤ vec_capacity l.ends;
  cuts : AreCuts 0 l.ends.items (length l.entries.items);
  rows : AreRanked l.lists (map (λ v. v.0) l.at) l.ranks (cut 0 l.ends.items l.entries.items);
}
