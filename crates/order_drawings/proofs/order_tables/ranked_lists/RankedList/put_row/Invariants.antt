use Rattle.std.proofs.Common.{◌≡◌, ◌+◌, ◌-◌, ◌<◌, ◌≤◌, length, vec_len, vec_capacity}
use Rattle.order_drawings.specs.Rows.{rank_at}
use Rattle.order_drawings.proofs.RowLemmas.{IsPartPut}
use Rattle.order_drawings.proofs.order_tables.ranked_lists.RankedList.put_row.Given as goal

abbrev pub invariant-loop-count : goal.invariant-loop-count
invariant-loop-count l = record {
  place : l.i < length l.self.list.now;
  rank_is : l.rank ≡ rank_at l.self.list.now l.self.ranks.now l.i;
  put : IsPartPut l.self.list.now l.self.ranks.now l.self.k l.start l._count l.i l.initial.entries.items l.entries.items;
  room : vec_len l.entries + (length l.self.list.now - l._count) ≤ vec_capacity l.entries;
}
