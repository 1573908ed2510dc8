use Rattle.std.proofs.Common.{ap, ◌∙◌, sym, arith}
use Rattle.std.proofs.lemmas.Bool.{true≢false}
use Rattle.order_drawings.specs.Rows.{rank_at}
use Rattle.order_drawings.proofs.RowLemmas.{IsPartPut-none, IsPartPut-more, IsRowPut-ended, last_by_ranks}
use Rattle.order_drawings.proofs.order_tables.ranked_lists.RankedList.put_row.Goals as goal

pub loop-count-init : goal.loop-count-init
loop-count-init c = record {
  place = c.requires.start;
  rank_is = c.rank-rank.ensures;
  put = IsPartPut-none c.args.self.now.list.now c.args.self.now.ranks.now c.args.self.now.k c.args.start c.args.entries.now.items;
  room = let room = c.requires.room in omega arith;
}

pub push_reserved-requires : goal.push_reserved-requires
push_reserved-requires c =
    let room = c.loop-count.invariant.room in
    let test = c.loop-count-test.true in
    omega arith

pub loop-count-preserved : goal.loop-count-preserved
loop-count-preserved c =
    let h = c.loop-count.invariant in
    let next = c.rank-next.ensures ∙ ap (rank_at c.args.self.now.list.now c.args.self.now.ranks.now) c.before-place.ensures.place in
    let iff = last_by_ranks c.args.self.now.list.now c.args.self.now.ranks.now c.args.self.now.k c.loop-count.i c.loop-count.rank c.rank-next.result h.rank_is next in
    record {
      place = c.before-place.ensures.within;
      rank_is = c.rank-next.ensures;
      put = IsPartPut-more c.args.self.now.list.now c.args.self.now.ranks.now c.args.self.now.k c.args.start c.loop-count._count c.loop-count.i c.args.entries.now.items c.loop-count.entries.items c.push_reserved.new.self.items h.put c.loop-count.rank h.rank_is c.push_reserved.ensures.items
          c.before-place.result c.before-place.ensures.place (λ last. true≢false (sym (c.is_last.ensures.1 (iff.1 last)) ∙ c.if-is_last.false));
      room =
          let room = h.room in
          let test = c.loop-count-test.true in
          omega (arith, c.push_reserved.ensures.len, c.push_reserved.ensures.capacity);
    }

pub returns-then-is_last : goal.returns-then-is_last
returns-then-is_last c =
    let h = c.loop-count.invariant in
    let next = c.rank-next.ensures ∙ ap (rank_at c.args.self.now.list.now c.args.self.now.ranks.now) c.before-place.ensures.place in
    let iff = last_by_ranks c.args.self.now.list.now c.args.self.now.ranks.now c.args.self.now.k c.loop-count.i c.loop-count.rank c.rank-next.result h.rank_is next in
    IsRowPut-ended c.args.self.now.list.now c.args.self.now.ranks.now c.args.self.now.k c.args.start c.loop-count._count c.loop-count.i c.args.entries.now.items c.loop-count.entries.items c.push_reserved.new.self.items h.put c.loop-count.rank h.rank_is c.push_reserved.ensures.items
    (iff.0 (c.is_last.ensures.0 c.if-is_last.true))
