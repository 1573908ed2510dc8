use Rattle.std.proofs.Common.{ℕ, get_or, sym, ap, ◌∙◌, subst, arith, below_more, option_map}
use Rattle.plane_drawings.proofs.FreshLemmas.{head-is, next-is}
use Rattle.std.proofs.lemmas.Bool.{true≢false}
use Rattle.map_theory.specs.Maps.{list_of, follows}
use Rattle.half_edges.specs.Map.{dart_at, next_dart}
use Rattle.euler_faces.proofs.NumberLemmas.{live_from}
use Rattle.fpp_shift.specs.ShiftTreesRows.{BeginsRow}
use Rattle.fpp_shift.proofs.DartLemmas.{BeginsRow-tested, not-none}
use Rattle.fpp_shift.proofs.shift_trees.attachment_intervals.OrderedMap.interval_begin.Goals as goal

pub head_rank-rank_after-requires : goal.head_rank-rank_after-requires
head_rank-rank_after-requires c =
    let map = c.args.self.now.map.now in
    let is = c.loop.invariant.dart (omega arith) in
    let v : ℕ = c.args.v.0 in
    live_from (dart_at map c.next-after.result.0) (v, follows map.lists v (get_or (list_of map.lists v) c.loop.counter 0)) (c.next-after.ensures ∙ ap (option_map (next_dart map.lists)) is)

pub loop-preserved : goal.loop-preserved
loop-preserved c =
    let map = c.args.self.now.map.now in
    let u = get_or (list_of map.lists c.args.v.0) c.loop.counter 0 in
    let is = c.loop.invariant.dart (omega arith) in
    let tested = BeginsRow-tested map c.args.self.now.map.now.known c.args.self.now.ranks.now c.args.k c.args.v.0 u c.loop.d.0 c.next-after.result.0 c.head_rank-rank.result c.head_rank-rank_after.result c.is_end.result is c.head_rank-rank.ensures c.head_rank-rank_after.ensures c.next-after.ensures c.is_end.ensures in
    record {
      dart = λ more. next-is map c.loop.d.0 c.next-after.result.0 c.args.v.0 c.loop.counter c.args.self.now.map.now.known c.requires.vertex more is c.next-after.ensures;
      none = below_more (λ (j : ℕ). ¬ BeginsRow map.lists c.args.self.now.ranks.now c.args.k c.args.v.0 (get_or (list_of map.lists c.args.v.0) j 0)) c.loop.counter c.loop.invariant.none (λ row. true≢false (sym (tested.1 row) ∙ c.if-is_end.false));
    }

pub returns-then-is_end : goal.returns-then-is_end
returns-then-is_end c =
    let map = c.args.self.now.map.now in
    let u = get_or (list_of map.lists c.args.v.0) c.loop.counter 0 in
    let is = c.loop.invariant.dart (omega arith) in
    let tested = BeginsRow-tested map c.args.self.now.map.now.known c.args.self.now.ranks.now c.args.k c.args.v.0 u c.loop.d.0 c.next-after.result.0 c.head_rank-rank.result c.head_rank-rank_after.result c.is_end.result is c.head_rank-rank.ensures c.head_rank-rank_after.ensures c.next-after.ensures c.is_end.ensures in
    subst (BeginsRow map.lists c.args.self.now.ranks.now c.args.k c.args.v.0) (head-is map c.loop.d.0 c.args.v.0 u c.head.result.0 is c.head.ensures) (tested.0 c.if-is_end.true)

pub unreachable-requires : goal.unreachable-requires
unreachable-requires c =
    let map = c.args.self.now.map.now in
    let v = c.args.v.0 in
    let b = c.requires.begins in
    not-none (λ (u : ℕ). BeginsRow map.lists c.args.self.now.ranks.now c.args.k v u) (list_of map.lists v) c.loop.counter b.0 (omega arith) b.1.dart.1 b.1 c.loop.invariant.none
