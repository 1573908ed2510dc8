use Rattle.std.proofs.Common.{ℕ, get_or, sym, ◌∙◌, subst, arith, below_more}
use Rattle.plane_drawings.proofs.FreshLemmas.{head-is, next-is}
use Rattle.std.proofs.lemmas.Bool.{true≢false}
use Rattle.map_theory.specs.Maps.{list_of}
use Rattle.fpp_shift.specs.ShiftTreesRows.{EndsRow}
use Rattle.fpp_shift.proofs.DartLemmas.{EndsRow-tested, not-none}
use Rattle.fpp_shift.proofs.shift_trees.attachment_intervals.OrderedMap.interval_end.Goals as goal

pub loop-preserved : goal.loop-preserved
loop-preserved c =
    let map = c.args.self.now.map.now in
    let u = get_or (list_of map.lists c.args.v.0) c.loop.counter 0 in
    let is = c.loop.invariant.dart (omega arith) in
    let tested = EndsRow-tested map c.args.self.now.map.now.known c.args.self.now.ranks.now c.args.k c.args.v.0 u c.loop.d.0 c.prev-before.result.0 c.head_rank-rank.result c.head_rank-rank_before.result c.is_end.result is c.head_rank-rank.ensures c.head_rank-rank_before.ensures c.prev-before.ensures.live c.prev-before.ensures.before c.is_end.ensures in
    record {
      dart = λ more. next-is map c.loop.d.0 c.next-d.result.0 c.args.v.0 c.loop.counter c.args.self.now.map.now.known c.requires.vertex more is c.next-d.ensures;
      none = below_more (λ (j : ℕ). ¬ EndsRow map.lists c.args.self.now.ranks.now c.args.k c.args.v.0 (get_or (list_of map.lists c.args.v.0) j 0)) c.loop.counter c.loop.invariant.none (λ row. true≢false (sym (tested.1 row) ∙ c.if-is_end.false));
    }

pub returns-then-is_end : goal.returns-then-is_end
returns-then-is_end c =
    let map = c.args.self.now.map.now in
    let u = get_or (list_of map.lists c.args.v.0) c.loop.counter 0 in
    let is = c.loop.invariant.dart (omega arith) in
    let tested = EndsRow-tested map c.args.self.now.map.now.known c.args.self.now.ranks.now c.args.k c.args.v.0 u c.loop.d.0 c.prev-before.result.0 c.head_rank-rank.result c.head_rank-rank_before.result c.is_end.result is c.head_rank-rank.ensures c.head_rank-rank_before.ensures c.prev-before.ensures.live c.prev-before.ensures.before c.is_end.ensures in
    subst (EndsRow map.lists c.args.self.now.ranks.now c.args.k c.args.v.0) (head-is map c.loop.d.0 c.args.v.0 u c.head.result.0 is c.head.ensures) (tested.0 c.if-is_end.true)

pub unreachable-requires : goal.unreachable-requires
unreachable-requires c =
    let map = c.args.self.now.map.now in
    let v = c.args.v.0 in
    let b = c.requires.ends in
    not-none (λ (u : ℕ). EndsRow map.lists c.args.self.now.ranks.now c.args.k v u) (list_of map.lists v) c.loop.counter b.0 (omega arith) b.1.dart.1 b.1 c.loop.invariant.none
