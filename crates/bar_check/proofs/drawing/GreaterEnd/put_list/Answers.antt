use Rattle.std.proofs.Common.{ℕ, ◌+◌, length, sym, ap, subst}
use Rattle.vertex_rounds.proofs.RoundLemmas.{head_at, place_at, place_at-first, place_at-later, LeavesFrom-is, LeavesFrom-later}
use Rattle.bar_check.specs.Tables.{AreFilled, IsFirstMetBad}
use Rattle.bar_check.proofs.TableLemmas.{AreFilled-next, first-next}
use Rattle.bar_check.proofs.Rounds.{fewer_left}
use Rattle.bar_check.proofs.drawing.GreaterEnd.put_list.Goals as goal

pub round-init : goal.round-init
round-init c =
    let map = c.args.self.now.bars.map.now in
    let b = c.args.self.now.b.0 in
    record {
      dart = LeavesFrom-is map b _ c.in-Some.first.0 c.in-Some.ensures.dart;
      filled = subst (λ (k : ℕ). AreFilled map c.args.self.now.bars.fig.now b k c.args.next.now c.args.columns.now) (sym (place_at-first map b c.in-Some.first.0 c.in-Some.ensures.dart)) c.requires.filled;
      found = subst (λ (k : ℕ). IsFirstMetBad map.lists c.args.self.now.bars.fig.now c.args.self.now.bars.width b k c.args.found) (sym (place_at-first map b c.in-Some.first.0 c.in-Some.ensures.dart)) c.requires.found;
    }

pub round-smaller : goal.round-smaller
round-smaller c = fewer_left c.args.self.now.bars.map.now c.args.self.now.bars.map.now.known c.args.self.now.b.0 c.round.d.0 c.in-Some-later_dart.later.0 c.round.invariant.dart c.in-Some-later_dart.ensures

pub round-preserved : goal.round-preserved
round-preserved c =
    let map = c.args.self.now.bars.map.now in
    let b = c.args.self.now.b.0 in
    let d = c.round.d.0 in
    let later = c.in-Some-later_dart.ensures b (head_at map d) c.round.invariant.dart in
    record {
      dart = LeavesFrom-later map b d c.in-Some-later_dart.later.0 later;
      filled = subst (λ (k : ℕ). AreFilled map c.args.self.now.bars.fig.now b k c.put_edge.new.next c.put_edge.new.columns) (sym (place_at-later map b d c.in-Some-later_dart.later.0 later)) c.put_edge.ensures;
      found = subst (λ (k : ℕ). IsFirstMetBad map.lists c.args.self.now.bars.fig.now c.args.self.now.bars.width b k c.with_next-bad.result) (sym (place_at-later map b d c.in-Some-later_dart.later.0 later)) c.with_next-bad.ensures;
    }

pub returns-in-None-clause-filled : goal.returns-in-None-clause-filled
returns-in-None-clause-filled c =
    let map = c.args.self.now.bars.map.now in
    let b = c.args.self.now.b.0 in
    let d = c.round.d.0 in
    AreFilled-next map c.args.self.now.bars.fig.now c.args.self.now.bars.map.now.known b (place_at map b d + 1) c.put_edge.new.next c.put_edge.new.columns c.args.self.now.vertex (c.in-None.ensures b (head_at map d) c.round.invariant.dart) c.put_edge.ensures

pub returns-in-None-clause-found : goal.returns-in-None-clause-found
returns-in-None-clause-found c =
    let map = c.args.self.now.bars.map.now in
    let b = c.args.self.now.b.0 in
    let d = c.round.d.0 in
    first-next map c.args.self.now.bars.fig.now c.args.self.now.bars.map.now.known c.args.self.now.bars.width b (place_at map b d + 1) (c.in-None.ensures b (head_at map d) c.round.invariant.dart) c.with_next-bad.result c.with_next-bad.ensures

pub returns-in_default-clause-filled : goal.returns-in_default-clause-filled
returns-in_default-clause-filled c =
    AreFilled-next c.args.self.now.bars.map.now c.args.self.now.bars.fig.now c.args.self.now.bars.map.now.known c.args.self.now.b.0 0 c.args.next.now c.args.columns.now c.args.self.now.vertex (sym (ap length c.in_default.ensures.dart)) c.requires.filled

pub returns-in_default-clause-found : goal.returns-in_default-clause-found
returns-in_default-clause-found c =
    first-next c.args.self.now.bars.map.now c.args.self.now.bars.fig.now c.args.self.now.bars.map.now.known c.args.self.now.bars.width c.args.self.now.b.0 0 (sym (ap length c.in_default.ensures.dart)) c.args.found c.requires.found
