use Rattle.std.proofs.Common.{ℕ, sym, subst}
use Rattle.vertex_rounds.proofs.RoundLemmas.{place_at-first, LeavesFrom-is}
use Rattle.bar_check.specs.Reach.{HasReach, IsBegun}
use Rattle.bar_check.proofs.Rounds.{fewer_left}
use Rattle.bar_check.proofs.drawing.Bar.begin_edges.Goals as goal

pub round-init : goal.round-init
round-init c =
    let map = c.args.self.now.drawing.map.now in
    let v = c.args.self.now.v.0 in
    record {
      dart = LeavesFrom-is map v _ c.in-Some.first.0 c.in-Some.ensures.dart;
      reach = subst (λ (k : ℕ). HasReach map.lists c.args.self.now.drawing.fig.now (IsBegun map.lists c.args.self.now.drawing.fig.now c.args.self.now.h v k) c.args.peaks.now c.args.blocks.now c.args.superblocks.now) (sym (place_at-first map v c.in-Some.first.0 c.in-Some.ensures.dart)) c.requires.reach;
    }

pub round-smaller : goal.round-smaller
round-smaller c = fewer_left c.args.self.now.drawing.map.now c.args.self.now.drawing.map.now.known c.args.self.now.v.0 c.round.d.0 c.in-Some-later_dart.later.0 c.round.invariant.dart c.in-Some-later_dart.ensures
