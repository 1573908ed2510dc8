use Rattle.vertex_rounds.proofs.RoundLemmas.{head_at, LeavesFrom-later}
use Rattle.bar_check.proofs.Rounds.{fewer_left}
use Rattle.bar_check.proofs.drawing.Bar.mark_list.Goals as goal

pub round-smaller : goal.round-smaller
round-smaller c = fewer_left c.args.self.now.drawing.map.now c.args.self.now.drawing.map.now.known c.args.self.now.v.0 c.round.d.0 c.in-Some-later_dart.later.0 c.round.invariant.dart c.in-Some-later_dart.ensures

pub round-preserved : goal.round-preserved
round-preserved c =
    let map = c.args.self.now.drawing.map.now in
    let v = c.args.self.now.v.0 in
    let d = c.round.d.0 in
    record {
      dart = LeavesFrom-later map v d c.in-Some-later_dart.later.0 (c.in-Some-later_dart.ensures v (head_at map d) c.round.invariant.dart);
      clear = c.mark_if_seen.ensures;
    }
