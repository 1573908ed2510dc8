use Rattle.std.proofs.Common.{◌≡◌, ◌<◌, true, subst}
use Rattle.map_theory.specs.Maps.{Dart}
use Rattle.vertex_rounds.specs.Rounds.{dart_of}
use Rattle.vertex_rounds.proofs.DartIds.{ends_are, has_dart}
use Rattle.drawings.specs.Duals.{ShareSide}
use Rattle.rect_check.proofs.EdgeLemmas.{missed_is}
use Rattle.rect_check.proofs.rects.Rects.is_missed.Goals as goal

pub returns-then-u-v : goal.returns-then-u-v
returns-then-u-v c =
    let map = c.args.self.now.map.now in let fig = c.args.self.now.fig.now in let d = c.args.d.0 in let r = c.share_side.result in
    let same = ends_are map d c.tail-u.result.0 c.head-v.result.0 c.requires.live c.tail-u.ensures c.head-v.ensures in
    missed_is map.lists fig (dart_of map d).0 (dart_of map d).1 r (has_dart map c.args.self.now.map.now.known d c.requires.live) (subst (λ (x : Dart). x.0 < x.1) same c.if-u-v.true)
    (subst (λ (x : Dart). (r ≡ true → ShareSide fig x.0 x.1) × (ShareSide fig x.0 x.1 → r ≡ true)) same c.share_side.ensures)
