use Rattle.std.proofs.Common.{pos, ◌≤ℤ◌, arith}
use Rattle.std.proofs.lemmas.Bool.{OnTrue_at, OnTrue_from}
use Rattle.std.proofs.lemmas.Int.{ints}
use Rattle.pg_plane.specs.Geometry.{area}
use Rattle.draw_check.specs.Spans.{MissesStar}
use Rattle.draw_check.proofs.SpanLemmas.{past_missed}
use Rattle.draw_check.proofs.bounding_boxes.is_past.Goals as goal

pub returns-then-is_not_negative : goal.returns-then-is_not_negative
returns-then-is_not_negative c =
    let up = c.is_not_negative.ensures.0 c.if-is_not_negative.true in
    let value = c.area2.ensures in
    let point : pos 0 ≤ℤ area c.args.p.point c.args.q.point c.args.r.point = omega (arith, ints) in
    OnTrue_from c.is_left_of.result (MissesStar c.args.extent.span c.args.r.point c.args.p.point c.args.q.point) (λ t. past_missed c.args.extent.span c.args.r.point c.args.p.point c.args.q.point point (OnTrue_at t c.is_left_of.ensures))
