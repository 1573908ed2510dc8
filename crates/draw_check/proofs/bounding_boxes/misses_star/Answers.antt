use Rattle.std.proofs.lemmas.Bool.{OnTrue_at, OnTrue_from}
use Rattle.draw_check.specs.Spans.{MissesStar}
use Rattle.draw_check.proofs.SpanLemmas.{apart_uncrossed, left_missed, right_missed, missed_back}
use Rattle.draw_check.proofs.bounding_boxes.misses_star.Goals as goal

pub returns-then-is_apart : goal.returns-then-is_apart
returns-then-is_apart c = λ u inside.
    apart_uncrossed c.widened.result c.args.p.point c.args.q.point c.args.r.point u (OnTrue_at c.if-is_apart.true c.is_apart.ensures) c.widened.ensures.point (c.widened.ensures.more u inside)

pub returns-then-is_left_of-2 : goal.returns-then-is_left_of-2
returns-then-is_left_of-2 c = right_missed c.args.extent.span c.args.r.point c.args.p.point c.args.q.point c.if-is_left_of.ensures c.if-is_left_of-2.ensures

pub returns-then-is_left_of-4 : goal.returns-then-is_left_of-4
returns-then-is_left_of-4 c = left_missed c.args.extent.span c.args.r.point c.args.p.point c.args.q.point c.if-is_left_of-3.ensures c.if-is_left_of-4.ensures

pub returns : goal.returns
returns c = OnTrue_from c.is_past-2.result (MissesStar c.args.extent.span c.args.r.point c.args.p.point c.args.q.point) (λ t. missed_back c.args.extent.span c.args.r.point c.args.p.point c.args.q.point (OnTrue_at t c.is_past-2.ensures))
