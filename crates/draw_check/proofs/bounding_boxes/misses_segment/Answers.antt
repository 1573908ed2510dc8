use Rattle.std.proofs.lemmas.Bool.{OnTrue_at, OnTrue_from}
use Rattle.pg_plane.specs.declared.grid_points.Point.{Point}
use Rattle.pg_plane.specs.Geometry.{IsOnSegment}
use Rattle.draw_check.specs.Spans.{IsIn}
use Rattle.draw_check.proofs.SpanLemmas.{apart_segment, left_segment, right_segment}
use Rattle.draw_check.proofs.bounding_boxes.misses_segment.Goals as goal

pub returns-then-is_apart : goal.returns-then-is_apart
returns-then-is_apart c = λ u. apart_segment c.args.extent.span c.args.p.point c.args.q.point u (OnTrue_at c.if-is_apart.true c.is_apart.ensures)

pub returns-then-is_strictly_left_of : goal.returns-then-is_strictly_left_of
returns-then-is_strictly_left_of c = λ u. left_segment c.args.extent.span c.args.p.point c.args.q.point u (OnTrue_at c.if-is_strictly_left_of.true c.is_strictly_left_of.ensures)

pub returns : goal.returns
returns c =
    OnTrue_from c.is_strictly_left_of-2.result ((u : Point) → IsIn c.args.extent.span u → ¬ IsOnSegment u c.args.p.point c.args.q.point) (λ t u. right_segment c.args.extent.span c.args.p.point c.args.q.point u (OnTrue_at t c.is_strictly_left_of-2.ensures))
