use Rattle.draw_check.proofs.SpanLemmas.{in_joined}
use Rattle.draw_check.proofs.bounding_boxes.joined.Goals as goal

pub returns-clause-second : goal.returns-clause-second
returns-clause-second c = λ u inside.
    in_joined c.widened.result c.args.other c.corner.result.point c.corner-2.result.point u c.corner.ensures.x c.corner.ensures.y c.corner-2.ensures.x c.corner-2.ensures.y
    (c.widened.ensures.more c.corner.result.point c.widened-wide.ensures.point) c.widened.ensures.point inside
