use Rattle.std.proofs.Common.{rules}
use Rattle.std.proofs.lemmas.Bool.{OnTrue_at}
use Rattle.draw_check.proofs.SpanLemmas.{AreCorners, apart_uncrossed, apart_missed, ways_missed, ways_missed_back}
use Rattle.draw_check.proofs.bounding_boxes.misses_block.Goals as goal

pub returns-then-are_boxes_apart-clause-star : goal.returns-then-are_boxes_apart-clause-star
returns-then-are_boxes_apart-clause-star c = λ p q first second u inside.
    apart_uncrossed c.widened.result p q c.args.r.point u (OnTrue_at c.if-are_boxes_apart.true c.are_boxes_apart.ensures p q first second) c.widened.ensures.point (c.widened.ensures.more u inside)

pub returns-then-are_boxes_apart-clause-fan : goal.returns-then-are_boxes_apart-clause-fan
returns-then-are_boxes_apart-clause-fan c = λ p first u inside.
    apart_missed c.widened.result c.args.r.point u p c.widened.ensures.point (c.widened.ensures.more u inside) (OnTrue_at c.if-are_boxes_apart.true c.are_boxes_apart.ensures p p first first)

pub returns-then-is_strictly_left_of-4-clause-star : goal.returns-then-is_strictly_left_of-4-clause-star
returns-then-is_strictly_left_of-4-clause-star c =
    let corners : AreCorners c.args.block.span c.corner-low_left.result.point c.corner-low_right.result.point c.corner-high_left.result.point c.corner-high_right.result.point = search rules in
    (ways_missed c.args.extent.span c.args.block.span c.corner-low_left.result.point c.corner-low_right.result.point c.corner-high_left.result.point c.corner-high_right.result.point c.args.r.point corners c.if-is_strictly_left_of.ensures c.if-is_strictly_left_of-2.ensures c.if-is_strictly_left_of-3.ensures c.if-is_strictly_left_of-4.ensures).0

pub returns-then-is_strictly_left_of-4-clause-fan : goal.returns-then-is_strictly_left_of-4-clause-fan
returns-then-is_strictly_left_of-4-clause-fan c =
    let corners : AreCorners c.args.block.span c.corner-low_left.result.point c.corner-low_right.result.point c.corner-high_left.result.point c.corner-high_right.result.point = search rules in
    (ways_missed c.args.extent.span c.args.block.span c.corner-low_left.result.point c.corner-low_right.result.point c.corner-high_left.result.point c.corner-high_right.result.point c.args.r.point corners c.if-is_strictly_left_of.ensures c.if-is_strictly_left_of-2.ensures c.if-is_strictly_left_of-3.ensures c.if-is_strictly_left_of-4.ensures).1

pub returns-then-is_strictly_left_of-8-clause-star : goal.returns-then-is_strictly_left_of-8-clause-star
returns-then-is_strictly_left_of-8-clause-star c =
    let corners : AreCorners c.args.block.span c.corner-low_left.result.point c.corner-low_right.result.point c.corner-high_left.result.point c.corner-high_right.result.point = search rules in
    (ways_missed_back c.args.extent.span c.args.block.span c.corner-low_left.result.point c.corner-low_right.result.point c.corner-high_left.result.point c.corner-high_right.result.point c.args.r.point corners c.if-is_strictly_left_of-5.ensures c.if-is_strictly_left_of-6.ensures c.if-is_strictly_left_of-7.ensures c.if-is_strictly_left_of-8.ensures).0

pub returns-then-is_strictly_left_of-8-clause-fan : goal.returns-then-is_strictly_left_of-8-clause-fan
returns-then-is_strictly_left_of-8-clause-fan c =
    let corners : AreCorners c.args.block.span c.corner-low_left.result.point c.corner-low_right.result.point c.corner-high_left.result.point c.corner-high_right.result.point = search rules in
    (ways_missed_back c.args.extent.span c.args.block.span c.corner-low_left.result.point c.corner-low_right.result.point c.corner-high_left.result.point c.corner-high_right.result.point c.args.r.point corners c.if-is_strictly_left_of-5.ensures c.if-is_strictly_left_of-6.ensures c.if-is_strictly_left_of-7.ensures c.if-is_strictly_left_of-8.ensures).1
