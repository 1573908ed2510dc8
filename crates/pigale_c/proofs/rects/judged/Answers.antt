-- The map and the rectangles are those of the arrays.
use Rattle.pigale_c.proofs.rects.judged.Goals as goal

pub returns : goal.returns
returns c = (
  record { map = c.in_ok-lists.ensures.given; rects = c.are_for.ensures.0 c.if-not-are_for.false },
  rw c.in_ok-lists.ensures.lists at c.in_ok-map.ensures.simple,
  rw (c.in_ok-map.ensures.lists, c.in_ok-lists.ensures.lists, c.in_ok-fig.ensures) at c.check_rects-verdict.ensures,
)
