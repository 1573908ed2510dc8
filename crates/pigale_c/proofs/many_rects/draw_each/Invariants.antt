use Rattle.std.proofs.Common.{◌≡◌, length}
use Rattle.pigale_c.specs.RectArrays.{rects_in}
use Rattle.pigale_c.specs.ManyFigures.{AreRectsTo}
use Rattle.pigale_c.proofs.ManyLemmas.{AreLong}
use Rattle.pigale_c.proofs.many_rects.draw_each.Given as goal

abbrev pub invariant-loop-i : goal.invariant-loop-i
invariant-loop-i l =
    AreRectsTo l.maps.map_ends.now l.maps.ends.now l.maps.neighbours.now (rects_in l.fn.x1 l.fn.x2 l.fn.y1 l.fn.y2) (rects_in l.x1 l.x2 l.y1 l.y2) l.fn.statuses l.statuses l.fn.found l.found l.i
    × AreLong l.fn.statuses l.statuses l.fn.found l.found × (length l.x1 ≡ length l.fn.x1) × (length l.x2 ≡ length l.fn.x2) × (length l.y1 ≡ length l.fn.y1) × (length l.y2 ≡ length l.fn.y2)
