use Rattle.std.proofs.Common.{◌≡◌, length}
use Rattle.pigale_c.specs.BarArrays.{bars_in}
use Rattle.pigale_c.specs.ManyFigures.{AreBarsTo}
use Rattle.pigale_c.proofs.ManyLemmas.{AreLong}
use Rattle.pigale_c.proofs.many_bars.draw_each.Given as goal

abbrev pub invariant-loop-i : goal.invariant-loop-i
invariant-loop-i l =
    AreBarsTo l.maps.map_ends.now l.maps.ends.now l.maps.neighbours.now (bars_in l.fn.y l.fn.x1 l.fn.x2 l.fn.column) (bars_in l.y l.x1 l.x2 l.column) l.fn.statuses l.statuses l.fn.found l.found l.i
    × AreLong l.fn.statuses l.statuses l.fn.found l.found × (length l.y ≡ length l.fn.y) × (length l.x1 ≡ length l.fn.x1) × (length l.x2 ≡ length l.fn.x2) × (length l.column ≡ length l.fn.column)
