use Rattle.std.proofs.Common.{◌≡◌, length}
use Rattle.pigale_c.specs.ManyMaps.{AreDrawnTo}
use Rattle.pigale_c.proofs.ManyLemmas.{AreLong}
use Rattle.pigale_c.proofs.many_maps.draw_each.Given as goal

abbrev pub invariant-loop-i : goal.invariant-loop-i
invariant-loop-i g l =
    AreDrawnTo g.D.GridDrawer.draws l.maps.map_ends.now l.maps.ends.now l.maps.neighbours.now l.fn.x l.fn.y l.x l.y l.fn.statuses l.statuses l.fn.found l.found l.i
    × AreLong l.fn.statuses l.statuses l.fn.found l.found × (length l.x ≡ length l.fn.x) × (length l.y ≡ length l.fn.y)
