use Rattle.std.proofs.Common.{◌≡◌, length}
use Rattle.pigale_c.specs.ManyAnswers.{AreCountedTo}
use Rattle.pigale_c.proofs.ManyLemmas.{AreLong}
use Rattle.pigale_c.proofs.many_counts.count_each.Given as goal

abbrev pub invariant-loop-i : goal.invariant-loop-i
invariant-loop-i l =
    AreCountedTo l.maps.map_ends.now l.maps.ends.now l.maps.neighbours.now l.fn.counts l.counts l.fn.statuses l.statuses l.fn.found l.found l.i
    × AreLong l.fn.statuses l.statuses l.fn.found l.found × (length l.counts ≡ length l.fn.counts)
