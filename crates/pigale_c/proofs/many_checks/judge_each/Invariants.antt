use Rattle.pigale_c.specs.ManyAnswers.{AreJudgedTo, drawings_in}
use Rattle.pigale_c.proofs.ManyLemmas.{AreLong}
use Rattle.pigale_c.proofs.many_checks.judge_each.Given as goal

abbrev pub invariant-loop-i : goal.invariant-loop-i
invariant-loop-i l =
    AreJudgedTo l.maps.map_ends.now l.maps.ends.now l.maps.neighbours.now (drawings_in l.drawings.x.now l.drawings.y.now l.drawings.width.now l.drawings.height.now) l.fn.statuses l.statuses l.fn.found l.found l.i
    × AreLong l.fn.statuses l.statuses l.fn.found l.found
