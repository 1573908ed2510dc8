-- The verdict on the rectangles of the map, whose lists are those given.
use Rattle.figure_verdicts.proofs.VerdictLemmas.{IsRectsVerdict-drawn}
use Rattle.figure_verdicts.proofs.verdict_by_kind.rects_verdict.Goals as goal

pub returns-in-Ok : goal.returns-in-Ok
returns-in-Ok c =
    IsRectsVerdict-drawn c.args.lists.now c.in-Ok.map.lists c.args.rects.now c.of_rects.result c.in-Ok.ensures.lists c.in-Ok.ensures.simple (c.of_rects.ensures c.in-Ok.map.lists c.args.rects.now c.check_rects.ensures)
