-- By the kind of the figure.
use Rattle.figure_verdicts.proofs.verdict_by_kind.figure_verdict.Goals as goal

pub returns-in-Grid : goal.returns-in-Grid
returns-in-Grid c = rw c.in-Grid.is c.grid_verdict.ensures

pub returns-in-Rects : goal.returns-in-Rects
returns-in-Rects c = rw c.in-Rects.is c.rects_verdict.ensures
