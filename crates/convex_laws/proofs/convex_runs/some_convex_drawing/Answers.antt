use Rattle.convex_laws.proofs.Drawn.{some_convex_drawing_law}
use Rattle.convex_laws.proofs.convex_runs.some_convex_drawing.Goals as goal

pub returns : goal.returns
returns c = some_convex_drawing_law
