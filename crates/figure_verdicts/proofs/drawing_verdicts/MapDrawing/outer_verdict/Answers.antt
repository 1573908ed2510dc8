-- A connected map without a first dart has no dart.
use Rattle.figure_verdicts.proofs.VerdictLemmas.{no_dart}
use Rattle.figure_verdicts.proofs.drawing_verdicts.MapDrawing.outer_verdict.Goals as goal

pub returns-in-None : goal.returns-in-None
returns-in-None c = λ width height valid. (valid, λ one v u dart other. absurd (no_dart c.args.self.now.map.now.lists c.args.self.now.map.now.known.simple one c.in-None.ensures.dart v u dart))
