-- A map that is not connected has no outer face.
use Rattle.std.proofs.Common.{◌∙◌}
use Rattle.figure_verdicts.proofs.drawing_verdicts.MapDrawing.faultless_verdict.Goals as goal

pub returns-else-self-eq1 : goal.returns-else-self-eq1
returns-else-self-eq1 c = λ width height valid. (valid, λ one. absurd (c.if-self-eq1.false (c.args.self.now.counted.c ∙ one)))
