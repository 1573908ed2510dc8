use Rattle.rect_dual.proofs.Lines.{AreLines-level}
use Rattle.rect_dual.proofs.line_lists.put_level.Goals as goal

pub returns-clause-lines : goal.returns-clause-lines
returns-clause-lines c = λ f q first next h placed. AreLines-level f c.args.z q first c.args.lines.now next h c.args.u placed c.requires.z
