use Rattle.rect_dual.proofs.Lines.{AreLines-own}
use Rattle.rect_dual.proofs.line_lists.put_own.Goals as goal

pub returns-clause-lines : goal.returns-clause-lines
returns-clause-lines c = λ f q first h placed. AreLines-own f c.args.z q first c.args.lines.now c.args.next.now h c.args.u placed c.requires.z c.requires.size
