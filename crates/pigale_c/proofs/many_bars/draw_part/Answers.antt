-- What is not lent stays.
use Rattle.pigale_c.proofs.ManyLemmas.{changed}
use Rattle.pigale_c.proofs.many_bars.draw_part.Goals as goal

pub returns-clause-y : goal.returns-clause-y
returns-clause-y c = changed c.args.parts.bars.from c.args.parts.bars.to c.args.y.now c.put_bars.new.y c.requires.bars c.requires.y c.put_bars.auto.y

pub returns-clause-x1 : goal.returns-clause-x1
returns-clause-x1 c = changed c.args.parts.bars.from c.args.parts.bars.to c.args.x1.now c.put_bars.new.x1 c.requires.bars c.requires.x1 c.put_bars.auto.x1

pub returns-clause-x2 : goal.returns-clause-x2
returns-clause-x2 c = changed c.args.parts.bars.from c.args.parts.bars.to c.args.x2.now c.put_bars.new.x2 c.requires.bars c.requires.x2 c.put_bars.auto.x2

pub returns-clause-column : goal.returns-clause-column
returns-clause-column c = changed c.args.parts.columns.from c.args.parts.columns.to c.args.column.now c.put_bars.new.column c.requires.columns c.requires.column c.put_bars.auto.column
