-- What is not lent stays.
use Rattle.pigale_c.proofs.ManyLemmas.{changed}
use Rattle.pigale_c.proofs.many_rects.draw_part.Goals as goal

pub returns-clause-x1 : goal.returns-clause-x1
returns-clause-x1 c = changed c.args.part.from c.args.part.to c.args.x1.now c.put_rects.new.x1 c.requires.order c.requires.x1 c.put_rects.auto.x1

pub returns-clause-x2 : goal.returns-clause-x2
returns-clause-x2 c = changed c.args.part.from c.args.part.to c.args.x2.now c.put_rects.new.x2 c.requires.order c.requires.x2 c.put_rects.auto.x2

pub returns-clause-y1 : goal.returns-clause-y1
returns-clause-y1 c = changed c.args.part.from c.args.part.to c.args.y1.now c.put_rects.new.y1 c.requires.order c.requires.y1 c.put_rects.auto.y1

pub returns-clause-y2 : goal.returns-clause-y2
returns-clause-y2 c = changed c.args.part.from c.args.part.to c.args.y2.now c.put_rects.new.y2 c.requires.order c.requires.y2 c.put_rects.auto.y2
