-- What is not lent stays.
use Rattle.pigale_c.proofs.ManyLemmas.{changed}
use Rattle.pigale_c.proofs.many_maps.draw_part.Goals as goal

pub returns-clause-x : goal.returns-clause-x
returns-clause-x g c = changed c.args.part.from c.args.part.to c.args.x.now c.draw.new.x c.requires.order c.requires.x c.draw.auto.x

pub returns-clause-y : goal.returns-clause-y
returns-clause-y g c = changed c.args.part.from c.args.part.to c.args.y.now c.draw.new.y c.requires.order c.requires.y c.draw.auto.y
