-- What is not lent stays.
use Rattle.std.proofs.Common.{sym}
use Rattle.pigale_c.specs.Numbers.{outcome_of}
use Rattle.pigale_c.proofs.ManyLemmas.{changed, part_put}
use Rattle.pigale_c.proofs.ManyGraphLemmas.{embeds_with}
use Rattle.pigale_c.proofs.many_graphs.embed_part.Goals as goal

pub returns-clause-ends : goal.returns-clause-ends
returns-clause-ends c = changed c.args.parts.ends.from c.args.parts.ends.to c.args.ends.now c.put_figure.new.ends c.requires.room c.requires.ends c.put_figure.auto.ends

pub returns-clause-neighbours : goal.returns-clause-neighbours
returns-clause-neighbours c = changed c.args.parts.neighbours.from c.args.parts.neighbours.to c.args.neighbours.now c.put_figure.new.neighbours c.requires.entries c.requires.neighbours c.put_figure.auto.neighbours

pub returns-clause-x : goal.returns-clause-x
returns-clause-x c = changed c.args.parts.points.from c.args.parts.points.to c.args.x.now c.put_figure.new.x c.requires.points c.requires.x c.put_figure.auto.x

pub returns-clause-y : goal.returns-clause-y
returns-clause-y c = changed c.args.parts.points.from c.args.parts.points.to c.args.y.now c.put_figure.new.y c.requires.points c.requires.y c.put_figure.auto.y

pub returns-clause-embeds : goal.returns-clause-embeds
returns-clause-embeds c =
    let parts = c.args.parts in
    embeds_with c.args.given.now.n c.args.given.now.edges.now _ _ _ _ _ _ _ _ _ _ _ _ (outcome_of c.put_figure.result)
    (sym (part_put parts.ends.from parts.ends.to c.args.ends.now c.put_figure.new.ends c.requires.room c.requires.ends c.put_figure.auto.ends))
    (sym (part_put parts.neighbours.from parts.neighbours.to c.args.neighbours.now c.put_figure.new.neighbours c.requires.entries c.requires.neighbours c.put_figure.auto.neighbours))
    (sym (part_put parts.points.from parts.points.to c.args.x.now c.put_figure.new.x c.requires.points c.requires.x c.put_figure.auto.x))
    (sym (part_put parts.points.from parts.points.to c.args.y.now c.put_figure.new.y c.requires.points c.requires.y c.put_figure.auto.y)) c.put_figure.ensures
