use Rattle.std.proofs.Common.{rules}
use Rattle.bar_check.proofs.ClearLemmas.{HasTops-more}
use Rattle.bar_check.proofs.drawing.Bar.put_top.Goals as goal

pub returns : goal.returns
returns c =
    HasTops-more c.args.self.now.drawing.map.now.lists c.args.self.now.drawing.fig.now c.args.self.now.drawing.heights c.args.self.now.h c.args.self.now.v.0 c.args.tops.now c.fill_between.new.tops c.natural-left.result c.natural-right.result (λ u l. let b = c.args.self.now.drawing.bars u l in (b.left, b.order)) c.args.self.now.stands (search rules) (search rules) c.requires.tops c.fill_between.ensures.size c.fill_between.ensures.inside c.fill_between.ensures.outside
