use Rattle.std.proofs.Common.{rules}
use Rattle.vertex_rounds.proofs.FirstLemmas.{least_one}
use Rattle.rect_check.specs.Loops.{IsMissed}
use Rattle.rect_check.proofs.PairLemmas.{wrong-from_missed}
use Rattle.rect_check.proofs.rects.Rects.first_missed_with.Goals as goal

pub returns : goal.returns
returns c =
    let map = c.args.self.now.map.now in
    let fig = c.args.self.now.fig.now in
    wrong-from_missed map.lists fig c.args.self.now.map.now.known.simple c.args.u.0 c.requires.vertex c.requires.joined c.least_head.result
    (least_one map c.args.self.now.map.now.known _ (IsMissed map.lists fig) c.args.u.0 c.least_head.result c.least_head.ensures (λ d live late r s. search rules))
