use Rattle.bar_check.proofs.OverlapLemmas.{none_overlap, valid_bars}
use Rattle.bar_check.proofs.drawing.BarDrawing.first_of_turns.Goals as goal

pub returns-in-Some : goal.returns-in-Some
returns-in-Some c =
    let d = c.args.self.now in (
      d.shape,
      d.heights,
      d.bars,
      d.within,
      c.requires.through,
      none_overlap d.map.now.lists d.fig.now d.heights c.args.self.now.map.now.known.simple d.width d.within c.requires.through,
      c.in-Some.ensures,
    )

pub returns-in-None : goal.returns-in-None
returns-in-None c =
    let d = c.args.self.now in
    valid_bars d.map.now.lists d.fig.now d.width c.args.self.now.map.now.known.simple d.shape d.heights d.bars d.within c.requires.through c.in-None.ensures
