use Rattle.std.proofs.Common.{ℕ, ◌<◌, ◌↔◌, length, below_more}
use Rattle.map_theory.specs.Maps.{HasDart}
use Rattle.drawings.specs.Duals.{ShareSide}
use Rattle.rect_check.proofs.rects.Rects.first_wrong.Goals as goal

pub loop-u-preserved : goal.loop-u-preserved
loop-u-preserved c = λ s v l.
    below_more (λ (s : ℕ). s < v → v < length c.args.self.now.map.now.lists → ShareSide c.args.self.now.fig.now s v ↔ HasDart c.args.self.now.map.now.lists s v) c.loop-u.u (λ s l. c.loop-u.invariant s v l) (c.in_default.ensures v) s l

pub returns-in-Some : goal.returns-in-Some
returns-in-Some c = record {
  before = λ u v l wrong. wrong.wrong (c.loop-u.invariant u v l wrong.order wrong.vertex);
  rest = c.in-Some.ensures;
}
