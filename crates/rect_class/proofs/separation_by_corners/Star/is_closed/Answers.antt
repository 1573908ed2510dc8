use Rattle.std.proofs.Common.{get_or, below_more}
use Rattle.map_theory.specs.Maps.{list_of}
use Rattle.rect_class.specs.Corners.{IsClosedOver, ComesBefore}
use Rattle.rect_class.proofs.separation_by_corners.Star.is_closed.Goals as goal

pub loop-k-preserved : goal.loop-k-preserved
loop-k-preserved c =
    let lists = c.args.self.now.lists.now in
    let v = c.args.self.now.v in
    below_more (λ k. ComesBefore c.args.self.now.degrees.now (get_or (list_of lists v) k 0) v → IsClosedOver lists v (get_or (list_of lists v) k 0)) c.loop-k.k c.loop-k.invariant c.if-not-is_closed_over.ensures
