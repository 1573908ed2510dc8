use Rattle.std.proofs.Common.{subst}
use Rattle.std.proofs.lemmas.Bool.{OnTrue_from, OnTrue_at}
use Rattle.map_lists.specs.Lists.{Lists}
use Rattle.rect_check.specs.Axes.{sides}
use Rattle.rect_check.specs.Loops.{Sides, across, AreRanked, AreFitting}
use Rattle.rect_check.proofs.SweepLemmas.{AreFitting-from_ranks, AreRanked-kept}
use Rattle.rect_check.proofs.rects.Rects.are_fitting_in.Goals as goal

pub returns-clause-fitting : goal.returns-clause-fitting
returns-clause-fitting c =
    let lists = c.args.self.now.map.now.lists in let fig = c.args.self.now.fig.now in let wide = c.across-across in
    let tall = c.upwards-upwards in let first = c.are_ranked in let last = c.are_ranked-2 in
    let ranked = subst (λ (s : Sides). AreRanked lists first.new.marks s) wide.ensures.sides (subst (λ (ls : Lists). AreRanked ls first.new.marks (sides wide.result)) wide.ensures.map (OnTrue_at c.if-not-are_ranked.false first.ensures.ranked)) in
    OnTrue_from last.result (AreFitting lists last.new.marks fig) (λ t.
    AreFitting-from_ranks lists last.new.marks fig c.args.self.now.map.now.known.simple c.args.self.now.rects (AreRanked-kept lists first.new.marks last.new.marks last.ensures.kept (across fig) ranked)
    (subst (λ (s : Sides). AreRanked lists last.new.marks s) tall.ensures.sides (subst (λ (ls : Lists). AreRanked ls last.new.marks (sides tall.result)) tall.ensures.map (OnTrue_at t last.ensures.ranked))))
