use Rattle.std.proofs.Common.{◌<◌, subst, length, refl, arith}
use Rattle.std.proofs.lemmas.List.Elements.{All-from_get_or}
use Rattle.std.proofs.lemmas.Bool.{OnTrue_from, OnTrue_at}
use Rattle.rect_check.specs.Axes.{sides}
use Rattle.rect_check.specs.Loops.{AreRanked, HasEachVertex}
use Rattle.rect_check.proofs.SweepLemmas.{AreRanked-from_order, AreLast-none}
use Rattle.rect_check.proofs.RunLemmas.{zero_past}
use Rattle.rect_check.proofs.sweep.Axis.are_ranked.Goals as goal

pub invariant_of-follow_all : goal.invariant_of-follow_all
invariant_of-follow_all c =
    let each = OnTrue_at c.if-not-sort_by_corners.false c.sort_by_corners.ensures.sorted in
    let n = length c.args.self.now.map.now.lists in
    record { vertices = All-from_get_or (λ v. v < n) c.sort_by_corners.new.order 0 (λ i l. let e = each.below i l in omega (arith, e, c.requires.order)) }

pub follow_all-requires-clause-last : goal.follow_all-requires-clause-last
follow_all-requires-clause-last c =
    let a = c.args in
    let n = length a.self.now.map.now.lists in
    let last = c.fill_rows in
    let until = c.fill_rows-2 in
    let put = c.put_interval in
    let room = c.sort_by_corners.new.room in
    let counts = c.sort_by_corners.new.counts in
    let zeros = zero_past last.new.last (length room) last.ensures.size last.ensures.inside in
    AreLast-none a.self.now.map.now.lists a.marks.now (sides a.self.now) a.self.now.spans a.self.now.rows c.sort_by_corners.new.order last.new.last put.new.last until.new.last put.new.until (length until.new.last) refl
    (zero_past until.new.last (length counts) until.ensures.size until.ensures.inside)
    (λ y. put.ensures.entries n y (omega arith) (omega (arith, zeros y)))
    put.ensures.put

pub returns-clause-ranked : goal.returns-clause-ranked
returns-clause-ranked c =
    let a = c.args in
    let marks = c.follow_all.new.marks in
    let order = c.sort_by_corners.new.order in
    let each = subst (λ n. HasEachVertex n order) c.requires.order (OnTrue_at c.if-not-sort_by_corners.false c.sort_by_corners.ensures.sorted) in
    OnTrue_from c.follow_all.result (AreRanked a.self.now.map.now.lists marks (sides a.self.now)) (λ t.
    AreRanked-from_order a.self.now.map.now.lists marks (sides a.self.now) a.self.now.spans a.self.now.rows order each (OnTrue_at t c.follow_all.ensures.follow))
