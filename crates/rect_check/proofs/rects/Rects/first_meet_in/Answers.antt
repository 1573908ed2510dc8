use Rattle.std.proofs.Common.{List, ℕ, ◌≡◌, ◌<◌, length, reverse, subst, ◌∙◌, arith}
use Rattle.std.proofs.lemmas.List.{length-reverse}
use Rattle.std.proofs.lemmas.List.Sorted.{All-permutation}
use Rattle.rect_check.specs.Meets.{LaterAreMarked}
use Rattle.rect_check.proofs.SweepLemmas.{All-below}
use Rattle.rect_check.proofs.MeetLemmas.{MeetsAreMarked-from_passes}
use Rattle.rect_check.proofs.rects.Rects.first_meet_in.Goals as goal

pub mark_later-requires-clause-vertices : goal.mark_later-requires-clause-vertices
mark_later-requires-clause-vertices c =
    All-below (length c.args.self.now.map.now.lists) c.fill_vertices.new.order c.sort_vertices.new.order (c.fill_vertices.ensures.length ∙ c.requires.order) c.fill_vertices.ensures.vertices c.sort_vertices.ensures.same

pub mark_later-requires-2-clause-vertices : goal.mark_later-requires-2-clause-vertices
mark_later-requires-2-clause-vertices c =
    All-permutation (λ (v : ℕ). v < length c.args.self.now.map.now.lists) c.sort_vertices.new.order c.reverse.new.self c.reverse.ensures.permutation
    (All-below (length c.args.self.now.map.now.lists) c.fill_vertices.new.order c.sort_vertices.new.order (c.fill_vertices.ensures.length ∙ c.requires.order) c.fill_vertices.ensures.vertices c.sort_vertices.ensures.same)

pub first_marked_meet-requires-clause-marked : goal.first_marked_meet-requires-clause-marked
first_marked_meet-requires-clause-marked c =
    let lists = c.args.self.now.map.now.lists in
    let fig = c.args.self.now.fig.now in
    let order = c.sort_vertices.new.order in
    let marks = c.mark_later-2.new.marks in
    let count : length c.fill_vertices.new.order ≡ length lists = omega (arith, c.fill_vertices.ensures.length, c.requires.order) in
    let size : length order ≡ length lists = omega (arith, c.sort_vertices.ensures.length, count) in
    let back : LaterAreMarked fig (reverse order) (length (reverse order)) marks = subst (λ (us : List ℕ). LaterAreMarked fig us (length us) marks) c.reverse.ensures.after c.mark_later-2.ensures.later in
    MeetsAreMarked-from_passes lists fig c.fill_vertices.new.order order count c.fill_vertices.ensures.vertices c.sort_vertices.ensures.same size c.mark_later.new.marks marks c.mark_later.ensures.later c.mark_later-2.ensures.kept back (omega (arith, length-reverse order, size))
