use Rattle.std.proofs.Common.{true≢false, sym, ◌∙◌, arith}
use Rattle.std.proofs.lemmas.Bool.{OnTrue_at}
use Rattle.drawings.specs.Duals.{top_vertex, right_vertex, bottom_vertex}
use Rattle.rect_class.proofs.InnerLemmas.{vertices_of}
use Rattle.rect_class.proofs.CornerLemmas.{uncrossed_frame}
use Rattle.rect_class.proofs.Counted.{IsRectMap-counted}
use Rattle.rect_class.proofs.frame_finder.FrameFinder.frame.Goals as goal

pub has_diagonal-requires-clause-top : goal.has_diagonal-requires-clause-top
has_diagonal-requires-clause-top c =
    let lists = c.args.lists.now in
    let all = vertices_of lists 0 (top_vertex lists) (right_vertex lists) (bottom_vertex lists) c.in-Ok.ensures.simple c.in-Some.ensures.quadrangle in
    omega (arith, all.1, c.in-Some.ensures.top)

pub returns-then-closed : goal.returns-then-closed
returns-then-closed c =
    let lists = c.args.lists.now in
    let counts = c.in-Ok.ensures in
    let frame = c.in-Some.ensures in
    let four = c.in-Some.four in
    let none = uncrossed_frame lists four.top.0 four.right.0 four.bottom.0 frame (λ h. true≢false (sym (c.has_diagonal.ensures.1 h) ∙ c.if-has_diagonal.false)) in
    let full = c.is_full.ensures in
    (IsRectMap-counted lists counts.simple counts.plane (omega (arith, counts.count.c, c.if-count-ne1.false)) (full.large c.if-not-is_full.false) (full.full c.if-not-is_full.false) frame.quadrangle none (OnTrue_at c.if-closed.true c.in_ok-closed.ensures), frame)
