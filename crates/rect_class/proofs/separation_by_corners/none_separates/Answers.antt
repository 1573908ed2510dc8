use Rattle.std.proofs.Common.{true≢false, sym, ◌∙◌, arith}
use Rattle.std.specs.Bool.{OnTrue}
use Rattle.std.proofs.lemmas.Bool.{OnTrue_at, OnTrue_from}
use Rattle.std.proofs.lemmas.Result.{IfOk-weaker}
use Rattle.drawings.specs.Duals.{top_vertex, right_vertex, bottom_vertex}
use Rattle.rect_class.specs.RectMaps.{NoneSeparating}
use Rattle.rect_class.specs.Corners.{AreClosed}
use Rattle.rect_class.proofs.InnerLemmas.{vertices_of}
use Rattle.rect_class.proofs.CornerLemmas.{uncrossed_frame, NoneSeparating-closed}
use Rattle.rect_class.proofs.separation_by_corners.none_separates.Goals as goal

pub has_diagonal-requires-clause-top : goal.has_diagonal-requires-clause-top
has_diagonal-requires-clause-top c =
    let lists = c.args.lists.now in
    let all = vertices_of lists 0 (top_vertex lists) (right_vertex lists) (bottom_vertex lists) c.requires.simple c.requires.frame.quadrangle in
    omega (arith, all.1, c.requires.frame.top)

pub returns : goal.returns
returns c =
    let lists = c.args.lists.now in
    let frame = c.requires.frame in
    let four = c.args.four in
    let none = uncrossed_frame lists four.top.0 four.right.0 four.bottom.0 frame (λ h. true≢false (sym (c.has_diagonal.ensures.1 h) ∙ c.if-has_diagonal.false)) in
    IfOk-weaker c.are_closed.result (λ b. OnTrue b (AreClosed lists)) (λ b. OnTrue b (NoneSeparating lists))
    (λ b h. OnTrue_from b (NoneSeparating lists) (λ t. NoneSeparating-closed lists c.requires.simple frame.quadrangle c.requires.faces none (OnTrue_at t h))) c.are_closed.ensures
