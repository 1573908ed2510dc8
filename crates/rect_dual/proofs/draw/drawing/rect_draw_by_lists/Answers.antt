use Rattle.std.proofs.Common.{◌≡◌, sym, ap, ◌∙◌, subst}
use Rattle.std.specs.Prelude.{IfOk}
use Rattle.std.proofs.lemmas.Result.{IfOk-weaker}
use Rattle.map_lists.specs.Lists.{Lists}
use Rattle.map_theory.specs.Maps.{follows}
use Rattle.drawings.specs.Duals.{HasRects}
use Rattle.rect_orders.specs.Maps.{IsRectMap}
use Rattle.rect_orders.specs.Figures.{IsDualFor}
use Rattle.rect_orders.specs.Labellings.{IsByLabelling}
use Rattle.rect_dual.proofs.Drawn.{by_names}
use Rattle.rect_dual.proofs.draw.drawing.rect_draw_by_lists.Goals as goal

pub framed-requires-clause-class : goal.framed-requires-clause-class
framed-requires-clause-class c =
    let (s, d, p, t, at, class) = c.requires.class in
    let f = c.frame_of.ensures s d p t at class in
    let frame = c.frame_of.result in
    subst (λ (ls : Lists). IsRectMap ls frame.left.0 frame.top.0 frame.right.0 frame.bottom.0) (sym c.requires.lists)
    (by_names (IsRectMap c.args.map.now.lists) s frame.left.0 d frame.top.0 p frame.right.0 t frame.bottom.0 (sym f.left_is) (sym f.top_is) (sym f.right_is) (sym f.bottom_is) class)

pub framed-requires-clause-inner : goal.framed-requires-clause-inner
framed-requires-clause-inner c =
    let (s, d, p, t, at, class) = c.requires.class in
    let f = c.frame_of.ensures s d p t at class in
    let lists = c.args.map.now.lists in
    let frame = c.frame_of.result in
    subst (λ (ls : Lists). frame.inner.0 ≡ follows ls frame.bottom.0 frame.left.0) (sym c.requires.lists)
    (f.inner_is ∙ (ap (λ u. follows lists u s) (sym f.bottom_is) ∙ ap (follows lists frame.bottom.0) (sym f.left_is)))

pub returns-clause-rects : goal.returns-clause-rects
returns-clause-rects c = subst (λ (ls : Lists). IfOk c.framed.result (HasRects ls)) c.requires.lists c.framed.ensures.rects

pub returns-clause-dual : goal.returns-clause-dual
returns-clause-dual c =
    let frame = c.frame_of.result in
    IfOk-weaker c.framed.result _ _
    (λ fig dual s d p t at class.
    let f = c.frame_of.ensures s d p t at class in
    by_names (λ s d p t. IsDualFor c.args.map.now.lists s d p t fig) frame.left.0 s frame.top.0 d frame.right.0 p frame.bottom.0 t f.left_is f.top_is f.right_is f.bottom_is dual)
    (subst (λ (ls : Lists). IfOk c.framed.result (IsDualFor ls frame.left.0 frame.top.0 frame.right.0 frame.bottom.0)) c.requires.lists c.framed.ensures.dual)

pub returns-clause-labelling : goal.returns-clause-labelling
returns-clause-labelling c =
    let frame = c.frame_of.result in
    IfOk-weaker c.framed.result _ _
    (λ fig labelling s d p t at class.
    let f = c.frame_of.ensures s d p t at class in
    by_names (λ s d p t. IsByLabelling c.args.map.now.lists s d p t fig) frame.left.0 s frame.top.0 d frame.right.0 p frame.bottom.0 t f.left_is f.top_is f.right_is f.bottom_is labelling)
    (subst (λ (ls : Lists). IfOk c.framed.result (IsByLabelling ls frame.left.0 frame.top.0 frame.right.0 frame.bottom.0)) c.requires.lists c.framed.ensures.labelling)
