use Rattle.std.proofs.Common.{sym, ap, ◌∙◌}
use Rattle.std.proofs.lemmas.Result.{IfOk-weaker}
use Rattle.map_theory.specs.Maps.{follows}
use Rattle.rect_orders.specs.Maps.{IsRectMap}
use Rattle.rect_dual.proofs.Drawn.{by_names}
use Rattle.rect_dual.specs.Labellings.{IsLabellingIn}
use Rattle.rect_dual.proofs.labels.order_labels.edge_labels.Goals as goal

pub framed-requires-clause-class : goal.framed-requires-clause-class
framed-requires-clause-class c =
    let (s, d, p, t, at, class) = c.requires.class in
    let f = c.frame_of.ensures s d p t at class in
    let frame = c.frame_of.result in
    by_names (IsRectMap c.args.map.now.lists) s frame.left.0 d frame.top.0 p frame.right.0 t frame.bottom.0 (sym f.left_is) (sym f.top_is) (sym f.right_is) (sym f.bottom_is) class

pub framed-requires-clause-inner : goal.framed-requires-clause-inner
framed-requires-clause-inner c =
    let (s, d, p, t, at, class) = c.requires.class in
    let f = c.frame_of.ensures s d p t at class in
    let lists = c.args.map.now.lists in
    f.inner_is ∙ (ap (λ u. follows lists u s) (sym f.bottom_is) ∙ ap (follows lists c.frame_of.result.bottom.0) (sym f.left_is))

pub returns-clause-labelling : goal.returns-clause-labelling
returns-clause-labelling c =
    let frame = c.frame_of.result in
    IfOk-weaker c.framed.result _ _
    (λ labels h s d p t at class.
    let f = c.frame_of.ensures s d p t at class in
    by_names (λ s d p t. IsLabellingIn c.args.map.now s d p t labels) frame.left.0 s frame.top.0 d frame.right.0 p frame.bottom.0 t f.left_is f.top_is f.right_is f.bottom_is h)
    c.framed.ensures.labelling
