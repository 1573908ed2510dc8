use Rattle.std.proofs.Common.{◌-◌, length, eqb-true, ◌∙◌, arith}
use Rattle.std.proofs.lemmas.List.{get_or_default}
use Rattle.std.proofs.lemmas.Bool.{eqb-false}
use Rattle.convex_orders.specs.Contours.{vertices_of}
use Rattle.convex_orders.proofs.Moves.{length-contour}
use Rattle.convex_orders.proofs.LastRounds.{all_inner, some_other}
use Rattle.convex_orders.proofs.removals.RowTables.is_last.Goals as goal

pub returns-clause-yes : goal.returns-clause-yes
returns-clause-yes c = λ h.
    let t = c.args.tables.now in
    let s = c.args.self.now in
    let counts = c.requires.kept.counts in
    let ws = vertices_of s.contour in
    let read = c.index.ensures ∙ get_or_default s.counts.edges.items c.args.base _ 0 (omega (arith, counts.edges_long, c.requires.base_in)) in
    all_inner t.lists t.faces.own t.faces.count ws s.counts.places.items s.counts.edges.items t.tail t.head c.args.base counts c.requires.base c.requires.base_in (length ws - 1) (omega (arith, length-contour s.contour.left.items s.contour.right.items, c.requires.kept.some)) (omega (arith, read, c.len.ensures, eqb-true _ _ h))

pub returns-clause-no : goal.returns-clause-no
returns-clause-no c = λ h.
    let t = c.args.tables.now in
    let s = c.args.self.now in
    let counts = c.requires.kept.counts in
    let ws = vertices_of s.contour in
    let read = c.index.ensures ∙ get_or_default s.counts.edges.items c.args.base _ 0 (omega (arith, counts.edges_long, c.requires.base_in)) in
    some_other t.lists t.faces.own t.faces.count ws s.counts.places.items s.counts.edges.items t.tail t.head c.args.base counts c.requires.base c.requires.base_in (length ws - 1) (omega (arith, length-contour s.contour.left.items s.contour.right.items, c.requires.kept.some)) (λ e. (eqb-false _ _ h) (omega (arith, e, read, c.len.ensures)))
