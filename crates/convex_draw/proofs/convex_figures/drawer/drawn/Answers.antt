use Rattle.std.proofs.Common.{◌≡◌, sym, ap, ◌∙◌, subst}
use Rattle.std.specs.Prelude.{Option, unwrap_or}
use Rattle.pg_plane.specs.declared.figures.GridFigure.{GridFigure}
use Rattle.convex_draw.specs.Figures.{IsConvexFigure}
use Rattle.convex_draw.proofs.FlatNumbers.{full_count, full_plane, full_three}
use Rattle.convex_draw.proofs.convex_figures.drawer.drawn.Goals as goal

pub run_again-requires-clause-plane : goal.run_again-requires-clause-plane
run_again-requires-clause-plane c =
    let r = c.requires in
    let told = c.if-not-has_all.false in
    full_plane c.args.lists.now r.simple r.some r.full (sym c.in_ok-parts.ensures.count ∙ c.has_all.ensures.connected told) c.in_ok-faces.faces.numbers.count c.in_ok-faces.ensures.count (c.has_all.ensures.faces told)

pub run_again-requires-clause-three : goal.run_again-requires-clause-three
run_again-requires-clause-three c =
    let r = c.requires in
    let told = c.if-not-has_all.false in
    full_three c.args.lists.now r.simple r.some r.full (sym c.in_ok-parts.ensures.count ∙ c.has_all.ensures.connected told) c.in_ok-faces.faces.numbers.count c.in_ok-faces.ensures.count (c.has_all.ensures.faces told)

pub run_again-requires-clause-count : goal.run_again-requires-clause-count
run_again-requires-clause-count c =
    let r = c.requires in
    let told = c.if-not-has_all.false in
    full_count c.args.lists.now r.simple r.some r.full (sym c.in_ok-parts.ensures.count ∙ c.has_all.ensures.connected told) c.in_ok-faces.faces.numbers.count c.in_ok-faces.ensures.count (c.has_all.ensures.faces told)

pub returns : goal.returns
returns c = λ figure e.
    let r = c.requires in
    let told = c.if-not-has_all.false in
    let one = sym c.in_ok-parts.ensures.count ∙ c.has_all.ensures.connected told in
    let made : GridFigure = c.in_ok-figure.figure in
    let same : made ≡ figure = ap (λ (o : Option GridFigure). unwrap_or o made) e in (
      full_plane c.args.lists.now r.simple r.some r.full one c.in_ok-faces.faces.numbers.count c.in_ok-faces.ensures.count (c.has_all.ensures.faces told),
      full_three c.args.lists.now r.simple r.some r.full one c.in_ok-faces.faces.numbers.count c.in_ok-faces.ensures.count (c.has_all.ensures.faces told),
      subst (IsConvexFigure c.args.lists.now) same c.in_ok-figure.ensures,
    )
