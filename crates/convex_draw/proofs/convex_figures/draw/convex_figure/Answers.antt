use Rattle.std.proofs.Common.{subst}
use Rattle.std.specs.Prelude.{slice_index}
use Rattle.map_lists.specs.Lists.{Lists}
use Rattle.map_theory.specs.Maps.{list_of}
use Rattle.convex_draw.specs.Figures.{IsConvexFigure}
use Rattle.convex_draw.proofs.FirstDart.{IsConvexFigure-of}
use Rattle.convex_draw.proofs.convex_figures.draw.convex_figure.Goals as goal

pub returns-clause-figure : goal.returns-clause-figure
returns-clause-figure c =
    let lists = c.in_ok-found.found.map.lists in
    subst (λ (ls : Lists). IsConvexFigure ls c.in_ok-figure.figure) c.in_ok-found.ensures.lists
    (IsConvexFigure-of lists c.in_ok-figure.figure (c.in_ok-figure.ensures.grid 0 (slice_index (list_of lists 0) 0) c.first_dart-base.ensures.first))
