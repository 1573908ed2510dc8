use Rattle.convex_draw.proofs.convex_figures.drawer.ConvexDrawer.figure.Goals as goal

pub returns-in-Some-clause-figure : goal.returns-in-Some-clause-figure
returns-in-Some-clause-figure c = (c.in_ok-found.ensures c.in-Some.figure c.in-Some.is).2

pub returns-in-Some-clause-plane : goal.returns-in-Some-clause-plane
returns-in-Some-clause-plane c = (c.in_ok-found.ensures c.in-Some.figure c.in-Some.is).0

pub returns-in-Some-clause-served : goal.returns-in-Some-clause-served
returns-in-Some-clause-served c = (c.in_ok-found.ensures c.in-Some.figure c.in-Some.is).1
