-- The bends over the first dart of the first vertex.
use Rattle.std.proofs.Common.{get_or, ap, subst}
use Rattle.std.specs.Prelude.{unwrap_or}
use Rattle.map_theory.specs.Maps.{Dart, list_of}
use Rattle.convex_check.specs.Verdicts.{IsConvexVerdict}
use Rattle.figure_verdicts.proofs.drawing_verdicts.MapDrawing.bend_verdict.Goals as goal

pub returns-in_ok-verdict-in-Some : goal.returns-in_ok-verdict-in-Some
returns-in_ok-verdict-in-Some c =
    let lists = c.args.self.now.map.now.lists in
    let points = c.args.self.now.points.now in
    let dart = c.args.self.now.map.now.known.is_dart c.in-Some.base.0 0 (get_or (list_of lists 0) 0 0) c.in-Some.ensures.dart in
    let base = ap (λ o. unwrap_or o (0, 0)) c.in-Some.ensures.dart in
    c.of_convex.ensures lists points (subst (λ (d : Dart). IsConvexVerdict lists points d c.in_ok-verdict-in-Some.verdict) base c.in_ok-verdict-in-Some.ensures) dart
