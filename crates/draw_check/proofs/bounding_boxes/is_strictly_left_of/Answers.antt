use Rattle.std.proofs.Common.{◌<ℤ◌, pos, FitsSigned, w64, to_z-of_z, rules, arith}
use Rattle.std.proofs.lemmas.Bool.{OnTrue_from}
use Rattle.std.proofs.lemmas.Int.{ints}
use Rattle.draw_check.specs.Spans.{IsStrictlyLeftOf}
use Rattle.draw_check.proofs.bounding_boxes.is_strictly_left_of.Goals as goal

pub returns : goal.returns
returns c =
    let value = c.area2.result in
    let fits : FitsSigned w64 value = search rules in
    rw (to_z-of_z fits) (OnTrue_from _ (IsStrictlyLeftOf c.args.extent.span c.args.p.point c.args.q.point) (λ t u inside.
    let up : pos 0 <ℤ value = grind (arith, ints) in
    let least = c.far_corner.ensures.least u inside in
    let area = c.area2.ensures in
    omega (arith, ints)))
