use Rattle.std.proofs.Common.{pos, FitsSigned, w32, to_z-of_z, sym, subst, rules, arith}
use Rattle.std.proofs.lemmas.Int.{ints}
use Rattle.pg_plane.specs.Range.{IsWithin}
use Rattle.draw_check.proofs.SpanLemmas.{within-min, within-max}
use Rattle.draw_check.proofs.bounding_boxes.widened.Goals as goal

pub returns-clause-point : goal.returns-clause-point
returns-clause-point c =
    let left : FitsSigned w32 c.min.result = search rules in let right : FitsSigned w32 c.max.result = search rules in
    let bottom : FitsSigned w32 c.min-2.result = search rules in let top : FitsSigned w32 c.max-2.result = search rules in
    rw (to_z-of_z left, to_z-of_z right, to_z-of_z bottom, to_z-of_z top) (record {
      left = omega (arith, ints, c.min.ensures.other_bound);
      right = omega (arith, ints, c.max.ensures.other_bound);
      bottom = omega (arith, ints, c.min-2.ensures.other_bound);
      top = omega (arith, ints, c.max-2.ensures.other_bound);
    })

pub returns-clause-more : goal.returns-clause-more
returns-clause-more c = λ u inside.
    let left : FitsSigned w32 c.min.result = search rules in let right : FitsSigned w32 c.max.result = search rules in
    let bottom : FitsSigned w32 c.min-2.result = search rules in let top : FitsSigned w32 c.max-2.result = search rules in
    rw (to_z-of_z left, to_z-of_z right, to_z-of_z bottom, to_z-of_z top) (record {
      left = let h = inside.left in omega (arith, ints, c.min.ensures.self_bound);
      right = let h = inside.right in omega (arith, ints, c.max.ensures.self_bound);
      bottom = let h = inside.bottom in omega (arith, ints, c.min-2.ensures.self_bound);
      top = let h = inside.top in omega (arith, ints, c.max-2.ensures.self_bound);
    })

pub returns-clause-range : goal.returns-clause-range
returns-clause-range c =
    let span = c.requires in
    let p = c.args.p.range in
    let n = pos 1048576 in
    let left : FitsSigned w32 c.min.result = search rules in let right : FitsSigned w32 c.max.result = search rules in
    let bottom : FitsSigned w32 c.min-2.result = search rules in let top : FitsSigned w32 c.max-2.result = search rules in
    let l : FitsSigned w32 c.args.span.left = search rules in let r : FitsSigned w32 c.args.span.right = search rules in
    let b : FitsSigned w32 c.args.span.bottom = search rules in let t : FitsSigned w32 c.args.span.top = search rules in
    let x : FitsSigned w32 c.args.p.point.x = search rules in let y : FitsSigned w32 c.args.p.point.y = search rules in
    let left_is = simp to_z-of_z at c.min.ensures.value in let right_is = simp to_z-of_z at c.max.ensures.value in
    let bottom_is = simp to_z-of_z at c.min-2.ensures.value in let top_is = simp to_z-of_z at c.max-2.ensures.value in
    rw (to_z-of_z left, to_z-of_z right, to_z-of_z bottom, to_z-of_z top) (record {
      left = subst (IsWithin n) (sym left_is) (within-min n c.args.span.left c.args.p.point.x span.left p.x);
      right = subst (IsWithin n) (sym right_is) (within-max n c.args.span.right c.args.p.point.x span.right p.x);
      bottom = subst (IsWithin n) (sym bottom_is) (within-min n c.args.span.bottom c.args.p.point.y span.bottom p.y);
      top = subst (IsWithin n) (sym top_is) (within-max n c.args.span.top c.args.p.point.y span.top p.y);
    })
