use Rattle.std.proofs.Common.{◌≡◌, w64, FitsSigned, rules, arith}
use Rattle.std.proofs.lemmas.Int.{ints, to_z-of_z}
use Rattle.pg_plane.specs.Geometry.{area}
use Rattle.plane_drawings.specs.Drawing.{place}
use Rattle.draw_check.proofs.drawing.Placed.turns_well.Goals as goal

pub returns-else-is_outer : goal.returns-else-is_outer
returns-else-is_outer c =
    let points = c.args.self.now.points.now in
    let f : FitsSigned w64 c.area2-double.result = search rules in
    let size : c.area2-double.result ≡ area (place points c.args.a.0) (place points c.args.b.0) (place points c.args.c.0) = rw (c.place_at.ensures, c.place_at-2.ensures, c.place_at-3.ensures) at c.area2-double.ensures in
    rw (c.if-is_outer.false, to_z-of_z w64 c.area2-double.result f) (λ t. grind (arith, ints), λ l. grind (arith, ints))
