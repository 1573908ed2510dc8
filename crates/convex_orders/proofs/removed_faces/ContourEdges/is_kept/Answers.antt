use Rattle.std.proofs.Common.{arith}
use Rattle.convex_orders.specs.Contours.{vertices_of}
use Rattle.convex_orders.proofs.CountLemmas.{AreInner-below}
use Rattle.convex_orders.proofs.Known.{AreInner-known}
use Rattle.convex_orders.proofs.removed_faces.ContourEdges.is_kept.Goals as goal

pub bounds-marks-number : goal.bounds-marks-number
bounds-marks-number c =
    let s = c.args.self.now in
    let t = s.tables.now in
    omega (arith, AreInner-below t.lists t.faces.own t.faces.count (vertices_of s.contour.now) s.inner.now t.numbers.own_table (AreInner-known _ _ _ _ s.numbered) c.args.i c.requires.within, c.number.ensures, c.requires.long)
