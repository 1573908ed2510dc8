use Rattle.std.proofs.Common.{◌≡◌, ◌+◌, ◌-◌, ℕ, suc, length, sym, ◌∙◌, arith}
use Rattle.convex_orders.specs.Contours.{vertices_of}
use Rattle.convex_orders.proofs.GoneRuns.{gone_run}
use Rattle.convex_orders.proofs.Known.{based, AreInner-known}
use Rattle.convex_orders.proofs.removed_faces.ContourEdges.take_run.Goals as goal

pub first_of-requires : goal.first_of-requires
first_of-requires c = record { long = c.take_at.ensures.long ∙ (c.requires.place (length c.args.self.now.contour.now.left.items - 1) (omega (arith, c.args.self.now.some))).marks_long }

pub end_of-requires : goal.end_of-requires
end_of-requires c = record { long = c.take_at.ensures.long ∙ (c.requires.place (length c.args.self.now.contour.now.left.items - 1) (omega (arith, c.args.self.now.some))).marks_long }

pub returns-clause-goes : goal.returns-clause-goes
returns-clause-goes c = λ alive w r choice.
    let t = c.args.self.now.tables.now in
    let j : ℕ = length c.args.self.now.contour.now.left.items - 1 in
    let e : suc j ≡ length c.args.self.now.contour.now.left.items = omega (arith, c.args.self.now.some) in
    let near = c.take_at.ensures.goes alive w r j e choice in
    let go = near.go in
    let run = gone_run t.lists t.faces.own alive w r go.o (based t).three.simple choice.shown.contour go.off go.contour c.take_at.new.marks (vertices_of c.args.self.now.contour.now) c.args.self.now.inner.now go.marks_are choice.list (AreInner-known _ _ _ _ c.args.self.now.numbered) in
    let a = c.first_of.ensures go.o.first (go.o.first + go.o.vertices + 1) j e near.low near.high run in
    let b = c.end_of.ensures go.o.first (go.o.first + go.o.vertices + 1) j e near.low near.high run in
    record { go = go; first_is = sym a; end_is = sym b }
