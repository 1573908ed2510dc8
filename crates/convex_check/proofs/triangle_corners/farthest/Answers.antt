use Rattle.std.proofs.Common.{◌≡◌, ◌≤ℤ◌, Contains, sym, subst, inl, inr, arith}
use Rattle.std.proofs.lemmas.Bool.{cases_lt}
use Rattle.std.proofs.lemmas.Int.{ints}
use Rattle.std.proofs.lemmas.List.Elements.{Contains-get_or}
use Rattle.pg_plane.specs.declared.grid_points.Point.{Point}
use Rattle.pg_plane.specs.Geometry.{area}
use Rattle.convex_check.proofs.Points.{point_at, each_point}
use Rattle.convex_check.proofs.triangle_corners.farthest.Goals as goal

pub loop-p-preserved : goal.loop-p-preserved
loop-p-preserved c =
    let points = c.args.points.now in
    let k = c.loop-p.p-index in
    let a = c.args.a in
    let b = c.args.b in
    record {
      on = elim c.farther-best.ensures.one [
        | inl e ↦ subst (λ (p : Point). Contains points p) (sym e) (Contains-get_or points k _ c.loop-p-test.true)
        | inr e ↦ subst (λ (p : Point). Contains points p) (sym e) c.loop-p.invariant.on
      ];
      far = λ i l. elim (cases_lt i k) [
        | inl less ↦ (let one = c.loop-p.invariant.far i less in let two = c.farther-best.ensures.than_q in omega (arith, ints))
        | inr more ↦
            let same : k ≡ i = omega arith in
            subst (λ j. area a b (point_at points j) ≤ℤ area a b c.farther-best.result) same c.farther-best.ensures.than_p
      ];
    }

pub returns-clause-far : goal.returns-clause-far
returns-clause-far c =
    let end = c.loop-p-test.false in
    each_point (λ p. area c.args.a c.args.b p ≤ℤ area c.args.a c.args.b c.loop-p.best) c.args.points.now (λ i l. c.loop-p.invariant.far i (omega arith))
