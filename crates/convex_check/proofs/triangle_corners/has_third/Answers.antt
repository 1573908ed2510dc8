use Rattle.std.proofs.Common.{◌≡◌, refl, sym, subst, inl, inr, arith}
use Rattle.std.proofs.lemmas.Bool.{cases_lt}
use Rattle.std.proofs.lemmas.Int.{ints}
use Rattle.std.proofs.lemmas.List.Elements.{Contains-get_or}
use Rattle.drawings.specs.Corners.{IsOnTriangle}
use Rattle.convex_check.proofs.Points.{point_at, each_point}
use Rattle.convex_check.proofs.ThirdCorner.{third_is}
use Rattle.convex_check.proofs.triangle_corners.has_third.Goals as goal

pub returns-then-not-is_left-clause-no : goal.returns-then-not-is_left-clause-no
returns-then-not-is_left-clause-no c = λ third corners left.
    let far = c.farthest-far.ensures.far third corners.third in
    c.if-not-is_left.ensures.1 (omega (arith, ints))

pub loop-p-preserved : goal.loop-p-preserved
loop-p-preserved c = λ i l.
    let points = c.args.points.now in
    let k = c.loop-p.p-index in
    elim (cases_lt i k) [
      | inl less ↦ c.loop-p.invariant i less
      | inr more ↦
          let same : k ≡ i = omega arith in
          subst (λ j. IsOnTriangle (point_at points j) c.args.a c.args.b c.farthest-far.result) same (c.if-not-has_on_sides.ensures.0 refl)
    ]

pub returns-then-not-has_on_sides-clause-no : goal.returns-then-not-has_on_sides-clause-no
returns-then-not-has_on_sides-clause-no c = λ third corners left.
    let points = c.args.points.now in
    let far = c.farthest-far.result in
    let a = c.args.a in
    let b = c.args.b in
    let p = point_at points c.loop-p.p-index in
    let same : far ≡ third = third_is a b third far left (c.farthest-far.ensures.far third corners.third) (corners.all far c.farthest-far.ensures.on) in
    c.if-not-has_on_sides.ensures.1 (subst (λ z. IsOnTriangle p a b z) (sym same) (corners.all p (Contains-get_or points c.loop-p.p-index _ c.loop-p-test.true)))

pub returns-clause-yes : goal.returns-clause-yes
returns-clause-yes c = λ t.
    let a = c.args.a in
    let b = c.args.b in
    let far = c.farthest-far.result in
    let left = c.if-not-is_left.ensures.0 refl in
    let end = c.loop-p-test.false in (
      a,
      b,
      far,
      record {
        first = c.requires.a;
        second = c.requires.b;
        third = c.farthest-far.ensures.on;
        apart = λ e. omega (arith, ints);
        all = each_point (λ p. IsOnTriangle p a b far) c.args.points.now (λ i l. c.loop-p.invariant i (omega arith));
      },
    )
