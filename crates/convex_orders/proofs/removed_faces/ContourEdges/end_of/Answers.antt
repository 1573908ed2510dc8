use Rattle.std.proofs.Common.{◌≡◌, sym, ap, ◌∙◌, inl, inr, arith}
use Rattle.std.proofs.lemmas.Bool.{cases_lt, true≢false}
use Rattle.convex_orders.specs.Contours.{vertices_of, number_at}
use Rattle.convex_orders.specs.Shown.{is_set}
use Rattle.convex_orders.proofs.removed_faces.ContourEdges.end_of.Goals as goal

pub returns-then-is_kept : goal.returns-then-is_kept
returns-then-is_kept c = λ first end j e low high run.
    let i = c.loop-i.i in
    let l = c.loop-i.invariant first end j e low high run in
    elim (cases_lt i end) [
      | inl less ↦ absurd (true≢false (sym c.if-is_kept.true ∙ (c.is_kept.ensures ∙ run.gone i (omega (arith, c.loop-i.auto.i)) less)))
      | inr most ↦ omega arith
    ]

pub loop-i-preserved : goal.loop-i-preserved
loop-i-preserved c = λ first end j e low high run.
    let i = c.loop-i.i in
    let l = c.loop-i.invariant first end j e low high run in
    elim (cases_lt i end) [
      | inl less ↦ omega arith
      | inr most ↦
          let z : i ≡ end = omega arith in
          absurd (true≢false (sym (ap (λ k. is_set c.args.marks.now (number_at c.args.self.now.inner.now (vertices_of c.args.self.now.contour.now) k)) z ∙ run.high (omega (arith, c.loop-i-test.true, z, c.len-last.ensures))) ∙ (sym c.is_kept.ensures ∙ c.if-is_kept.false)))
    ]

pub returns : goal.returns
returns c = λ first end j e low high run.
    let l = c.loop-i.invariant first end j e low high run in
    omega (arith, l, run.within, c.loop-i-test.false, c.len-last.ensures)
