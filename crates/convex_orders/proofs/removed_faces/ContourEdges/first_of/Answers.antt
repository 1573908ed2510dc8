use Rattle.std.proofs.Common.{◌-◌, ℕ, sym, ◌∙◌, inl, inr, arith}
use Rattle.std.proofs.lemmas.Bool.{cases_lt, true≢false}
use Rattle.convex_orders.proofs.removed_faces.ContourEdges.first_of.Goals as goal

pub returns-then-is_kept : goal.returns-then-is_kept
returns-then-is_kept c = λ first end j e low high run.
    let l = c.loop-k.invariant first end j e low high run in
    let p : ℕ = c.len-from.result - 1 - c.loop-k.k in
    elim (cases_lt p first) [
      | inl less ↦ omega (arith, l, c.loop-k-test.true, c.len-from.ensures)
      | inr most ↦ absurd (true≢false (sym c.if-is_kept.true ∙ (c.is_kept.ensures ∙ run.gone p most (omega (arith, c.loop-k.auto.k, c.len-from.ensures)))))
    ]

pub loop-k-preserved : goal.loop-k-preserved
loop-k-preserved c = λ first end j e low high run.
    let l = c.loop-k.invariant first end j e low high run in
    let p : ℕ = c.len-from.result - 1 - c.loop-k.k in
    elim (cases_lt p first) [
      | inl less ↦ absurd (true≢false (sym (run.low p (omega (arith, l, c.loop-k-test.true, c.len-from.ensures))) ∙ (sym c.is_kept.ensures ∙ c.if-is_kept.false)))
      | inr most ↦ omega (arith, l, c.loop-k-test.true, c.len-from.ensures)
    ]

pub returns : goal.returns
returns c = λ first end j e low high run.
    let l = c.loop-k.invariant first end j e low high run in
    omega (arith, l, c.loop-k-test.false)
