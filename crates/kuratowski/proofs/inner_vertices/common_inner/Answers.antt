use Rattle.std.proofs.Common.{◌≡◌, ◌+◌, ◌-◌, ◌<◌, ℕ, sym, length, subst, arith, ◌∙◌}
use Rattle.std.proofs.lemmas.Bool.{true≢false}
use Rattle.kuratowski.specs.Faults.{IsInner}
use Rattle.kuratowski.specs.Inner.{IsLeastInner}
use Rattle.kuratowski.proofs.InnerLemmas.{least-skip, least-take, least-pass}
use Rattle.kuratowski.proofs.inner_vertices.common_inner.Goals.{then-is_below+then-is_inner, else-is_below, else-is_below-via-then-is_below+else-is_inner, else-is_below-via-else-is_below}
use Rattle.kuratowski.proofs.inner_vertices.common_inner.Goals as goal

pub loop-i-preserved : goal.loop-i-preserved
loop-i-preserved c =
    let P : ℕ → Type 0 = (IsInner c.args.other.now) in
    let path = c.args.path.now in
    let i = c.loop-i.i in
    let h = c.loop-i.invariant in
    let l : 0 < i = omega arith in
    elim c.if-is_below.branch [
      | then-is_below+then-is_inner w ↦
          subst (IsLeastInner path P (i + 1)) (sym w.least-is) (least-take path P i c.loop-i.least l h (c.is_below.ensures.0 w.if-is_below.true) (w.is_inner.ensures.0 w.if-is_inner.true))
      | else-is_below w ↦
          subst (IsLeastInner path P (i + 1)) (sym w.least-is) (elim w.else-is_below.branch [
            | else-is_below-via-then-is_below+else-is_inner w' ↦
                least-skip path P i c.loop-i.least h (λ p. true≢false (sym (w'.is_inner.ensures.1 p) ∙ w'.if-is_inner.false))
            | else-is_below-via-else-is_below w' ↦
                least-pass path P i c.loop-i.least h (λ p. true≢false (sym (c.is_below.ensures.1 p) ∙ w'.if-is_below.false))
          ])
    ]

pub returns : goal.returns
returns c =
    let e : c.loop-i.i ≡ length c.args.path.now - 1 = omega arith in
    subst (λ i. IsLeastInner c.args.path.now (IsInner c.args.other.now) i c.loop-i.least) e c.loop-i.invariant
