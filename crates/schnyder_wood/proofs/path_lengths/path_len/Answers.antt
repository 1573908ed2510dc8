use Rattle.std.proofs.Common.{◌≡◌, ◌+◌, suc, sym, ◌∙◌, subst, arith}
use Rattle.schnyder_wood.specs.Parents.{kind}
use Rattle.schnyder_wood.proofs.Paths.{Climbs, Climbs-more, IsPathLength-root}
use Rattle.schnyder_wood.proofs.path_lengths.path_len.Goals as goal

pub returns-then-at-root : goal.returns-then-at-root
returns-then-at-root c =
    IsPathLength-root c.args.wood.now (kind c.args.colour) c.args.v.0 c.loop-passed.passed c.loop-passed.at.0 c.entry-at.result.0 c.facts.ensures c.loop-passed.invariant c.entry-at.ensures (c.loop-passed.passed + 2)
    (omega (arith, c.root-root.ensures)) (omega arith)

pub loop-passed-preserved : goal.loop-passed-preserved
loop-passed-preserved c =
    let e : suc c.loop-passed.passed ≡ c.loop-passed.passed + 1 = omega arith in
    subst (λ d. Climbs c.args.wood.now (kind c.args.colour) c.args.v.0 d c.entry-at.result.0) e
    (Climbs-more c.args.wood.now (kind c.args.colour) c.args.v.0 c.loop-passed.passed c.loop-passed.at.0 c.entry-at.result.0 c.facts.ensures c.loop-passed.invariant c.entry-at.ensures (λ e. c.if-at-root.false (e ∙ sym c.root-root.ensures)))
