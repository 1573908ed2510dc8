use Rattle.std.proofs.Common.{◌≡◌, ℕ, length, subst, arith}
use Rattle.bar_check.specs.Reach.{IsSwept}
use Rattle.bar_check.proofs.ReachLemmas.{NoneThrough-from}
use Rattle.bar_check.proofs.drawing.OrderedBars.passes_all.Goals as goal

pub returns : goal.returns
returns c =
    let lists = c.args.self.now.drawing.map.now.lists in
    let fig = c.args.self.now.drawing.fig.now in
    let at = c.loop-h in
    let behind = c.loop-h-test.false in
    let end = at.auto.h-end in
    let n = c.n-h-end.ensures.count in
    let all : at.h ≡ length lists = omega (arith, behind, end, n) in
    NoneThrough-from lists fig c.facts.ensures.simple c.args.self.now.drawing.heights at.peaks at.blocks at.superblocks (subst (λ (k : ℕ). IsSwept lists fig k at.peaks at.blocks at.superblocks) all at.invariant)
