use Rattle.std.proofs.Common.{◌+◌, ◌≤◌, ◌≡◌, pos, rules, arith}
use Rattle.std.proofs.lemmas.Bool.{OnTrue_at, OnTrue_from}
use Rattle.std.proofs.lemmas.Int.{ints}
use Rattle.drawings.specs.Bars.{number_at}
use Rattle.bar_check.specs.Reach.{IsSwept}
use Rattle.bar_check.proofs.ReachLemmas.{HasReach-first, IsSwept-more}
use Rattle.bar_check.proofs.drawing.Bar.meets.Goals as goal

pub begin_edges-requires : goal.begin_edges-requires
begin_edges-requires c =
    record { reach = HasReach-first c.args.self.now.drawing.map.now.lists c.args.self.now.drawing.fig.now c.args.self.now.drawing.heights c.args.self.now.h c.args.self.now.v.0 c.args.self.now.stands c.args.peaks.now c.args.blocks.now c.args.superblocks.now c.requires.swept.reach }

pub returns : goal.returns
returns c =
    let lists = c.args.self.now.drawing.map.now.lists in
    let fig = c.args.self.now.drawing.fig.now in
    let h = c.args.self.now.h in
    OnTrue_from c.begin_edges.result (IsSwept lists fig (h + 1) c.begin_edges.new.peaks c.begin_edges.new.blocks c.begin_edges.new.superblocks)
    (λ t. IsSwept-more lists fig c.args.self.now.drawing.heights h c.args.self.now.v.0 c.args.self.now.stands c.args.peaks.now c.begin_edges.new.peaks c.args.blocks.now c.begin_edges.new.blocks c.args.superblocks.now c.begin_edges.new.superblocks (λ u l. let b = c.args.self.now.drawing.bars u l in (b.left, b.order)) c.requires.swept
    (λ k held.
    let from = held.from in
    let to = held.to in
    let left : pos c.natural-left.result ≡ number_at fig.x1 c.args.self.now.v.0 = search rules in
    let right : pos c.natural-right.result ≡ number_at fig.x2 c.args.self.now.v.0 = search rules in
    c.loop-k.invariant k (omega (arith, ints, left, from)) (let less : k ≤ c.natural-right.result = omega (arith, ints, right, to) in omega (arith, less, c.loop-k-test.false))) (OnTrue_at t c.begin_edges.ensures))
