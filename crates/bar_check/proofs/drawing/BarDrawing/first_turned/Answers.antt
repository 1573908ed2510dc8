use Rattle.std.proofs.Common.{ℕ, ◌≤◌, length, below_more, rules, arith}
use Rattle.map_theory.specs.Maps.{list_of}
use Rattle.vertex_rounds.proofs.OnceLemmas.{goes_once}
use Rattle.drawings.specs.Bars.{GoesOnceRound}
use Rattle.bar_check.specs.Loops.{Breaks}
use Rattle.bar_check.proofs.TurnLemmas.{turned_or_not}
use Rattle.bar_check.proofs.drawing.BarDrawing.first_turned.Goals as goal

pub loop-v-preserved : goal.loop-v-preserved
loop-v-preserved c =
    let map = c.args.self.now.map.now in
    let fig = c.args.self.now.fig.now in
    let v = c.loop-v.v in
    let ends = turned_or_not map.lists fig v c.turns_once.result (omega (arith, c.n-v-end.ensures.count)) (goes_once map c.args.self.now.map.now.known _ v (Breaks map.lists fig) c.turns_once.result c.turns_once.ensures (λ d live late r s. search rules)) in
    below_more (λ (u : ℕ). 2 ≤ length (list_of map.lists u) → GoesOnceRound map.lists fig u) v c.loop-v.invariant (rw c.if-not-turns_once.false at ends)

pub returns-then-not-turns_once : goal.returns-then-not-turns_once
returns-then-not-turns_once c =
    let map = c.args.self.now.map.now in
    let fig = c.args.self.now.fig.now in
    let v = c.loop-v.v in
    let ends = turned_or_not map.lists fig v c.turns_once.result (omega (arith, c.n-v-end.ensures.count)) (goes_once map c.args.self.now.map.now.known _ v (Breaks map.lists fig) c.turns_once.result c.turns_once.ensures (λ d live late r s. search rules)) in
    record { here = rw c.if-not-turns_once.true at ends; before = λ u l turned. turned.turned (c.loop-v.invariant u l turned.two) }
