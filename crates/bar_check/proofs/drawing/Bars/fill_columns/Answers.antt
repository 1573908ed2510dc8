use Rattle.std.proofs.Common.{arith}
use Rattle.drawings.proofs.EdgeCounts.{edges_before-none}
use Rattle.bar_check.proofs.TableLemmas.{AreFilled-none, AreColumns-from, first-none, first-from}
use Rattle.bar_check.proofs.drawing.Bars.fill_columns.Goals as goal

pub loop-v-init : goal.loop-v-init
loop-v-init c = record { size = c.requires.vertices; before = edges_before-none c.args.self.now.map.now.lists; few = omega arith; filled = λ a l. absurd (omega arith) }

pub loop-b-init : goal.loop-b-init
loop-b-init c =
    let map = c.args.self.now.map.now in
    record {
      filled = AreFilled-none map c.args.self.now.fig.now c.args.self.now.map.now.known c.loop-v.next c.args.columns.now c.loop-v.invariant.size (λ a l. c.loop-v.invariant.filled a (omega (arith, l, c.loop-v-test.false, c.n-v-end.ensures.count)));
      found = first-none map c.args.self.now.fig.now c.args.self.now.map.now.known c.args.self.now.width;
    }

pub returns-clause-columns : goal.returns-clause-columns
returns-clause-columns c =
    AreColumns-from c.args.self.now.map.now c.args.self.now.fig.now c.args.self.now.map.now.known c.loop-b.b c.loop-b.next c.loop-b.columns (omega (arith, c.loop-b-test.false, c.n-b-end.ensures.count)) c.loop-b.invariant.filled

pub returns-clause-bad : goal.returns-clause-bad
returns-clause-bad c =
    first-from c.args.self.now.map.now c.args.self.now.fig.now c.args.self.now.map.now.known c.args.self.now.width c.loop-b.b (omega (arith, c.loop-b-test.false, c.n-b-end.ensures.count)) c.loop-b.bad c.loop-b.invariant.found
