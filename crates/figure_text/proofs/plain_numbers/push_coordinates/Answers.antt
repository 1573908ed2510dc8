-- One number more.
use Rattle.std.proofs.Common.{rules}
use Rattle.figure_text.proofs.PlainLemmas.{coordinates-more}
use Rattle.figure_text.proofs.plain_numbers.push_coordinates.Goals as goal

pub loop-short-preserved : goal.loop-short-preserved
loop-short-preserved c = coordinates-more c.args.list.now c.loop-short.list _ c.args.line.now c.args.start c.loop-short.at c.in-Some.short c.coordinate.result c.loop-short.invariant c.in-Some.ensures c.coordinate.ensures (search rules)

pub loop-digits-preserved : goal.loop-digits-preserved
loop-digits-preserved c = coordinates-more c.args.list.now c.loop-digits.list _ c.args.line.now c.args.start c.loop-digits.at c.in-Some-coordinate_at.digits c.coordinate-in-Some-coordinate_at.result c.loop-digits.invariant c.in-Some-coordinate_at.ensures c.coordinate-in-Some-coordinate_at.ensures (search rules)
