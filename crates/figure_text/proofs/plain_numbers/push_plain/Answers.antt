-- One vertex more.
use Rattle.std.proofs.Common.{take, ap, ◌∙◌, arith}
use Rattle.std.proofs.lemmas.List.{take_at}
use Rattle.figure_text.proofs.PlainLemmas.{listed-more}
use Rattle.figure_text.proofs.plain_numbers.push_plain.Goals as goal

pub loop-short-preserved : goal.loop-short-preserved
loop-short-preserved c = listed-more c.args.lists.now c.loop-short.lists _ c.args.line.now c.args.start c.loop-short.at c.in-Some.short c.vertex.result c.loop-short.invariant c.in-Some.ensures c.vertex.ensures c.in_ok-append.ensures.ok

pub loop-digits-preserved : goal.loop-digits-preserved
loop-digits-preserved c = listed-more c.args.lists.now c.loop-digits.lists _ c.args.line.now c.args.start c.loop-digits.at c.in-Some-vertex_at.digits c.vertex-in-Some-vertex_at.result c.loop-digits.invariant c.in-Some-vertex_at.ensures c.vertex-in-Some-vertex_at.ensures c.in_ok-append-2.ensures.ok

pub returns-clause-bad : goal.returns-clause-bad
returns-clause-bad c = λ _. c.truncate.ensures ∙ ap (take c.len-before.result) c.loop-digits.invariant.is ∙ take_at c.args.lists.now _ c.len-before.result (omega (arith, c.len-before.ensures))
