use Rattle.std.proofs.Common.{rules, append_assoc}
use Rattle.std.proofs.lemmas.Grind.{fold-append}
use Rattle.svg_out.specs.Svg.{bars_body}
use Rattle.svg_out.proofs.EdgeLemmas.{AreBelow-edges}
use Rattle.svg_out.proofs.bars.svg_bars.Goals as goal

pub push_columns-requires-clause-ends : goal.push_columns-requires-clause-ends
push_columns-requires-clause-ends c = search (rules, AreBelow-edges)

pub returns-clause-ok : goal.returns-clause-ok
unfolding bars_body
returns-clause-ok c = search (rules, append_assoc, fold-append)
