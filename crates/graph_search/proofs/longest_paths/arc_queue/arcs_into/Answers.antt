use Rattle.std.proofs.Common.{arith}
use Rattle.std.proofs.lemmas.List.{take_at}
use Rattle.graph_search.proofs.longest_paths.arc_queue.arcs_into.Goals as goal

pub returns-clause-each : goal.returns-clause-each
returns-clause-each c = λ r l. rw (take_at c.count_arcs.new.counts _ c.resize.new.self.len (omega (arith, c.count_arcs.auto.counts, c.deref_mut.ensures.len))) (c.count_arcs.ensures r l)
