use Rattle.std.proofs.Common.{arith}
use Rattle.graph_search.proofs.TableLemmas.{KeepsNumbers-set}
use Rattle.graph_search.proofs.search_forests.search_steps.Search.step.Goals as goal

pub returns-then-place-list-clause-keeps : goal.returns-then-place-list-clause-keeps
returns-then-place-list-clause-keeps c = KeepsNumbers-set c.args.self.now.number.items _ _ c.go_on-place.new.self.count (rw c.go_on-place.ensures.number at c.see.ensures.number) (omega (arith, c.args.self.now.searching.numbers, c.go_on-place.ensures.unseen c.if-place-list.true))
