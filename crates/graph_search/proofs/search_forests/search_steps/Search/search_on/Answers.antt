use Rattle.std.proofs.Common.{length, ap, ◌∙◌, arith}
use Rattle.graph_search.proofs.TableLemmas.{KeepsNumbers-chained}
use Rattle.graph_search.proofs.search_forests.search_steps.Search.search_on.Goals as goal

pub loop-self-preserved : goal.loop-self-preserved
loop-self-preserved c =
    let h = c.loop-self.invariant in
    let s = c.loop-self.self in
    record {
      lists = c.step.ensures.lists ∙ h.lists;
      keeps = KeepsNumbers-chained c.args.self.now.number.items s.number.items c.step.new.self.number.items (omega (arith, s.searching.numbers, c.args.self.now.searching.numbers, ap length h.lists)) h.keeps c.step.ensures.keeps;
    }
