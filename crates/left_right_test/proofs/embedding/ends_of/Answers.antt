use Rattle.std.proofs.Common.{ℕ, List, sym, subst, rules, arith}
use Rattle.map_lists.specs.Cuts.{AreCuts}
use Rattle.left_right_test.proofs.EndLemmas.{AreCuts-more}
use Rattle.left_right_test.proofs.embedding.ends_of.Goals as goal

pub loop-vertex-preserved : goal.loop-vertex-preserved
loop-vertex-preserved c =
    let end = c.min-end.result in
    let i = c.loop-vertex.invariant in
    record {
      cuts = subst (λ (ends : List ℕ). AreCuts 0 ends end) (sym c.push_reserved.ensures.items) (AreCuts-more 0 c.loop-vertex.ends.items c.loop-vertex.end end i.cuts (omega (arith, i.low, c.max.ensures, c.min-end.ensures)));
      low = omega (arith, c.min-end.ensures);
      count = search rules;
      most = search rules;
      room = omega (arith, i.room, c.push_reserved.ensures.capacity);
    }

pub push_reserved-requires-2 : goal.push_reserved-requires-2
push_reserved-requires-2 c =
    let i = c.loop-vertex.invariant in omega (arith, i.count, i.most, i.room, c.loop-vertex.ends.ok.0)

pub returns-clause-cuts : goal.returns-clause-cuts
returns-clause-cuts c =
    let i = c.loop-vertex.invariant in
    subst (λ (ends : List ℕ). AreCuts 0 ends c.args.total) (sym c.push_reserved-2.ensures.items) (AreCuts-more 0 c.loop-vertex.ends.items c.loop-vertex.end c.args.total i.cuts i.low)
