use Rattle.std.proofs.Common.{arith}
use Rattle.graph_search.proofs.search_forests.searched.Searched.no_child_apart.Goals as goal

pub returns : goal.returns
returns c = λ told v u l low h.
    c.loop-u.invariant v u (let n = h.vertex in omega (arith, c.loop-u-test.false, c.loop-u.auto.u-end)) l low h
