use Rattle.std.proofs.Common.{arith}
use Rattle.std.proofs.lemmas.List.{take_at}
use Rattle.graph_search.proofs.search_forests.lowpoints.low_points.Goals as goal

pub returns : goal.returns
returns c = rw (take_at c.fill_lows.new.low _ c.in_ok-low.low.len (omega (arith, c.fill_lows.auto.low, c.deref_mut.ensures.len))) c.fill_lows.ensures
