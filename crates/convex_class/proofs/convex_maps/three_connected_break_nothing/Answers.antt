use Rattle.convex_class.proofs.BiconnectedLemmas.{nothing_broken}
use Rattle.convex_class.proofs.convex_maps.three_connected_break_nothing.Goals as goal

pub returns : goal.returns
returns c = nothing_broken c.biconnected_break_nothing.ensures
