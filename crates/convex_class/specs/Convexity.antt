-- The first condition that lists break which are no three-connected map of genus zero.
use Rattle.map_lists.specs.Lists.{Lists}
use Rattle.graph_search.specs.Cuts.{IsLeastPair}
use Rattle.refusals.specs.declared.conditions.Refusal.{Refusal}
use Rattle.refusals.specs.declared.conditions.Refusal.TheVariants.{SeparatingPair}
use Rattle.conn_parts.specs.BiconnectedMaps.{IsBiconnectedMap, BreaksFirst}

-- The condition is the first one that the lists break, of those on biconnected maps, and then of separating pairs.
abbrev pub BreaksConvex : Lists → Refusal → Type 0
BreaksConvex lists (SeparatingPair u v) = IsBiconnectedMap 4 lists × IsLeastPair lists u.0 v.0
BreaksConvex lists refusal = BreaksFirst 4 lists refusal
