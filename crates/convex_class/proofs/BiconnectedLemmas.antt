-- A biconnected map without separating pairs is three-connected, and a three-connected map breaks no condition.
use Rattle.std.proofs.Common.{ℕ, arith}
use Rattle.map_lists.specs.Lists.{Lists}
use Rattle.map_theory.specs.Maps.{IsPlane}
use Rattle.graph_search.specs.Cuts.{IsSeparatingPair}
use Rattle.refusals.specs.declared.conditions.Refusal.{Refusal}
use Rattle.refusals.specs.declared.conditions.Refusal.TheVariants.{SeparatingPair}
use Rattle.conn_parts.specs.BiconnectedMaps.{IsBiconnectedMap}
use Rattle.conn_parts.specs.Laws.{BiconnectedBreakNothing}
use Rattle.convex_peeling.specs.Polyhedral.{IsThreeConnected}
use Rattle.convex_class.specs.Convexity.{BreaksConvex}

pub IsThreeConnected-biconnected : (lists : Lists) → IsBiconnectedMap 4 lists → ((u v : ℕ) → ¬ IsSeparatingPair lists u v) → IsThreeConnected lists
IsThreeConnected-biconnected lists biconnected unpaired = record { simple = biconnected.simple; some = biconnected.some; connected = biconnected.connected; uncut = biconnected.uncut; unpaired = unpaired }

pub IsBiconnectedMap-three_connected : (lists : Lists) → IsThreeConnected lists → IsPlane lists → IsBiconnectedMap 4 lists
IsBiconnectedMap-three_connected lists three plane = record { simple = three.simple; some = three.some; plane = plane; connected = three.connected; uncut = three.uncut }

pub nothing_broken : BiconnectedBreakNothing → (lists : Lists) (refusal : Refusal) → IsThreeConnected lists → IsPlane lists → ¬ BreaksConvex lists refusal
nothing_broken biconnected_all lists (SeparatingPair u v) three plane broken = three.unpaired u.0 v.0 broken.1.is_pair
nothing_broken biconnected_all lists refusal three plane broken = biconnected_all 4 lists refusal (omega arith) (IsBiconnectedMap-three_connected lists three plane) broken
