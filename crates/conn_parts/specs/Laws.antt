-- A biconnected map breaks no condition.
use Rattle.std.specs.Prelude.{ℕ, ◌<◌, length}
use Rattle.map_lists.specs.Lists.{Lists}
use Rattle.refusals.specs.declared.conditions.Refusal.{Refusal}
use Rattle.conn_parts.specs.BiconnectedMaps.{IsBiconnectedMap, BreaksFirst}

-- Lists of a biconnected map break no condition first.
abbrev pub BiconnectedBreakNothing : Type 0
BiconnectedBreakNothing = (least : ℕ) (lists : Lists) (refusal : Refusal) → 0 < length lists → IsBiconnectedMap least lists → ¬ BreaksFirst least lists refusal
