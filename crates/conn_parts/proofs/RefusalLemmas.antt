-- A biconnected map breaks no condition.
use Rattle.std.proofs.Common.{◌≡◌, ℕ}
use Rattle.std.specs.Prelude.{None}
use Rattle.map_lists.specs.Lists.{Lists}
use Rattle.refusals.specs.Conditions.{first_refusal}
use Rattle.refusals.specs.declared.conditions.Refusal.{Refusal}
use Rattle.refusals.specs.declared.conditions.Refusal.TheVariants.{NotConnected, CutVertex}
use Rattle.conn_parts.specs.BiconnectedMaps.{IsBiconnectedMap, BreaksFirst}

pub nothing_broken : (least : ℕ) (lists : Lists) (refusal : Refusal) → first_refusal least lists ≡ None → IsBiconnectedMap least lists → ¬ BreaksFirst least lists refusal
nothing_broken least lists NotConnected none biconnected h = h.1 biconnected.connected
nothing_broken least lists (CutVertex v) none biconnected h = biconnected.uncut v.0 h.2.is_cut
nothing_broken least lists refusal none biconnected h = absurd (cc)
