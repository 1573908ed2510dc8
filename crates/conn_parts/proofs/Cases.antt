-- Which condition lists break first, on worked cases.
use Rattle.std.specs.Prelude.{[], ◌∷◌, refl}
use Rattle.std.proofs.Common.{arith}
use Rattle.classes.specs.Classes.{merge}
use Rattle.map_lists.specs.Lists.{Lists}
use Rattle.map_theory.specs.Maps.{entry_after, face_count, component_count}
use Rattle.simple_maps.specs.Faults.{first_fault}
use Rattle.conn_parts.specs.BiconnectedMaps.{BreaksFirst}
use Rattle.refusals.specs.declared.conditions.Refusal.TheVariants.{NotConnected}

abbrev two_triangles : Lists
two_triangles = (1 ∷ 2 ∷ []) ∷ (2 ∷ 0 ∷ []) ∷ (0 ∷ 1 ∷ []) ∷ (4 ∷ 5 ∷ []) ∷ (5 ∷ 3 ∷ []) ∷ (3 ∷ 4 ∷ []) ∷ []

-- two triangles are not connected
apart : BreaksFirst 3 two_triangles NotConnected
unfolding entry_after merge face_count component_count first_fault
apart = (refl, (λ e. omega (arith, e)))
