-- Refusals that wrong bodies would answer.
use Rattle.std.proofs.Common.{[], ◌∷◌, arith}
use Rattle.classes.specs.Classes.{merge}
use Rattle.map_lists.specs.Lists.{Lists}
use Rattle.map_theory.specs.Maps.{component_count}
use Rattle.map_lists.specs.declared.ids.VertexId.{VertexId}
use Rattle.conn_parts.specs.BiconnectedMaps.{IsBiconnectedMap, BreaksFirst}
use Rattle.refusals.specs.declared.conditions.Refusal.TheVariants.{CutVertex}

-- two paths of three vertices each
abbrev two_paths : Lists
two_paths = (1 ∷ []) ∷ (0 ∷ 2 ∷ []) ∷ (1 ∷ []) ∷ (4 ∷ []) ∷ (3 ∷ 5 ∷ []) ∷ (4 ∷ []) ∷ []

-- a cut vertex named where the lists have two components
cut_vertex_before_components : (v : VertexId) → BreaksFirst 3 two_paths (CutVertex v) → ⊥
unfolding component_count merge
cut_vertex_before_components v b = omega (arith, b.1)

-- lists of two components taken
two_components_are_one : IsBiconnectedMap 2 ([] ∷ [] ∷ []) → ⊥
unfolding component_count merge
two_components_are_one b = omega (arith, b.connected)
