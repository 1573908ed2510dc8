-- Numberings of two isolated vertices that wrong bodies would give.
use Rattle.std.proofs.Common.{ℕ, List, [], ◌∷◌, arith}
use Rattle.classes.specs.Classes.{merge}
use Rattle.map_theory.specs.Maps.{component_count}
use Rattle.conn_parts.specs.Parts.{ArePartsOf}

-- one component for all vertices
one_component_for_all : (numbers : List ℕ) → ArePartsOf ([] ∷ [] ∷ []) (record { count = 1; numbers = numbers }) → ⊥
unfolding component_count merge
one_component_for_all numbers p = omega (arith, p.count)
