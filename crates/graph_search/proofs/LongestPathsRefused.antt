-- A number that a wrong body would give.
use Rattle.std.proofs.Common.{[], ◌∷◌, ⊎_elim, arith}
use Rattle.graph_search.specs.Progress.{IsRaised}

-- a greater number lowered to that of a shorter path
shortest_paths : IsRaised (1 ∷ 5 ∷ []) (1 ∷ 2 ∷ []) 0 1 → ⊥
shortest_paths r = ⊎_elim (λ l. omega (arith, l.0)) (λ l. omega (arith, l.1)) r.here
