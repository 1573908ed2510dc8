use Rattle.std.proofs.Common.{◌≡◌, [], ◌∷◌, ◌-◌, ◌≤◌}
use Rattle.std.specs.Prelude.{replicate}
use Rattle.map_gen.proofs.stacked_maps.triangle.Given as goal

abbrev pub invariant-loop : goal.invariant-loop
invariant-loop l = record {
  some : 3 ≤ l.counter;
  lists : l.lists ≡ (1 ∷ 2 ∷ []) ∷ (2 ∷ 0 ∷ []) ∷ (0 ∷ 1 ∷ []) ∷ replicate (l.counter - 3) [];
}
