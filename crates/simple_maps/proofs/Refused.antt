-- Faults, slots and twins that wrong bodies would give, each for small lists.
use Rattle.std.proofs.Common.{◌≡◌, ◌<◌, ℕ, List, [], ◌∷◌, None, refl, arith}
use Rattle.simple_maps.specs.Faults.{first_fault}
use Rattle.simple_maps.specs.MapFault.{Names}
use Rattle.simple_maps.specs.Tables.{AreSlots}
use Rattle.simple_maps.specs.Pass.{AreMutual, IsTried}
use Rattle.simple_maps.specs.declared.map_fault.MapFault.TheVariants.{Loop}

-- a loop named before a number that is no vertex
loop_before_range : Names (first_fault ((0 ∷ 1 ∷ []) ∷ [])) (Loop 0) → ⊥
unfolding first_fault
loop_before_range n = cc

-- an entry without its twin forgotten
one_sided_forgotten : first_fault ((1 ∷ []) ∷ [] ∷ []) ≡ None → ⊥
unfolding first_fault
one_sided_forgotten e = cc

-- the mark of lists before taken for the twin that is not there
marks_of_the_lists_before : (tails twins : List ℕ) → AreSlots ((1 ∷ []) ∷ [] ∷ []) tails twins → ⊥
marks_of_the_lists_before tails twins s =
    let d = s.simple.both_ways 0 1 (omega arith, (0, omega arith, refl)) in
    omega (arith, d.1.1)

-- a twin taken without a look at where it leads
twin_not_tried : AreMutual (1 ∷ 2 ∷ []) (0 ∷ 1 ∷ []) (1 ∷ 0 ∷ []) 2 → ⊥
twin_not_tried m = omega (arith, (m 0 (omega arith) (omega arith)).1)

-- a dart taken for the twin of two darts
twin_taken_twice : (twins cells : List ℕ) → ((d : ℕ) → d < 3 → IsTried (1 ∷ 0 ∷ 0 ∷ []) (0 ∷ 1 ∷ 1 ∷ []) twins cells 2 d) → ⊥
twin_taken_twice twins cells tried = omega (arith, (tried 1 (omega arith)).cell, (tried 2 (omega arith)).cell)
