-- The definitions, run on worked cases: places round a ring of five.
use Rattle.std.proofs.Common.{◌≡◌, ℕ, ◌||◌, Bool, true, false, ◌==◌, refl, arith, [], ◌∷◌}
use Rattle.graphs.specs.Graphs.{EdgeGraph}
use Rattle.embed_contraction.proofs.Rings.{spoke, IsGap, Alternate}

-- the places 0 and 3, and the places 1 and 2
abbrev outer : ℕ → Bool
outer i = (i == 0) || (i == 3)

abbrev inner : ℕ → Bool
inner i = (i == 1) || (i == 2)

-- the places 0 and 2, which alternate with 1 and 3
abbrev even : ℕ → Bool
even i = (i == 0) || (i == 2)

abbrev odd : ℕ → Bool
odd i = (i == 1) || (i == 3)

alternating : Alternate 5 even odd 0 1 2 3
alternating = record { order = (omega arith, omega arith, omega arith, omega arith); odd = (refl, refl); even = (refl, refl) }

-- 1 and 2 do not lie in a gap of 1 and 2 that ends before 2
not_in_gap : ¬ IsGap 5 outer inner 0 1
not_in_gap g = let l : false ≡ true = g.last in absurd (cc)

-- spokes of a vertex 3 to a triangle of which it has the first and the last vertex
abbrev graph : EdgeGraph
graph = record { n = 4; edges = (0, 1) ∷ (0, 2) ∷ (0, 3) ∷ (1, 2) ∷ (2, 3) ∷ [] }

first_spoke : spoke graph (0 ∷ 1 ∷ 2 ∷ []) 3 0 ≡ true
first_spoke = refl

second_spoke : spoke graph (0 ∷ 1 ∷ 2 ∷ []) 3 1 ≡ false
second_spoke = refl
