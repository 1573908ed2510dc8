-- Laws of classes and orbits, for all pairs and all permutations.
use Rattle.std.specs.Prelude.{ℕ, zero, suc, ◌<◌, Bool, true, ◌≡◌, ◌↔◌, List, length, All}
use Rattle.classes.specs.Classes.{image, same_class, classes, orbits, IsPermutationOfBelow}

-- a test that is an equivalence of the numbers below k
pub record IsTestedEquivalence (k : ℕ) (same : ℕ → ℕ → Bool) : Type 0 where
  pub itself : (i : ℕ) → i < k → same i i ≡ true
  pub turned : (i j : ℕ) → i < k → j < k → same i j ≡ true → same j i ≡ true
  pub chained : (i j l : ℕ) → i < k → j < k → l < k → same i j ≡ true → same j l ≡ true → same i l ≡ true

-- The classes hold the two numbers of each pair together, and lie in every equivalence that does.
pub record IsLeastEquivalence (labels : List ℕ) (k : ℕ) (pairs : List (ℕ × ℕ)) : Type 0 where
  pub count : length labels ≡ k
  pub holds : All (λ p. same_class labels p.0 p.1 ≡ true) pairs
  pub lies : (same : ℕ → ℕ → Bool) → IsTestedEquivalence k same → All (λ p. same p.0 p.1 ≡ true) pairs → (i j : ℕ) → i < k → j < k → same_class labels i j ≡ true → same i j ≡ true

-- The classes into which pairs join the numbers below k are the least equivalence that holds each pair.
abbrev pub ClassesAreLeast : Type 0
ClassesAreLeast =
    (k : ℕ) (pairs : List (ℕ × ℕ)) → All (λ p. (p.0 < k) × (p.1 < k)) pairs → IsLeastEquivalence (classes k pairs) k pairs

-- where n steps from a number to its image lead from i
abbrev pub steps_from : List ℕ → ℕ → ℕ → ℕ
steps_from images i zero = i
steps_from images i (suc n) = image images (steps_from images i n)

-- Two numbers are in one orbit of a permutation exactly where steps lead from the one to the other.
abbrev pub OrbitsAreSteps : Type 0
OrbitsAreSteps =
    (images : List ℕ) (i j : ℕ) → IsPermutationOfBelow images → i < length images → j < length images → (same_class (orbits images) i j ≡ true) ↔ ((n : ℕ) × (steps_from images i n ≡ j))
