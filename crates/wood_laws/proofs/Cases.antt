-- A worked case: the tetrahedron, whose one inner vertex has the three roots as parents.
use Rattle.std.proofs.Common.{◌≡◌, ℕ, zero, suc, ◌<◌, List, [], ◌∷◌, AllPairs, ◌≢◌, All, refl, sym, arith}
use Rattle.map_lists.specs.Lists.{Lists}
use Rattle.wood_runs.specs.Parents.{Colour, one, two, three}
use Rattle.wood_laws.specs.Woods.{root, IsInner}
use Rattle.wood_laws.specs.Arranged.{IsBefore, IsArranged}

abbrev tetrahedron : Lists
tetrahedron = (1 ∷ 2 ∷ 3 ∷ []) ∷ (0 ∷ 3 ∷ 2 ∷ []) ∷ (0 ∷ 1 ∷ 3 ∷ []) ∷ (0 ∷ 2 ∷ 1 ∷ []) ∷ []

roots_are : (root tetrahedron (0, 1) one ≡ 1) × (root tetrahedron (0, 1) two ≡ 0) × (root tetrahedron (0, 1) three ≡ 3)
unfolding Rattle.map_theory.specs.Maps.entry_after
roots_are = (refl, refl, refl)

abbrev parent : Colour → ℕ → ℕ
parent one v = 1
parent two v = 0
parent three v = 3

abbrev arrangement : List ℕ
arrangement = 1 ∷ 0 ∷ 2 ∷ 3 ∷ []

inner_is : (v : ℕ) → IsInner tetrahedron (0, 1) v → 2 ≡ v
inner_is zero i = absurd (i.1 two refl)
inner_is (suc zero) i = absurd (i.1 one refl)
inner_is (suc (suc zero)) i = refl
inner_is (suc (suc (suc zero))) i = absurd (i.1 three (sym roots_are.2))
inner_is (suc (suc (suc (suc v)))) i = absurd (let l = i.0 in omega arith)

one_before : (v : ℕ) → IsInner tetrahedron (0, 1) v → IsBefore arrangement 1 v
one_before v i = (0, 2, omega arith, omega arith, refl, inner_is v i)

two_before : (v : ℕ) → IsInner tetrahedron (0, 1) v → IsBefore arrangement 0 v
two_before v i = (1, 2, omega arith, omega arith, refl, inner_is v i)

three_after : (v : ℕ) → IsInner tetrahedron (0, 1) v → IsBefore arrangement v 3
three_after v i = (2, 3, omega arith, omega arith, inner_is v i, refl)

arranged : IsArranged tetrahedron (0, 1) parent arrangement
arranged = record {
  count = refl;
  vertices = within;
  once = apart;
  first = refl;
  second = refl;
  last = sym roots_are.2;
  one_before = one_before;
  two_before = two_before;
  three_after = three_after;
}
  where
    within : All (λ v. v < 4) arrangement
    within zero d l = omega arith
    within (suc zero) d l = omega arith
    within (suc (suc zero)) d l = omega arith
    within (suc (suc (suc zero))) d l = omega arith
    within (suc (suc (suc (suc k)))) d l = absurd (omega arith)

    apart : AllPairs ◌≢◌ arrangement
    apart zero (suc zero) d l m e = omega (arith, e)
    apart zero (suc (suc zero)) d l m e = omega (arith, e)
    apart zero (suc (suc (suc zero))) d l m e = omega (arith, e)
    apart (suc zero) (suc (suc zero)) d l m e = omega (arith, e)
    apart (suc zero) (suc (suc (suc zero))) d l m e = omega (arith, e)
    apart (suc (suc zero)) (suc (suc (suc zero))) d l m e = omega (arith, e)
    apart i (suc (suc (suc (suc j)))) d l m e = omega arith
    apart i zero d l m e = omega arith
    apart (suc i) (suc zero) d l m e = omega arith
    apart (suc (suc i)) (suc (suc zero)) d l m e = omega arith
    apart (suc (suc (suc i))) (suc (suc (suc zero))) d l m e = omega arith
