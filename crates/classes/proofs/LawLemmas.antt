-- Classes as the least equivalence that holds some pairs, and orbits as what steps lead to.
use Rattle.std.proofs.Common.{◌≡◌, true, ◌⊎◌, ℕ, zero, suc, ◌<◌, List, [], ◌∷◌, length, get_or, refl, sym, ap, ◌∙◌, inl, inr, arith}
use Rattle.std.proofs.lemmas.Bool.{cases_eq}
use Rattle.classes.specs.Classes.{label, classes, image, orbits}
use Rattle.classes.specs.Laws.{ClassesAreLeast, steps_from, OrbitsAreSteps}
use Rattle.classes.proofs.Classes.{same_class-from, Together-from, length-classes, classes-holds, classes-lies}
use Rattle.classes.proofs.Orbits.{IsPermuting-image}
use Rattle.classes.proofs.Walks.{walk, IsAway, IsAway-more, visited_at, walk_returns, walk-together, visited_is_orbit}

-- THE LAW of classes
pub classes_are_least : ClassesAreLeast
classes_are_least k pairs below =
    record {
      count = length-classes k pairs;
      holds = λ i d l. same_class-from (classes k pairs) (get_or pairs i d).0 (get_or pairs i d).1 (classes-holds k pairs below i d l);
      lies = λ same equal held i j l m t.
          classes-lies (λ x y. same x y ≡ true) k (record { itself = equal.itself; turned = equal.turned; chained = equal.chained }) pairs below held i j l m (Together-from (classes k pairs) i j t);
    }

-- a walk does not come back within n steps, or it does
pub away_or_back : (f : ℕ → ℕ) (a n : ℕ) → IsAway f a n ⊎ ((i : ℕ) × (0 < i) × (walk f a i ≡ a))
away_or_back f a zero = inl (λ i pos l. absurd (omega arith))
away_or_back f a (suc n) =
    elim (cases_eq (walk f a (suc n)) a) [
      | inl e ↦ inr (suc n, omega arith, e)
      | inr ne ↦ elim (away_or_back f a n) [ inl away ↦ inl (IsAway-more f a n away ne) | inr back ↦ inr back ]
    ]

-- the steps of the definition are a walk
steps_are_walk : (images : List ℕ) (i n : ℕ) → steps_from images i n ≡ walk (image images) i n
steps_are_walk images i zero = refl
steps_are_walk images i (suc n) = ap (image images) (steps_are_walk images i n)

-- the three-cycle 0, 2, 1: two steps from 0
two_steps : steps_from (2 ∷ 0 ∷ 1 ∷ []) 0 2 ≡ 1
two_steps = refl

-- THE LAW of orbits
pub orbits_are_steps : OrbitsAreSteps
orbits_are_steps images i j p l m = (
  λ same. elim (away_or_back (image images) i (length images)) [
    | inl away ↦ absurd (walk_returns (image images) (length images) (IsPermuting-image images p) i l away)
    | inr back ↦
        let met = visited_at (image images) i back.0 j (visited_is_orbit images p i back.0 l back.1 back.2 j m ∙ same) in
        (met.0, steps_are_walk images i met.0 ∙ met.2)
  ],
  λ led. same_class-from (orbits images) i j (walk-together images p i led.0 l ∙ ap (label (orbits images)) (sym (steps_are_walk images i led.0) ∙ led.1)),
)
