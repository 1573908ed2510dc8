-- What every permutation keeps, kept.
use Rattle.std.proofs.Common.{ℕ, suc, ◌+◌, ◌<◌, ◌≤◌, ◌≢◌, true, false, inl, inr, ◌^◌, ◌≡◌, List, [], ◌∷◌, ◌++◌, length, sym, ap, ◌∙◌, arith}
use Rattle.std.proofs.lemmas.List.{map-id}
use Rattle.std.specs.List.{swap, range_with_len}
use Rattle.std.proofs.lemmas.List.Edits.{length-swap}
use Rattle.std.proofs.lemmas.List.FromFn.{length-range_with_len, map-range_with_len_more}
use Rattle.classes.proofs.Swap.{IsPermutationOfBelow-swap}
use Rattle.std.proofs.lemmas.Bool.{cases_eq}
use Rattle.classes.specs.Classes.{image, label, orbits, same_class, IsPermutationOfBelow}
use Rattle.classes.proofs.Classes.{same_class-from}
use Rattle.classes.proofs.Orbits.{IsPermuting-image}
use Rattle.classes.proofs.Walks.{walk, IsAway, IsAway-more, not_visited, visited_is_orbit, walk-together, walk_returns, IsPermutationOfBelow-identity}
use Rattle.pg_perm.specs.Perm.{IsPerm}

-- an exchange of two images
pub IsPerm-swap : (images : List ℕ) (a b : ℕ) → IsPerm images → a < length images → b < length images → IsPerm (swap images a b)
IsPerm-swap images a b p la lb =
    record { bijection = IsPermutationOfBelow-swap images a b p.bijection la lb; few = omega (arith, p.few, length-swap images a b) }

-- each number its own image
pub IsPerm-identity : (k : ℕ) → k < 2 ^ 32 → IsPerm (range_with_len 0 k)
IsPerm-identity k l = record { bijection = IsPermutationOfBelow-identity k; few = omega (arith, length-range_with_len 0 k) }

-- one number more
pub range_with_len-more : (k : ℕ) → range_with_len 0 (k + 1) ≡ range_with_len 0 k ++ k ∷ []
range_with_len-more k =
    sym (map-id (range_with_len 0 (k + 1))) ∙ (map-range_with_len_more (λ x. x) 0 k k (omega arith) ∙ ap (λ l. l ++ k ∷ []) (map-id (range_with_len 0 k)))

-- x is where n steps lead from a; on the way there the walk met b at no step and came back to a at none
pub record IsAt (images : List ℕ) (a b x n : ℕ) : Type 0 where
  pub place : x ≡ walk (image images) a n
  pub within : x < length images
  pub not_met : (i : ℕ) → i < n → walk (image images) a i ≢ b
  pub away : IsAway (image images) a n

-- one step on
pub IsAt-more : (images : List ℕ) (a b x y n m : ℕ) → IsPermutationOfBelow images → IsAt images a b x n → x ≢ b → y ≡ image images x → y ≢ a → m ≡ n + 1 → IsAt images a b y m
IsAt-more images a b x y n m p at ne e away s =
    let f = image images in
    let place : y ≡ walk f a (suc n) = e ∙ ap f at.place in
    let next : IsAt images a b y (suc n) = record {
      place = place;
      within = let l = (IsPermuting-image images p).within x at.within in omega arith;
      not_met = λ i l. elim (cases_eq i n) [ inl q ↦ (λ q'. ne (at.place ∙ (ap (walk f a) (sym q) ∙ q'))) | inr d ↦ at.not_met i (omega arith) ];
      away = IsAway-more f a n at.away (λ q. away (place ∙ q));
    } in
    let s' : m ≡ suc n = omega arith in
    rw s' next

-- where b is met, it is in the orbit
pub same_orbit-met : (images : List ℕ) (a b x n : ℕ) → IsPermutationOfBelow images → a < length images → IsAt images a b x n → x ≡ b → true ≡ same_class (orbits images) a b
same_orbit-met images a b x n p l at e =
    sym (same_class-from (orbits images) a b (walk-together images p a n l ∙ ap (label (orbits images)) (sym at.place ∙ e)))

-- where the walk is back with b not met, it is not
pub same_orbit-back : (images : List ℕ) (a b x y n : ℕ) → IsPermutationOfBelow images → a < length images → b < length images → IsAt images a b x n → x ≢ b → y ≡ image images x → y ≡ a → false ≡ same_class (orbits images) a b
same_orbit-back images a b x y n p l m at ne e back =
    let f = image images in
    let home : walk f a (suc n) ≡ a = ap f (sym at.place) ∙ (sym e ∙ back) in
    let none = not_visited f a (suc n) b (λ i s. elim (cases_eq i n) [ inl q ↦ (λ q'. ne (at.place ∙ (ap (walk f a) (sym q) ∙ q'))) | inr d ↦ at.not_met i (omega arith) ]) in
    sym none ∙ visited_is_orbit images p a (suc n) l (omega arith) home b m

-- no walk goes on for as many steps as there are numbers
pub same_orbit-never : (images : List ℕ) (a b x n : ℕ) → IsPermutationOfBelow images → a < length images → IsAt images a b x n → length images ≤ n → ⊥
same_orbit-never images a b x n p l at long =
    walk_returns (image images) (length images) (IsPermuting-image images p) a l (λ i pos m. at.away i pos (omega arith))
