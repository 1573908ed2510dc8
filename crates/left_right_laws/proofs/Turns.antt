-- Orders of three entries of a list, cyclically.
use Rattle.std.proofs.Common.{◌≡◌, ◌≢◌, ◌⊎◌, ℕ, ◌<◌, Bool, true, false, cond, List, [], ◌∷◌, length, get_or, AllPairs, Contains, sym, ap, ◌∙◌, subst, inl, inr, arith}
use Rattle.std.specs.List.{filter}
use Rattle.std.proofs.lemmas.Bool.{cases_lt, cases_eq, cond-true}
use Rattle.std.proofs.lemmas.Bool.Decides.{nat_tests}
use Rattle.map_theory.specs.Maps.{place_of, entry_after}
use Rattle.map_theory.proofs.DartLemmas.{place_of-here, place_of-there, place_of-lt-length, get_or-place_of, place_after, place_of-entry_after, Contains-entry_after}
use Rattle.left_right_laws.specs.Ways.{IsRising, IsInTurn}

-- no two of them are one
pub turn_apart : (us : List ℕ) (a b c : ℕ) → IsInTurn us a b c → (a ≢ b) × (b ≢ c) × (a ≢ c)
turn_apart us a b c turn = grind (arith, place_of)

-- read from the second on
pub turn_moved : (us : List ℕ) (a b c : ℕ) → IsInTurn us a b c → IsInTurn us b c a
turn_moved us a b c turn = elim turn [ inl h ↦ inr (inr h) | inr t ↦ elim t [ inl h ↦ inl h | inr h ↦ inr (inl h) ] ]

-- two orders of three are not both
pub turn_not_both : (us : List ℕ) (a b c : ℕ) → IsInTurn us a b c → ¬ IsInTurn us c b a
turn_not_both us a b c turn other = grind arith

-- entries that are two stand at two places
pub places_apart : (us : List ℕ) (a b : ℕ) → Contains us a → Contains us b → a ≢ b → place_of a us ≢ place_of b us
places_apart us a b has has' ne e =
    ne (sym (get_or-place_of a us 0 (place_of-lt-length a us has)) ∙ (ap (λ k. get_or us k 0) e ∙ get_or-place_of b us 0 (place_of-lt-length b us has')))

-- and one of the two orders is
pub turn_or : (us : List ℕ) (a b c : ℕ) → Contains us a → Contains us b → Contains us c → a ≢ b → b ≢ c → a ≢ c → IsInTurn us a b c ⊎ IsInTurn us c b a
turn_or us a b c has_a has_b has_c ab bc ac = grind (arith, places_apart, cases_lt, place_of)

-- entries that pass a test stand in their order in what is left
place_of-filter : (p : ℕ → Bool) (us : List ℕ) (x y : ℕ) → p x ≡ true → p y ≡ true → place_of x us < place_of y us → place_of x (filter p us) < place_of y (filter p us)
place_of-filter p [] x y px py l = absurd (omega (arith, l))
place_of-filter p (z ∷ us) x y px py l =
    elim (cases_eq z x) [
      | inl e ↦
          let ne : z ≢ y = λ q. omega (arith, l, place_of-here y z us q) in
          subst (λ r. place_of x r < place_of y r) (sym (cond-true (p z) (z ∷ filter p us) (filter p us) (ap p e ∙ px))) (omega (arith, place_of-here x z (filter p us) e, place_of-there y z (filter p us) ne))
      | inr ne ↦ elim (cases_eq z y) [
        | inl q ↦ absurd (omega (arith, l, place_of-here y z us q))
        | inr nq ↦ stays (p z) z (filter p us) ne nq (place_of-filter p us x y px py (omega (arith, l, place_of-there x z us ne, place_of-there y z us nq)))
      ]
    ]
  where
    stays : (b : Bool) (z : ℕ) (rest : List ℕ) → z ≢ x → z ≢ y → place_of x rest < place_of y rest → place_of x (cond b (z ∷ rest) rest) < place_of y (cond b (z ∷ rest) rest)
    stays true z rest ne nq l = omega (arith, l, place_of-there x z rest ne, place_of-there y z rest nq)
    stays false z rest ne nq l = l

rising-filter : (p : ℕ → Bool) (us : List ℕ) (a b c : ℕ) → p a ≡ true → p b ≡ true → p c ≡ true → IsRising us a b c → IsRising (filter p us) a b c
rising-filter p us a b c pa pb pc h = (place_of-filter p us a b pa pb h.0, place_of-filter p us b c pb pc h.1)

-- so three that pass keep their order
pub turn-filter : (p : ℕ → Bool) (us : List ℕ) (a b c : ℕ) → p a ≡ true → p b ≡ true → p c ≡ true → IsInTurn us a b c → IsInTurn (filter p us) a b c
turn-filter p us a b c pa pb pc turn = grind (arith, rising-filter)

-- of three places in turn the second comes after the first, where there are no others
second_place : (n p q r e : ℕ) → p < n → q < n → r < n → ((p < q) × (q < r)) ⊎ (((q < r) × (r < p)) ⊎ ((r < p) × (p < q))) → e ≡ place_after n p → (e ≡ p → ⊥) × (e ≡ r → ⊥)
second_place n p q r e lp lq lr turn is =
    (λ s. elim turn [ inl h ↦ grind (arith, nat_tests) | inr t ↦ elim t [ inl h ↦ grind (arith, nat_tests) | inr h ↦ grind (arith, nat_tests) ] ], λ s. elim turn [ inl h ↦ grind (arith, nat_tests) | inr t ↦ elim t [ inl h ↦ grind (arith, nat_tests) | inr h ↦ grind (arith, nat_tests) ] ])

-- where a list has just three entries, the second in turn comes after the first
pub next_in_turn : (us : List ℕ) (a b c : ℕ) → AllPairs ◌≢◌ us → Contains us a → Contains us b → Contains us c → ((z : ℕ) → Contains us z → (z ≡ a) ⊎ ((z ≡ b) ⊎ (z ≡ c))) → IsInTurn us a b c → entry_after a us ≡ b
next_in_turn us a b c distinct has_a has_b has_c only turn =
    let e = entry_after a us in
    let law = second_place (length us) (place_of a us) (place_of b us) (place_of c us) (place_of e us) (place_of-lt-length a us has_a) (place_of-lt-length b us has_b) (place_of-lt-length c us has_c) turn (place_of-entry_after a us distinct has_a) in
    elim (only e (Contains-entry_after a us has_a)) [
      | inl q ↦ absurd (law.0 (ap (λ z. place_of z us) q))
      | inr t ↦ elim t [ inl q ↦ q | inr q ↦ absurd (law.1 (ap (λ z. place_of z us) q)) ]
    ]

other_place : (n p q e : ℕ) → p < n → q < n → p ≢ q → e ≡ place_after n p → e ≡ p → ⊥
other_place n p q e lp lq ne is s = grind (arith, nat_tests)

-- where it has just two, the one comes after the other
pub next_of_two : (us : List ℕ) (a b : ℕ) → AllPairs ◌≢◌ us → Contains us a → Contains us b → a ≢ b → ((z : ℕ) → Contains us z → (z ≡ a) ⊎ (z ≡ b)) → entry_after a us ≡ b
next_of_two us a b distinct has_a has_b ne only =
    let e = entry_after a us in
    elim (only e (Contains-entry_after a us has_a)) [
      | inl q ↦ absurd (other_place (length us) (place_of a us) (place_of b us) (place_of e us) (place_of-lt-length a us has_a) (place_of-lt-length b us has_b) (places_apart us a b has_a has_b ne) (place_of-entry_after a us distinct has_a) (ap (λ z. place_of z us) q))
      | inr q ↦ q
    ]
