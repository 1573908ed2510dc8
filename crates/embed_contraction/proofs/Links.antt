-- The paths of K5 by the two branches that they join, in either direction.
use Rattle.std.proofs.Common.{◌≡◌, ◌≢◌, ◌⊎◌, ℕ, zero, suc, ◌+◌, ◌-◌, ◌<◌, ◌≤◌, cond, ltb, refl, sym, ap, ◌∙◌, subst, inl, inr, arith, lt-ltb, le-ltb}
use Rattle.std.proofs.lemmas.Bool.{cases_lt, cond-true, cond-false}
use Rattle.kuratowski.specs.Witnesses.{pair_at}
use Rattle.kuratowski.specs.declared.witness.Kind.TheVariants.{K5}
use Rattle.embed_contraction.proofs.Numbers.{each_of_one, each_of_two, each_of_three, each_of_four, each_of_five, each_of_ten}
use Rattle.embed_contraction.proofs.Frames.{IsFrame, HasSteps}

-- the number of the path between a and b, of which a is the lesser
unfoldable pub number : ℕ → ℕ → ℕ
number zero b = b - 1
number (suc zero) b = b + 2
number (suc (suc zero)) b = b + 4
number (suc (suc (suc a))) b = 9

abbrev IsNumber : ℕ → ℕ → Type 0
IsNumber a b = (number a b < 10) × (pair_at K5 (number a b) ≡ (a, b))

number-below : (b : ℕ) → b < 5 → (a : ℕ) → a < b → IsNumber a b
unfolding number
number-below = grind (arith, each_of_five, IsNumber, each_of_one, each_of_two, each_of_three, each_of_four)

pub number-pair : (p : ℕ) → p < 10 → (number (pair_at K5 p).0 (pair_at K5 p).1 ≡ p) × ((pair_at K5 p).0 < (pair_at K5 p).1)
unfolding number
number-pair =
    each_of_ten (λ p. (number (pair_at K5 p).0 (pair_at K5 p).1 ≡ p) × ((pair_at K5 p).0 < (pair_at K5 p).1)) (refl, omega arith) (refl, omega arith) (refl, omega arith) (refl, omega arith) (refl, omega arith) (refl, omega arith) (refl, omega arith) (refl, omega arith) (refl, omega arith) (refl, omega arith)

-- the number of the path between two branches
unfoldable pub link_number : ℕ → ℕ → ℕ
link_number a b = cond (ltb a b) (number a b) (number b a)

pub link_number-up : (a b : ℕ) → a < b → link_number a b ≡ number a b
unfolding link_number
link_number-up a b l = cond-true (ltb a b) (number a b) (number b a) (lt-ltb a b l)

pub link_number-down : (a b : ℕ) → b < a → link_number a b ≡ number b a
unfolding link_number
link_number-down a b l = cond-false (ltb a b) (number a b) (number b a) (le-ltb a b (omega arith))

-- which two branches it joins
pub link_ends : (a b : ℕ) → a < 5 → b < 5 → a ≢ b → (link_number a b < 10) × (((a < b) × (pair_at K5 (link_number a b) ≡ (a, b))) ⊎ ((b < a) × (pair_at K5 (link_number a b) ≡ (b, a))))
link_ends a b la lb ne = grind (arith, cases_lt, link_number-up, number-below, pair_at, K5, link_number-down)

-- one path joins one pair
pub link_pair : (a b c d : ℕ) → a < 5 → b < 5 → a ≢ b → c < 5 → d < 5 → c ≢ d → link_number a b ≡ link_number c d → ((a ≡ c) × (b ≡ d)) ⊎ ((a ≡ d) × (b ≡ c))
link_pair a b c d la lb ab lc ld cd e = grind (arith, link_ends, pair_at, K5)

module _ (n : ℕ) (branch size : ℕ → ℕ) (way : ℕ → ℕ → ℕ) (frame : IsFrame n K5 branch size way) where
  unfoldable pub link_size : ℕ → ℕ → ℕ
  link_size a b = size (link_number a b)

  -- place i of the path from a to b
  unfoldable pub link : ℕ → ℕ → ℕ → ℕ
  link a b i = cond (ltb a b) (way (link_number a b) i) (way (link_number a b) (size (link_number a b) - i))

  pub link-up : (a b i : ℕ) → a < b → link a b i ≡ way (link_number a b) i
  unfolding link
  link-up a b i l = cond-true (ltb a b) (way (link_number a b) i) (way (link_number a b) (size (link_number a b) - i)) (lt-ltb a b l)

  pub link-down : (a b i : ℕ) → b < a → link a b i ≡ way (link_number a b) (size (link_number a b) - i)
  unfolding link
  link-down a b i l = cond-false (ltb a b) (way (link_number a b) i) (way (link_number a b) (size (link_number a b) - i)) (le-ltb a b (omega arith))

  module _ (a b : ℕ) (la : a < 5) (lb : b < 5) (ne : a ≢ b) where
    abbrev m : ℕ
    m = link_number a b

    in_m : m < 10
    in_m = (link_ends a b la lb ne).0

    pub link-long : 0 < link_size a b
    unfolding link_size
    link-long = frame.long m in_m

    pub link-start : link a b 0 ≡ branch a
    link-start = grind (arith, link_ends, link-up, in_m, link-down)

    pub link-end : link a b (link_size a b) ≡ branch b
    unfolding link_size
    link-end = grind (arith, link_ends, link-up, in_m, link-down)

    -- the place in the path
    pub link-place : (i : ℕ) → i ≤ link_size a b → (j : ℕ) × (j ≤ size m) × (link a b i ≡ way m j) × ((j ≡ i) ⊎ (j ≡ size m - i)) × (0 < i → i < link_size a b → (0 < j) × (j < size m))
    unfolding link_size
    link-place i l =
        elim (link_ends a b la lb ne).1 [
          | inl h ↦ (i, l, link-up a b i h.0, inl refl, λ p q. (p, q))
          | inr h ↦ (size m - i, omega arith, link-down a b i h.0, inr refl, λ p q. (omega arith, omega arith))
        ]

    pub link-no_branch : (i j : ℕ) → 0 < i → i < link_size a b → j < 5 → link a b i ≢ branch j
    link-no_branch i j pos l in_j e =
        let p = link-place i (omega arith) in
        let q = p.4 pos l in
        frame.no_branch m p.0 j in_m q.0 q.1 in_j (sym p.2 ∙ e)

    pub link-once : (i j : ℕ) → 0 < i → i < link_size a b → j ≤ link_size a b → link a b i ≡ link a b j → i ≡ j
    unfolding link_size
    link-once i j pos l l' e = grind (arith, link_ends, in_m, link-up, link-down)

    pub link-steps : (P : ℕ → ℕ → Type 0) → ((u v : ℕ) → P u v → P v u) → HasSteps K5 size way P → (i : ℕ) → i < link_size a b → P (link a b i) (link a b (suc i))
    unfolding link_size
    link-steps P turn steps i l = grind (arith, link_ends, link-up, in_m, link-down)

    -- the other way
    pub link-back : (i : ℕ) → suc i ≡ link_size b a → link b a i ≡ link a b 1
    unfolding link_size
    link-back i e = grind (arith, cases_lt, link_number-down, link_number-up, link-down, link-up)

  -- inner vertices of two links
  pub link-apart : (a b c d : ℕ) → a < 5 → b < 5 → a ≢ b → c < 5 → d < 5 → c ≢ d → (i j : ℕ) → 0 < i → i < link_size a b → 0 < j → j < link_size c d → link a b i ≡ link c d j → ((a ≡ c) × (b ≡ d)) ⊎ ((a ≡ d) × (b ≡ c))
  link-apart a b c d la lb ab lc ld cd i j pos l pos' l' e =
      let p = link-place a b la lb ab i (omega arith) in
      let q = link-place c d lc ld cd j (omega arith) in
      let p' = p.4 pos l in
      let q' = q.4 pos' l' in
      link_pair a b c d la lb ab lc ld cd (frame.apart (link_number a b) (link_number c d) p.0 q.0 (link_ends a b la lb ab).0 (link_ends c d lc ld cd).0 p'.0 p'.1 q'.0 q'.1 (sym p.2 ∙ (e ∙ q.2)))
