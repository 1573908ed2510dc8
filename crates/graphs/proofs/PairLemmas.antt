-- Lists in order that have the same elements are one; the pairs of numbers, in the order of edges.
use Rattle.std.proofs.Common.{◌≡◌, ◌⊎◌, ℕ, zero, suc, ◌+◌, ◌-◌, ◌<◌, ◌≤◌, Bool, true, false, List, [], ◌∷◌, ◌++◌, map, Contains, refl, sym, ap, ap₂, ◌∙◌, subst, inl, inr, arith}
use Rattle.std.specs.List.{All, AllPairs, filter, list_any, range_with_len, flat_map}
use Rattle.std.proofs.lemmas.Bool.{cases_Bool, cases_eq, true≢false, cond-true, cond-false}
use Rattle.std.proofs.lemmas.List.Elements.{All-append, All-weaker, All-contains, All-contains_itself, All-filter, filter_passes, Contains-append_left, Contains-append_right, Contains-append_cases}
use Rattle.std.proofs.lemmas.List.Kept.{AllPairs-cons}
use Rattle.std.proofs.lemmas.List.Folds.{list_any-from_Any, Any-from_list_any, list_any_none}
use Rattle.graphs.specs.Graphs.{Edge, ComesBefore}
use Rattle.graphs.specs.Bits.{pairs_of, pairs}

-- ---- lists
module _ {X : Type 0} where
  pub Contains-first : (x : X) (xs : List X) → Contains (x ∷ xs) x
  Contains-first x xs = (0, omega arith, refl)

  pub Contains-later : (x : X) (xs : List X) (y : X) → Contains xs y → Contains (x ∷ xs) y
  Contains-later x xs y h = (suc h.0, omega (arith, h.1), h.2)

  pub Contains-cases : (x : X) (xs : List X) (y : X) → Contains (x ∷ xs) y → (x ≡ y) ⊎ Contains xs y
  Contains-cases x xs y (zero, l, e) = inl e
  Contains-cases x xs y (suc k, l, e) = inr (k, omega (arith, l), e)

  pub Contains-none : (y : X) → Contains [] y → ⊥
  Contains-none y h = omega (arith, h.1)

  -- what is true of each element that a list contains
  pub All-from_Contains : (P : X → Type 0) (xs : List X) → ((x : X) → Contains xs x → P x) → All P xs
  All-from_Contains P xs h = All-weaker (Contains xs) P h xs (All-contains_itself xs)

  -- a filter keeps what passes
  pub Contains-filter : (p : X → Bool) (xs : List X) (x : X) → Contains xs x → p x ≡ true → Contains (filter p xs) x
  Contains-filter p [] x h e = h
  Contains-filter p (y ∷ xs) x h e = elim (cases_Bool (p y)) [
    | inl t ↦
        subst (λ l. Contains l x) (sym (cond-true (p y) (y ∷ filter p xs) (filter p xs) t)) (elim (Contains-cases y xs x h) [
          | inl q ↦ subst (λ z. Contains (y ∷ filter p xs) z) q (Contains-first y (filter p xs))
          | inr k ↦ Contains-later y (filter p xs) x (Contains-filter p xs x k e)
        ])
    | inr f ↦
        subst (λ l. Contains l x) (sym (cond-false (p y) (y ∷ filter p xs) (filter p xs) f)) (elim (Contains-cases y xs x h) [
          | inl q ↦ absurd (true≢false (sym e ∙ (ap p (sym q) ∙ f)))
          | inr k ↦ Contains-filter p xs x k e
        ])
  ]

  -- and nothing else
  pub Contains-unfilter : (p : X → Bool) (xs : List X) (x : X) → Contains (filter p xs) x → Contains xs x × (p x ≡ true)
  Contains-unfilter p xs x h = (
    All-contains (Contains xs) (filter p xs) x (All-filter p (Contains xs) xs (All-contains_itself xs)) h,
    All-contains (λ y. p y ≡ true) (filter p xs) x (filter_passes p xs) h,
  )

  -- a test that some element passes
  pub any-from : (p : X → Bool) (xs : List X) (x : X) → Contains xs x → p x ≡ true → list_any p xs ≡ true
  any-from p xs x h e = list_any-from_Any p xs (h.0, x, h.1, h.2, e)

  pub any-gives : (p : X → Bool) (xs : List X) → list_any p xs ≡ true → (x : X) × Contains xs x × (p x ≡ true)
  any-gives p xs e = let h = Any-from_list_any p xs e in (h.1, (h.0, h.2, h.3), h.4)

  pub any-none : (p : X → Bool) (xs : List X) → ((x : X) → Contains xs x → p x ≡ false) → list_any p xs ≡ false
  any-none p xs h = list_any_none p xs (All-from_Contains (λ x. p x ≡ false) xs h)

  module _ (R : X → X → Type 0) where
    pub AllPairs-none : AllPairs R []
    AllPairs-none i j d l m = absurd (omega arith)

    pub AllPairs-first : (x : X) (xs : List X) → AllPairs R (x ∷ xs) → All (R x) xs
    AllPairs-first x xs h k d l = h 0 (suc k) d (omega arith) (omega arith)

    pub AllPairs-later : (x : X) (xs : List X) → AllPairs R (x ∷ xs) → AllPairs R xs
    AllPairs-later x xs h i j d l m = h (suc i) (suc j) d (omega arith) (omega arith)

    pub AllPairs-both : (xs ys : List X) → AllPairs R xs → AllPairs R ys → ((x y : X) → Contains xs x → Contains ys y → R x y) → AllPairs R (xs ++ ys)
    AllPairs-both [] ys f g h = g
    AllPairs-both (x ∷ xs) ys f g h =
        AllPairs-cons R x (xs ++ ys) (All-append (R x) xs ys (AllPairs-first x xs f) (All-from_Contains (R x) ys (λ y c. h x y (Contains-first x xs) c)))
        (AllPairs-both xs ys (AllPairs-later x xs f) g (λ z y c d. h z y (Contains-later x xs z c) d))

    -- two lists in a strict order with the same elements are one
    pub rising_same : ((x : X) → R x x → ⊥) → ((x y : X) → R x y → R y x → ⊥) → (xs ys : List X) → AllPairs R xs → AllPairs R ys → ((x : X) → Contains xs x → Contains ys x) → ((x : X) → Contains ys x → Contains xs x) → xs ≡ ys
    rising_same strict apart [] [] f g to back = refl
    rising_same strict apart [] (y ∷ ys) f g to back = absurd (Contains-none y (back y (Contains-first y ys)))
    rising_same strict apart (x ∷ xs) [] f g to back = absurd (Contains-none x (to x (Contains-first x xs)))
    rising_same strict apart (x ∷ xs) (y ∷ ys) f g to back =
        let head : x ≡ y = elim (Contains-cases y ys x (to x (Contains-first x xs))) [
          | inl e ↦ sym e
          | inr c ↦ elim (Contains-cases x xs y (back y (Contains-first y ys))) [
            | inl e ↦ e
            | inr d ↦ absurd (apart x y (All-contains (R x) xs y (AllPairs-first x xs f) d) (All-contains (R y) ys x (AllPairs-first y ys g) c))
          ]
        ] in
        let tail = rising_same strict apart xs ys (AllPairs-later x xs f) (AllPairs-later y ys g)
        (λ z c. elim (Contains-cases y ys z (to z (Contains-later x xs z c))) [
          | inl e ↦ absurd (strict x (subst (R x) (sym e ∙ sym head) (All-contains (R x) xs z (AllPairs-first x xs f) c)))
          | inr d ↦ d
        ])
        (λ z c. elim (Contains-cases x xs z (back z (Contains-later y ys z c))) [
          | inl e ↦ absurd (strict y (subst (R y) (sym e ∙ head) (All-contains (R y) ys z (AllPairs-first y ys g) c)))
          | inr d ↦ d
        ]) in
        ap₂ ◌∷◌ head tail

-- ---- the order of edges
pub before_strict : (e : Edge) → ComesBefore e e → ⊥
before_strict e (inl l) = omega (arith, l)
before_strict e (inr (q, l)) = omega (arith, l)

pub before_apart : (e f : Edge) → ComesBefore e f → ComesBefore f e → ⊥
before_apart e f (inl l) (inl m) = omega (arith, l, m)
before_apart e f (inl l) (inr (q, m)) = omega (arith, l, q)
before_apart e f (inr (q, l)) (inl m) = omega (arith, q, m)
before_apart e f (inr (q, l)) (inr (r, m)) = omega (arith, l, m)

-- ---- the pairs
-- the pairs of one number with some in a row
row-has : (a s c : ℕ) (e : Edge) → Contains (map (λ b. (a, b)) (range_with_len s c)) e → (e.0 ≡ a) × (s ≤ e.1) × (e.1 < s + c)
row-has a s zero e h = absurd (Contains-none e h)
row-has a s (suc c) e h = elim (Contains-cases (a, s) (map (λ b. (a, b)) (range_with_len (s + 1) c)) e h) [
  | inl q ↦ let f = ap (λ (x : Edge). x.0) q in let g = ap (λ (x : Edge). x.1) q in (sym f, omega (arith, g), omega (arith, g))
  | inr k ↦ let r = row-has a (s + 1) c e k in (r.0, omega (arith, r), omega (arith, r))
]

row-holds : (a s c b : ℕ) → s ≤ b → b < s + c → Contains {X = Edge} (map (λ b. (a, b)) (range_with_len s c)) (a, b)
row-holds a s zero b l m = absurd (omega arith)
row-holds a s (suc c) b l m = elim (cases_eq s b) [
  | inl q ↦ subst (λ z. Contains {X = Edge} (map (λ b. (a, b)) (range_with_len s (suc c))) (a, z)) q (Contains-first (a, s) (map (λ b. (a, b)) (range_with_len (s + 1) c)))
  | inr n ↦ Contains-later (a, s) (map (λ b. (a, b)) (range_with_len (s + 1) c)) (a, b) (row-holds a (s + 1) c b (omega arith) (omega arith))
]

row-rising : (a s c : ℕ) → AllPairs ComesBefore (map (λ b. (a, b)) (range_with_len s c))
row-rising a s zero = AllPairs-none ComesBefore
row-rising a s (suc c) =
    let rest : List Edge = map (λ b. (a, b)) (range_with_len (s + 1) c) in
    AllPairs-cons ComesBefore (a, s) rest (All-from_Contains (ComesBefore (a, s)) rest (λ (e : Edge) h. let r = row-has a (s + 1) c e h in inr (sym r.0, omega (arith, r)))) (row-rising a (s + 1) c)

-- those of some numbers in a row
abbrev rows : ℕ → ℕ → ℕ → List Edge
rows n s c = flat_map (pairs_of n) (range_with_len s c)

rows-have : (n s c : ℕ) (e : Edge) → Contains (rows n s c) e → (s ≤ e.0) × (e.0 < s + c) × (e.0 < e.1) × (e.1 < n)
rows-have n s zero e h = absurd (Contains-none e h)
rows-have n s (suc c) e h = elim (Contains-append_cases (pairs_of n s) (rows n (s + 1) c) e h) [
  | inl k ↦ let r = row-has s (s + 1) (n - (s + 1)) e k in (omega (arith, r), omega (arith, r), omega (arith, r), omega (arith, r))
  | inr k ↦ let r = rows-have n (s + 1) c e k in (omega (arith, r), omega (arith, r), r.2, r.3)
]

rows-hold : (n s c a b : ℕ) → s ≤ a → a < s + c → a < b → b < n → Contains (rows n s c) (a, b)
rows-hold n s zero a b l m o p = absurd (omega arith)
rows-hold n s (suc c) a b l m o p = elim (cases_eq s a) [
  | inl q ↦ Contains-append_left (pairs_of n s) (rows n (s + 1) c) (a, b) (subst (λ z. Contains (pairs_of n s) (z, b)) q (row-holds s (s + 1) (n - (s + 1)) b (omega arith) (omega arith)))
  | inr ne ↦ Contains-append_right (pairs_of n s) (rows n (s + 1) c) (a, b) (rows-hold n (s + 1) c a b (omega arith) (omega arith) o p)
]

rows-rising : (n s c : ℕ) → AllPairs ComesBefore (rows n s c)
rows-rising n s zero = AllPairs-none ComesBefore
rows-rising n s (suc c) =
    AllPairs-both ComesBefore (pairs_of n s) (rows n (s + 1) c) (row-rising s (s + 1) (n - (s + 1))) (rows-rising n (s + 1) c) (λ e f h k.
    let r = row-has s (s + 1) (n - (s + 1)) e h in
    let t = rows-have n (s + 1) c f k in
    inl (omega (arith, r, t)))

-- the pairs of the numbers below n
pub pairs-have : (n : ℕ) (e : Edge) → Contains (pairs n) e → (e.0 < e.1) × (e.1 < n)
unfolding pairs
pairs-have n e h = let r = rows-have n 0 n e h in (r.2, r.3)

pub pairs-hold : (n a b : ℕ) → a < b → b < n → Contains (pairs n) (a, b)
unfolding pairs
pairs-hold n a b l m = rows-hold n 0 n a b (omega arith) (omega arith) l m

pub pairs-rising : (n : ℕ) → AllPairs ComesBefore (pairs n)
unfolding pairs
pairs-rising n = rows-rising n 0 n
