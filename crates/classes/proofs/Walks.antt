-- The walk along an orbit: a bijection applied again and again, from a number until it is back there.
use Rattle.std.proofs.Common.{◌≡◌, ◌≢◌, ◌||◌, ℕ, zero, suc, ◌+◌, ◌-◌, ◌<◌, ◌≤◌, Bool, true, false, eqb, List, length, get_or, refl, sym, ap, ◌∙◌, subst, inl, inr, arith}
use Rattle.std.specs.List.{range_with_len}
use Rattle.std.proofs.lemmas.Bool.{cases_Bool, cases_eq, eqb-true, eq-eqb, ne_eqb, or_cases, or_left, or_right, false_from_ne_true, true≢false}
use Rattle.std.proofs.Math.Bool.{or-false}
use Rattle.std.proofs.lemmas.List.FromFn.{length-range_with_len, get_or-range_with_len}
use Rattle.classes.specs.Classes.{count_below, same_class, orbits, image, IsPermutationOfBelow}
use Rattle.classes.proofs.Counting.{count_below_none, count_below-le, count_below_more}
use Rattle.classes.proofs.Classes.{Together, same_class-from, Together-from}
use Rattle.classes.proofs.Orbits.{StaysBelow, IsPermuting, IsPermuting-image, orbits-step, orbits-closed_marks}

-- where n steps from a lead
abbrev pub walk : (ℕ → ℕ) → ℕ → ℕ → ℕ
walk f a zero = a
walk f a (suc n) = f (walk f a n)

-- y is one of the first n numbers of the walk
abbrev pub visited : (ℕ → ℕ) → ℕ → ℕ → ℕ → Bool
visited f a zero y = false
visited f a (suc n) y = visited f a n y || eqb (walk f a n) y

-- the walk of n steps comes back to a at no step
abbrev pub IsAway : (ℕ → ℕ) → ℕ → ℕ → Type 0
IsAway f a n = (i : ℕ) → 0 < i → i ≤ n → walk f a i ≢ a

-- one step more away
pub IsAway-more : (f : ℕ → ℕ) (a n : ℕ) → IsAway f a n → f (walk f a n) ≢ a → IsAway f a (suc n)
IsAway-more f a n h ne i pos l =
    elim (cases_eq i (suc n)) [
      | inl e ↦ subst (λ x. walk f a x ≢ a) (sym e) ne
      | inr d ↦ h i pos (omega arith)
    ]

pub walk-lt : (f : ℕ → ℕ) (k : ℕ) → StaysBelow f k → (a n : ℕ) → a < k → walk f a n < k
walk-lt f k h a zero l = l
walk-lt f k h a (suc n) l = h (walk f a n) (walk-lt f k h a n l)

-- what was visited
pub visited_at : (f : ℕ → ℕ) (a n y : ℕ) → visited f a n y ≡ true → (i : ℕ) × (i < n) × (walk f a i ≡ y)
visited_at f a zero y e = absurd (cc)
visited_at f a (suc n) y e =
    elim (or_cases (visited f a n y) (eqb (walk f a n) y) e) [
      | inl t ↦ let r = visited_at f a n y t in (r.0, omega arith, r.2)
      | inr t ↦ (n, omega arith, eqb-true (walk f a n) y t)
    ]

pub visited-walk : (f : ℕ → ℕ) (a n i : ℕ) → i < n → visited f a n (walk f a i) ≡ true
visited-walk f a zero i l = absurd (omega arith)
visited-walk f a (suc n) i l =
    elim (cases_eq i n) [
      | inl e ↦ or_right (visited f a n (walk f a i)) (eqb (walk f a n) (walk f a i)) (eq-eqb (walk f a n) (walk f a i) (ap (walk f a) (sym e)))
      | inr ne ↦ or_left (visited f a n (walk f a i)) (eqb (walk f a n) (walk f a i)) (visited-walk f a n i (omega arith))
    ]

-- a number that no step meets was not visited
pub not_visited : (f : ℕ → ℕ) (a n y : ℕ) → ((i : ℕ) → i < n → walk f a i ≢ y) → visited f a n y ≡ false
not_visited f a n y h = false_from_ne_true (visited f a n y) (λ t. let r = visited_at f a n y t in h r.0 r.1 r.2)

-- a walk that stands at one number twice is back after the steps between
pub walk_apart : (f : ℕ → ℕ) (k : ℕ) → IsPermuting f k → (a : ℕ) → a < k → (i m : ℕ) → walk f a i ≡ walk f a (m + i) → walk f a m ≡ a
walk_apart f k w a l zero m e = let z : m + 0 ≡ m = omega arith in sym (e ∙ ap (walk f a) z)
walk_apart f k w a l (suc i) m e =
    let s : m + suc i ≡ suc (m + i) = omega arith in
    walk_apart f k w a l i m (w.apart (walk f a i) (walk f a (m + i)) (walk-lt f k w.within a i l) (walk-lt f k w.within a (m + i) l) (e ∙ ap (walk f a) s))

-- so it visits as many numbers as it has steps
pub count_visited : (f : ℕ → ℕ) (k : ℕ) → IsPermuting f k → (a n : ℕ) → a < k → IsAway f a n → count_below (visited f a (suc n)) k ≡ suc n
count_visited f k w a zero l away =
    let more = count_below_more (λ i. false) (visited f a 1) k a l refl (visited-walk f a 1 0 (omega arith)) (λ i m d. sym (not_visited f a 1 i (λ j s e. let z : j ≡ 0 = omega arith in d (sym e ∙ ap (walk f a) z)))) in
    omega (arith, count_below_none k)
count_visited f k w a (suc n) l away =
    let rest = count_visited f k w a n l (λ i pos m. away i pos (omega arith)) in
    let at = walk f a (suc n) in
    let fresh : visited f a (suc n) at ≡ false =
    not_visited f a (suc n) at (λ i m e.
    let d = suc n - i in
    let s : suc n ≡ d + i = omega arith in
    away d (omega arith) (omega arith) (walk_apart f k w a l i d (e ∙ ap (walk f a) s))) in
    let more = count_below_more (visited f a (suc n)) (visited f a (suc (suc n))) k at (walk-lt f k w.within a (suc n) l) fresh (visited-walk f a (suc (suc n)) (suc n) (omega arith))
    (λ i m d. sym (rw (ne_eqb at i (λ e. d (sym e))) (or-false (visited f a (suc n) i)))) in
    omega arith

-- no walk is away for as many steps as there are numbers
pub walk_returns : (f : ℕ → ℕ) (k : ℕ) → IsPermuting f k → (a : ℕ) → a < k → IsAway f a k → ⊥
walk_returns f k w a l away = omega (arith, count_visited f k w a k l away, count_below-le (visited f a (suc k)) k)

-- each step stays in the orbit
pub walk-together : (images : List ℕ) → IsPermutationOfBelow images → (a n : ℕ) → a < length images → Together (orbits images) a (walk (image images) a n)
walk-together images p a zero l = refl
walk-together images p a (suc n) l =
    let w = IsPermuting-image images p in
    walk-together images p a n l ∙ orbits-step images p.within (walk (image images) a n) (walk-lt (image images) (length images) w.within a n l)

-- a walk that is back has visited the whole orbit, and nothing else
pub visited_is_orbit : (images : List ℕ) → IsPermutationOfBelow images → (a n : ℕ) → a < length images → 0 < n → walk (image images) a n ≡ a → (y : ℕ) → y < length images → visited (image images) a n y ≡ same_class (orbits images) a y
visited_is_orbit images p a n l pos back y m =
    let f = image images in
    let marked : ℕ → Bool = visited f a n in
    let keeps : (i : ℕ) → i < length images → marked i ≡ true → marked (f i) ≡ true =
    λ i li t.
    let r = visited_at f a n i t in
    elim (cases_eq (suc r.0) n) [
      | inl e ↦
          ap marked (ap f (sym r.2) ∙ (ap (walk f a) e ∙ back)) ∙ visited-walk f a n 0 pos
      | inr d ↦ ap marked (ap f (sym r.2)) ∙ visited-walk f a n (suc r.0) (omega arith)
    ] in
    elim (cases_Bool (marked y)) [
      | inl t ↦
          let r = visited_at f a n y t in
          t ∙ sym (same_class-from (orbits images) a y (walk-together images p a r.0 l ∙ ap (λ x. get_or (orbits images) x x) r.2))
      | inr t ↦
          t ∙ sym (false_from_ne_true (same_class (orbits images) a y) (λ s.
          let same = orbits-closed_marks images p marked keeps a y l m (Together-from (orbits images) a y s) in
          true≢false (sym (visited-walk f a n 0 pos) ∙ (same ∙ t))))
    ]

-- each number as its own image
pub IsPermutationOfBelow-identity : (k : ℕ) → IsPermutationOfBelow (range_with_len 0 k)
IsPermutationOfBelow-identity k = grind (arith, length-range_with_len, get_or-range_with_len)
