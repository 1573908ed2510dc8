-- What a list of numbers holds, and how often.
use Rattle.std.proofs.Common.{ℕ, zero, suc, ◌+◌, ◌<◌, ◌≤◌, ◌≡◌, ◌≢◌, ◌⊎◌, Bool, true, false, cond, eqb, List, [], ◌∷◌, ◌++◌, map, length, get_or, AllPairs, Contains, count_by, sym, refl, ap, ◌∙◌, subst, inl, inr, arith, eqb-true, eq-eqb, ne_eqb, ◌==◌}
use Rattle.std.specs.List.{list_any, filter}
use Rattle.std.proofs.lemmas.List.{length-map, get_or-map}
use Rattle.std.proofs.lemmas.List.Elements.{Contains-get_or, All-contains, All-filter, All-contains_itself, filter_passes}
use Rattle.std.proofs.lemmas.List.Sums.{sum_by-cons, sum_by-append, sum_by_push}
use Rattle.std.proofs.lemmas.List.Folds.{list_any_at}
use Rattle.std.proofs.lemmas.Bool.{cases_lt, cases_eq, cond-true, cond-false, true≢false, or_cases}

pub Contains-here : (u : ℕ) (us : List ℕ) → Contains (u ∷ us) u
Contains-here u us = (0, omega arith, refl)

pub Contains-there : (u : ℕ) (us : List ℕ) (w : ℕ) → Contains us w → Contains (u ∷ us) w
Contains-there u us w h = (suc h.0, omega (arith, h.1), h.2)

Contains-cons_at : (u : ℕ) (us : List ℕ) (w k : ℕ) → k < length (u ∷ us) → get_or (u ∷ us) k w ≡ w → (u ≡ w) ⊎ Contains us w
Contains-cons_at u us w zero h e = inl e
Contains-cons_at u us w (suc k) h e = inr (k, omega (arith, h), e)

pub Contains-cons_cases : (u : ℕ) (us : List ℕ) (w : ℕ) → Contains (u ∷ us) w → (u ≡ w) ⊎ Contains us w
Contains-cons_cases u us w h = Contains-cons_at u us w h.0 h.1 h.2

abbrev pub count_of : ℕ → List ℕ → ℕ
count_of u us = count_by (λ w. w == u) us

pub count_of-cons : (u x : ℕ) (us : List ℕ) → count_of u (x ∷ us) ≡ cond (eqb x u) 1 0 + count_of u us
count_of-cons u x us = sum_by-cons (λ w. cond (eqb w u) 1 0) x us

pub count_of-here : (u x : ℕ) (us : List ℕ) → x ≡ u → count_of u (x ∷ us) ≡ suc (count_of u us)
count_of-here u x us e = omega (arith, count_of-cons u x us, cond-true {A = ℕ} (eqb x u) 1 0 (eq-eqb x u e))

pub count_of-there : (u x : ℕ) (us : List ℕ) → x ≢ u → count_of u (x ∷ us) ≡ count_of u us
count_of-there u x us n = omega (arith, count_of-cons u x us, cond-false {A = ℕ} (eqb x u) 1 0 (ne_eqb x u n))

pub count_of-le-cons : (u x : ℕ) (us : List ℕ) → count_of u us ≤ count_of u (x ∷ us)
count_of-le-cons u x us =
    elim (cases_eq x u) [ inl e ↦ omega (arith, count_of-here u x us e) | inr n ↦ omega (arith, count_of-there u x us n) ]

-- it stands there at least once
pub one-le-count_of : (u : ℕ) (us : List ℕ) (k d : ℕ) → k < length us → get_or us k d ≡ u → 1 ≤ count_of u us
one-le-count_of u [] k d h e = absurd (omega (arith, h))
one-le-count_of u (x ∷ us) zero d h e = omega (arith, count_of-here u x us e)
one-le-count_of u (x ∷ us) (suc k) d h e = omega (arith, one-le-count_of u us k d (omega (arith, h)) e, count_of-le-cons u x us)

-- at least twice
pub two-le-count_of : (u : ℕ) (us : List ℕ) (i j d : ℕ) → i < j → j < length us → get_or us i d ≡ u → get_or us j d ≡ u → 2 ≤ count_of u us
two-le-count_of u [] i j d l h e f = absurd (omega (arith, h))
two-le-count_of u (x ∷ us) i zero d l h e f = absurd (omega (arith, l))
two-le-count_of u (x ∷ us) zero (suc j) d l h e f = omega (arith, count_of-here u x us e, one-le-count_of u us j d (omega (arith, h)) f)
two-le-count_of u (x ∷ us) (suc i) (suc j) d l h e f =
    omega (arith, two-le-count_of u us i j d (omega (arith, l)) (omega (arith, h)) e f, count_of-le-cons u x us)

-- where it is counted, it stands
pub Contains-from_count_of : (u : ℕ) (us : List ℕ) → 1 ≤ count_of u us → Contains us u
Contains-from_count_of u [] h = absurd (omega (arith, h))
Contains-from_count_of u (x ∷ us) h =
    elim (cases_eq x u) [
      | inl e ↦ subst (λ z. Contains (x ∷ us) z) e (Contains-here x us)
      | inr n ↦ Contains-there x us u (Contains-from_count_of u us (omega (arith, h, count_of-there u x us n)))
    ]

pub AllPairs-tail : (x : ℕ) (us : List ℕ) → AllPairs ◌≢◌ (x ∷ us) → AllPairs ◌≢◌ us
AllPairs-tail x us distinct = λ i j d l h. distinct (suc i) (suc j) d (omega (arith, l)) (omega (arith, h))

-- the first entry does not stand again
pub head_apart : (x : ℕ) (us : List ℕ) → AllPairs ◌≢◌ (x ∷ us) → ¬ Contains us x
head_apart x us distinct c = distinct 0 (suc c.0) x (omega arith) (omega (arith, c.1)) (sym c.2)

-- in a list without repeats it stands at most once
pub count_of-le-one : (u : ℕ) (us : List ℕ) → AllPairs ◌≢◌ us → count_of u us ≤ 1
count_of-le-one u [] distinct = omega arith
count_of-le-one u (x ∷ us) distinct =
    elim (cases_eq x u) [
      | inl e ↦ elim (cases_lt (count_of u us) 1) [
        | inl less ↦ omega (arith, count_of-here u x us e, less)
        | inr more ↦ absurd (head_apart x us distinct (subst (λ z. Contains us z) (sym e) (Contains-from_count_of u us more)))
      ]
      | inr n ↦ omega (arith, count_of-there u x us n, count_of-le-one u us (AllPairs-tail x us distinct))
    ]

-- and a list in which each stands at most once has no repeats
pub AllPairs-from_counts : (us : List ℕ) → ((u : ℕ) → Contains us u → count_of u us ≤ 1) → AllPairs ◌≢◌ us
AllPairs-from_counts us h = λ i j d l k same.
    omega (arith, two-le-count_of (get_or us j d) us i j d l k same refl, h (get_or us j d) (Contains-get_or us j d k))

-- lists that were filtered, and lists of images

-- what passed a test stood in the list and passes it
pub Contains-from_filter : (p : ℕ → Bool) (us : List ℕ) (z : ℕ) → Contains (filter p us) z → Contains us z × (p z ≡ true)
Contains-from_filter p us z c = (
  All-contains (λ x. Contains us x) (filter p us) z (All-filter p (λ x. Contains us x) us (All-contains_itself us)) c,
  All-contains (λ x. p x ≡ true) (filter p us) z (filter_passes p us) c,
)

-- and what passes stays
pub Contains-filter : (p : ℕ → Bool) (us : List ℕ) (z : ℕ) → Contains us z → p z ≡ true → Contains (filter p us) z
Contains-filter p [] z c passes = absurd (omega (arith, c.1))
Contains-filter p (x ∷ us) z c passes =
    elim (Contains-cons_cases x us z c) [
      | inl here ↦
          subst (λ b. Contains (cond b (x ∷ filter p us) (filter p us)) z) (sym (ap p here ∙ passes)) (subst (λ y. Contains (y ∷ filter p us) z) (sym here) (Contains-here z (filter p us)))
      | inr there ↦ kept_there (p x) x (filter p us) z (Contains-filter p us z there passes)
    ]
  where
    kept_there : (b : Bool) (x : ℕ) (us : List ℕ) (z : ℕ) → Contains us z → Contains (cond b (x ∷ us) us) z
    kept_there true x us z c = Contains-there x us z c
    kept_there false x us z c = c

-- an image is that of an entry
pub Contains-from_map : (f : ℕ → ℕ) (us : List ℕ) (x : ℕ) → Contains (map f us) x → (u : ℕ) × Contains us u × (f u ≡ x)
Contains-from_map f us x c =
    let l : c.0 < length us = omega (arith, c.1, length-map us f) in
    (get_or us c.0 0, Contains-get_or us c.0 0 l, sym (get_or-map f us c.0 0 x l) ∙ c.2)

pub Contains-map : (f : ℕ → ℕ) (us : List ℕ) (u : ℕ) → Contains us u → Contains (map f us) (f u)
Contains-map f us u c = (c.0, omega (arith, c.1, length-map us f), get_or-map f us c.0 u (f u) c.1 ∙ ap f c.2)

-- images repeat nothing, where no two entries have one
pub AllPairs-map : (f : ℕ → ℕ) (us : List ℕ) → ((z w : ℕ) → Contains us z → Contains us w → f z ≡ f w → z ≡ w) → AllPairs ◌≢◌ us → AllPairs ◌≢◌ (map f us)
AllPairs-map f us apart distinct i j d l m e =
    let in_j : j < length us = omega (arith, m, length-map us f) in
    let in_i : i < length us = omega arith in
    distinct i j 0 l in_j
    (apart (get_or us i 0) (get_or us j 0) (Contains-get_or us i 0 in_i) (Contains-get_or us j 0 in_j) (sym (get_or-map f us i 0 d in_i) ∙ e ∙ get_or-map f us j 0 d in_j))

-- lists joined and parted

pub count_of-append : (u : ℕ) (us vs : List ℕ) → count_of u (us ++ vs) ≡ count_of u us + count_of u vs
count_of-append u us vs = sum_by-append (λ w. cond (eqb w u) 1 0) us vs

-- what stands in a list is counted
pub Contains-counted : (u : ℕ) (us : List ℕ) → Contains us u → 1 ≤ count_of u us
Contains-counted u us c = one-le-count_of u us c.0 u c.1 c.2

-- two lists without repeats that share nothing have none when joined
pub AllPairs-append : (us vs : List ℕ) → AllPairs ◌≢◌ us → AllPairs ◌≢◌ vs → ((u : ℕ) → Contains us u → ¬ Contains vs u) → AllPairs ◌≢◌ (us ++ vs)
AllPairs-append us vs one other apart =
    AllPairs-from_counts (us ++ vs) (λ u _.
    let sum = count_of-append u us vs in
    elim (cases_lt (count_of u us) 1) [
      | inl none ↦ omega (arith, sum, none, count_of-le-one u vs other)
      | inr some ↦ elim (cases_lt (count_of u vs) 1) [
        | inl none ↦ omega (arith, sum, none, count_of-le-one u us one)
        | inr some_too ↦ absurd (apart u (Contains-from_count_of u us some) (Contains-from_count_of u vs some_too))
      ]
    ])

-- the parts of a list without repeats have none
pub AllPairs-left : (us vs : List ℕ) → AllPairs ◌≢◌ (us ++ vs) → AllPairs ◌≢◌ us
AllPairs-left us vs h = AllPairs-from_counts us (λ u _. omega (arith, count_of-append u us vs, count_of-le-one u (us ++ vs) h))

pub AllPairs-right : (us vs : List ℕ) → AllPairs ◌≢◌ (us ++ vs) → AllPairs ◌≢◌ vs
AllPairs-right us vs h = AllPairs-from_counts vs (λ u _. omega (arith, count_of-append u us vs, count_of-le-one u (us ++ vs) h))

-- and share nothing
pub parts_apart : (us vs : List ℕ) → AllPairs ◌≢◌ (us ++ vs) → (u : ℕ) → Contains us u → ¬ Contains vs u
parts_apart us vs h u one other =
    omega (arith, count_of-append u us vs, count_of-le-one u (us ++ vs) h, Contains-counted u us one, Contains-counted u vs other)

-- whether a number stands in a list

pub Contains-from_list_any : (v : ℕ) (us : List ℕ) → list_any (λ w. w == v) us ≡ true → Contains us v
Contains-from_list_any v [] e = absurd (true≢false (sym e))
Contains-from_list_any v (x ∷ us) e =
    elim (or_cases (eqb x v) (list_any (λ w. w == v) us) e) [
      | inl t ↦ subst (λ z. Contains (x ∷ us) z) (eqb-true x v t) (Contains-here x us)
      | inr t ↦ Contains-there x us v (Contains-from_list_any v us t)
    ]

pub list_any-from_Contains : (v : ℕ) (us : List ℕ) → Contains us v → list_any (λ w. w == v) us ≡ true
list_any-from_Contains v us c = list_any_at (λ w. w == v) us c.0 v c.1 (eq-eqb (get_or us c.0 v) v c.2)

pub count_of-push : (w : ℕ) (us : List ℕ) (u : ℕ) → count_of w (us ++ u ∷ []) ≡ count_of w us + cond (eqb u w) 1 0
count_of-push w us u = sum_by_push (λ x. cond (eqb x w) 1 0) us u

pub count_of-push_same : (w : ℕ) (us : List ℕ) (u : ℕ) → u ≡ w → count_of w (us ++ u ∷ []) ≡ suc (count_of w us)
count_of-push_same w us u e = omega (arith, count_of-push w us u, cond-true {A = ℕ} (eqb u w) 1 0 (eq-eqb u w e))

pub count_of-push_other : (w : ℕ) (us : List ℕ) (u : ℕ) → u ≢ w → count_of w (us ++ u ∷ []) ≡ count_of w us
count_of-push_other w us u n = omega (arith, count_of-push w us u, cond-false {A = ℕ} (eqb u w) 1 0 (ne_eqb u w n))
