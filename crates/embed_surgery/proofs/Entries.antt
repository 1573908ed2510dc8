-- What comes after an entry of two lists put together.
use Rattle.std.proofs.Common.{◌≡◌, ◌≢◌, ◌⊎◌, ℕ, ◌+◌, ◌<◌, ◌≤◌, List, [], ◌∷◌, ◌++◌, length, get_or, take, drop, AllPairs, Contains, refl, sym, ap, ◌∙◌, subst, inl, inr, arith, length-append, drop-cons}
use Rattle.std.proofs.lemmas.Bool.{cases_lt, cases_eq}
use Rattle.std.proofs.lemmas.List.{get_or_default, get_or_append_left, get_or-append_right, get_or_past, take-append-drop, append-nil}
use Rattle.std.proofs.lemmas.List.Elements.{Contains-append_cases, Contains-append_left, Contains-append_right}
use Rattle.map_theory.specs.Maps.{entry_after, place_of, HasDart, IsSimpleMap, IsPlane, list_of}
use Rattle.map_theory.proofs.DartLemmas.{place_of-lt-length, get_or-place_of, place_of-get_or, place_of-here}
use Rattle.map_theory.specs.Paths.{from_entry}
use Rattle.map_theory.proofs.EntryLemmas.{AllPairs-left, AllPairs-right, AllPairs-append, AllPairs-tail, head_apart, Contains-here, Contains-there, Contains-cons_cases}
use Rattle.map_theory.proofs.ArcLemmas.{from_entry-first, length-from_entry}
use Rattle.embed_surgery.proofs.Turned.{Contains-turned, AllPairs-turned, entry_after-turned}
use Rattle.std.specs.Prelude.{◌↔◌, ◌==◌, if◌then◌else◌, map}
use Rattle.std.specs.List.{range_with_len}
use Rattle.map_lists.specs.Lists.{Lists}

-- the lists that a function gives for n vertices
abbrev pub lists_by : (ℕ → List ℕ) → ℕ → Lists
lists_by f n = map f (range_with_len 0 n)

-- at each vertex the list of the one map, and then that of the other
abbrev pub glued_lists : Lists → Lists → Lists
glued_lists one other = lists_by (λ w. list_of one w ++ list_of other w) (length one)

-- the list of a vertex from x on, and then another list from behind its x on
abbrev pub glued_at : ℕ → List ℕ → List ℕ → List ℕ
glued_at x us vs = from_entry x us ++ drop 1 (from_entry x vs)

-- The same, but along the edge from u to v, which both have: at u first the list of the one map, from v on, and then that of the other behind v; at v first that of the other, from u on, and then that of the one behind u.
abbrev pub edge_glued_lists : Lists → Lists → ℕ → ℕ → Lists
edge_glued_lists one other u v =
    lists_by (λ w. if w == u then glued_at v (list_of one u) (list_of other u) else if w == v then glued_at u (list_of other v) (list_of one v) else list_of one w ++ list_of other w) (length one)

-- a map of genus zero with just the edges of the two
pub record IsUnion (one other new : Lists) : Type 0 where
  pub simple : IsSimpleMap new
  pub plane : IsPlane new
  pub vertices : length new ≡ length one
  pub darts : (u v : ℕ) → HasDart new u v ↔ (HasDart one u v ⊎ HasDart other u v)

-- a list without entries
pub empty_list : (us : List ℕ) → length us ≤ 0 → us ≡ []
empty_list [] l = refl
empty_list (u ∷ us) l = absurd (omega arith)

-- the first entry of a list
abbrev pub head_of : List ℕ → ℕ
head_of us = get_or us 0 0

-- the entry after one, by its place
after_inside : (us : List ℕ) (x : ℕ) → place_of x us + 1 < length us → entry_after x us ≡ get_or us (place_of x us + 1) 0
unfolding entry_after
after_inside us x l = get_or_default us (place_of x us + 1) (get_or us 0 x) 0 l

after_last : (us : List ℕ) (x : ℕ) → Contains us x → length us ≤ place_of x us + 1 → entry_after x us ≡ head_of us
unfolding entry_after
after_last us x c l = get_or_past us (place_of x us + 1) (get_or us 0 x) l ∙ get_or_default us 0 x 0 (let m = c.1 in omega arith)

-- the entry after one that is not the last is not the first
not_first : (us : List ℕ) (x : ℕ) → AllPairs ◌≢◌ us → place_of x us + 1 < length us → entry_after x us ≢ head_of us
not_first us x distinct l e = distinct 0 (place_of x us + 1) 0 (omega arith) l (sym (sym (after_inside us x l) ∙ e))

module _ (us vs : List ℕ) (distinct : AllPairs ◌≢◌ (us ++ vs)) where
  n : length (us ++ vs) ≡ length us + length vs
  n = length-append us vs

  -- places in the two parts
  place_left : (x : ℕ) → Contains us x → place_of x (us ++ vs) ≡ place_of x us
  place_left x c =
      let l = place_of-lt-length x us c in
      let at : get_or (us ++ vs) (place_of x us) 0 ≡ x = get_or_append_left us vs 0 (place_of x us) l ∙ get_or-place_of x us 0 l in
      ap (λ z. place_of z (us ++ vs)) (sym at) ∙ place_of-get_or (us ++ vs) (place_of x us) 0 distinct (omega (arith, n))

  place_right : (x : ℕ) → Contains vs x → place_of x (us ++ vs) ≡ length us + place_of x vs
  place_right x c =
      let l = place_of-lt-length x vs c in
      let i = length us + place_of x vs in
      let at : get_or (us ++ vs) i 0 ≡ x = get_or-append_right us vs (length us) i 0 refl (omega arith) ∙ (ap (λ j. get_or vs j 0) (omega arith) ∙ get_or-place_of x vs 0 l) in
      ap (λ z. place_of z (us ++ vs)) (sym at) ∙ place_of-get_or (us ++ vs) i 0 distinct (omega (arith, n))

  -- after an entry of the first list: what comes after it there, or the first of the second list in place of the first of the first
  pub entry_after-left : 0 < length vs → (x : ℕ) → Contains us x → ((entry_after x (us ++ vs) ≡ entry_after x us) × (entry_after x us ≢ head_of us)) ⊎ ((entry_after x us ≡ head_of us) × (entry_after x (us ++ vs) ≡ head_of vs))
  entry_after-left some x c =
      let l = place_of-lt-length x us c in
      grind (arith, place_left x c, n, cases_lt, place_of, length, after_inside, get_or, get_or_append_left, not_first, AllPairs-left, after_last, get_or-append_right)

  -- after an entry of the second list
  pub entry_after-right : 0 < length us → (x : ℕ) → Contains vs x → ((entry_after x (us ++ vs) ≡ entry_after x vs) × (entry_after x vs ≢ head_of vs)) ⊎ ((entry_after x vs ≡ head_of vs) × (entry_after x (us ++ vs) ≡ head_of us))
  entry_after-right some x c =
      let l = place_of-lt-length x vs c in
      let m = n in
      let p = place_right x c in
      let whole : Contains (us ++ vs) x = (length us + place_of x vs, omega arith, get_or-append_right us vs (length us) (length us + place_of x vs) x refl (omega arith) ∙ (ap (λ j. get_or vs j x) (omega arith) ∙ get_or-place_of x vs x l)) in
      elim (cases_lt (place_of x vs + 1) (length vs)) [
        | inl inside ↦
            inl (after_inside (us ++ vs) x (omega arith) ∙ (get_or-append_right us vs (length us) (place_of x (us ++ vs) + 1) 0 refl (omega arith) ∙ (ap (λ j. get_or vs j 0) (omega arith) ∙ sym (after_inside vs x inside))), not_first vs x (AllPairs-right us vs distinct) inside)
        | inr last ↦
            inr (after_last vs x c last, after_last (us ++ vs) x whole (omega arith) ∙ get_or_append_left us vs 0 0 some)
      ]

-- a list from one of its entries on
pub from_entry-same : (us : List ℕ) (x : ℕ) → AllPairs ◌≢◌ us → (AllPairs ◌≢◌ (from_entry x us)) × ((z : ℕ) → Contains us z → Contains (from_entry x us) z) × ((z : ℕ) → Contains (from_entry x us) z → Contains us z) × ((z : ℕ) → Contains us z → entry_after z (from_entry x us) ≡ entry_after z us)
from_entry-same us x distinct =
    let p = place_of x us in
    let whole = take-append-drop p us in
    let d : AllPairs ◌≢◌ (take p us ++ drop p us) = subst (AllPairs ◌≢◌) (sym whole) distinct in
    let parts : (z : ℕ) → Contains us z → Contains (take p us ++ drop p us) z = λ z c. subst (λ l. Contains l z) (sym whole) c in (
      AllPairs-turned (take p us) (drop p us) d,
      λ z c. Contains-turned (take p us) (drop p us) z (parts z c),
      λ z c. subst (λ l. Contains l z) whole (Contains-turned (drop p us) (take p us) z c),
      λ z c. entry_after-turned (take p us) (drop p us) d z (parts z c) ∙ ap (entry_after z) whole,
    )

-- Two lists from x on, the second behind x, where they share x alone.
module _ (us vs : List ℕ) (x : ℕ) (du : AllPairs ◌≢◌ us) (dv : AllPairs ◌≢◌ vs) (cu : Contains us x) (cv : Contains vs x) (alone : (z : ℕ) → Contains us z → Contains vs z → z ≡ x) where
  abbrev A : List ℕ
  A = from_entry x us

  abbrev B : List ℕ
  B = from_entry x vs

  abbrev R : List ℕ
  R = drop 1 (from_entry x vs)

  fu : (AllPairs ◌≢◌ A) × ((z : ℕ) → Contains us z → Contains A z) × ((z : ℕ) → Contains A z → Contains us z) × ((z : ℕ) → Contains us z → entry_after z A ≡ entry_after z us)
  fu = from_entry-same us x du

  fv : (AllPairs ◌≢◌ B) × ((z : ℕ) → Contains vs z → Contains B z) × ((z : ℕ) → Contains B z → Contains vs z) × ((z : ℕ) → Contains vs z → entry_after z B ≡ entry_after z vs)
  fv = from_entry-same vs x dv

  B_is : B ≡ x ∷ R
  B_is =
      drop-cons B 0 0 (let l = cv.1 in omega (arith, length-from_entry vs x dv cv)) ∙ ap (λ z. z ∷ R) (from_entry-first vs x dv cv)

  head_A : head_of A ≡ x
  head_A = from_entry-first us x du cu

  some_A : 0 < length A
  some_A = let n = length-from_entry us x du cu in let l = cu.1 in omega arith

  d_B : AllPairs ◌≢◌ (x ∷ R)
  d_B = subst (AllPairs ◌≢◌) B_is fv.0

  in_R : (z : ℕ) → Contains R z → Contains vs z
  in_R z c = fv.2 z (subst (λ l. Contains l z) (sym B_is) (Contains-there x R z c))

  R_not_x : (z : ℕ) → Contains R z → z ≢ x
  R_not_x z c e = head_apart x R d_B (subst (Contains R) e c)

  to_R : (z : ℕ) → Contains vs z → z ≢ x → Contains R z
  to_R z c ne = elim (Contains-cons_cases x R z (subst (λ l. Contains l z) B_is (fv.1 z c))) [ inl e ↦ absurd (ne (sym e)) | inr h ↦ h ]

  pub glued-distinct : AllPairs ◌≢◌ (glued_at x us vs)
  glued-distinct = AllPairs-append A R fu.0 (AllPairs-tail x R d_B) (λ z c c'. R_not_x z c' (alone z (fu.2 z c) (in_R z c')))

  pub glued-old : (z : ℕ) → Contains (glued_at x us vs) z → Contains us z ⊎ Contains vs z
  glued-old z c = elim (Contains-append_cases A R z c) [ inl h ↦ inl (fu.2 z h) | inr h ↦ inr (in_R z h) ]

  pub glued-all : (z : ℕ) → Contains us z ⊎ Contains vs z → Contains (glued_at x us vs) z
  glued-all z h =
      let left : Contains us z → Contains (A ++ R) z = λ c. Contains-append_left A R z (fu.1 z c) in
      elim h [
        | inl c ↦ left c
        | inr c ↦ elim (cases_eq z x) [ inl e ↦ left (subst (Contains us) (sym e) cu) | inr ne ↦ Contains-append_right A R z (to_R z c ne) ]
      ]

  -- what x comes before in the second list
  after_x : 0 < length R → entry_after x vs ≡ head_of R
  after_x some =
      let p : place_of x (x ∷ R) ≡ 0 = place_of-here x x R refl in
      sym (fv.3 x cv) ∙ (ap (entry_after x) B_is ∙ (after_inside (x ∷ R) x (omega arith) ∙ ap (λ j. get_or (x ∷ R) (j + 1) 0) p))

  -- after an entry of the first list
  pub glued-first : (z : ℕ) → Contains us z → ((entry_after z (glued_at x us vs) ≡ entry_after z us) × (entry_after z us ≢ x)) ⊎ ((entry_after z us ≡ x) × (entry_after z (glued_at x us vs) ≡ entry_after x vs))
  glued-first z c =
      elim (cases_lt 0 (length R)) [
        | inl some ↦ grind (arith, entry_after-left, glued-distinct, fu, head_A, after_x)
        | inr none ↦ grind (arith, fu.3 z c, empty_list, entry_after, glued_at, append-nil, cases_eq, B_is, fv, after_last, Contains-here)
      ]

  -- after an entry of the second but x
  pub glued-second : (z : ℕ) → Contains vs z → z ≢ x → entry_after z (glued_at x us vs) ≡ entry_after z vs
  glued-second z c ne =
      let h = to_R z c ne in
      let old : entry_after z vs ≡ entry_after z (x ∷ R) = sym (fv.3 z c) ∙ ap (entry_after z) B_is in
      elim (entry_after-right A R glued-distinct some_A z h) [
        | inl q ↦ elim (entry_after-right (x ∷ []) R d_B (omega arith) z h) [
          | inl q' ↦ q.0 ∙ (sym q'.0 ∙ sym old)
          | inr q' ↦ absurd (q.1 q'.0)
        ]
        | inr q ↦ elim (entry_after-right (x ∷ []) R d_B (omega arith) z h) [
          | inl q' ↦ absurd (q'.1 q.0)
          | inr q' ↦ q.1 ∙ (head_A ∙ (sym q'.1 ∙ sym old))
        ]
      ]
