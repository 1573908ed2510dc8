-- A list without one of its entries, and with one more: what stands in it, and what comes after what.
use Rattle.std.proofs.Common.{◌≡◌, ◌≢◌, ℕ, suc, ◌+◌, ◌-◌, ◌<◌, ◌≤◌, Bool, false, cond, ltb, eqb, List, [], ◌∷◌, ◌++◌, length, get_or, take, drop, AllPairs, Contains, sym, ap, ◌∙◌, subst, inl, inr, arith}
use Rattle.std.specs.List.{insert, remove, filter}
use Rattle.std.proofs.lemmas.List.Elements.{filter-append}
use Rattle.std.proofs.lemmas.Bool.{cases_lt, cases_eq}
use Rattle.std.proofs.lemmas.Bool.Decides.{nat_tests}
use Rattle.std.proofs.lemmas.List.{append_assoc, length-append, length-take-le, take_at, drop_at, take-append-drop, get_or_default}
use Rattle.std.proofs.lemmas.List.Edits.{length-insert, get_or-insert_below, get_or-insert_at, length-remove, get_or-remove_below, get_or-remove_above}
use Rattle.std.proofs.lemmas.List.Sorted.{sum_by-IsPermutation, IsPermutation-insert}
use Rattle.map_theory.specs.Maps.{place_of, entry_after}
use Rattle.map_theory.specs.Edges.{without_entry}
use Rattle.map_theory.proofs.EntryLemmas.{count_of, count_of-here, count_of-there, count_of-le-one, Contains-from_count_of, AllPairs-from_counts}
use Rattle.map_theory.proofs.DartLemmas.{place_of-lt-length, get_or-place_of, place_of-get_or, place_after, place_after-lt, entry_after-place}

-- place j of the shorter list, in the longer one, from which place p was taken
abbrev old_place : ℕ → ℕ → ℕ
old_place p j = cond (ltb j p) j (j + 1)

-- place j of the longer list, in the shorter one
abbrev new_place : ℕ → ℕ → ℕ
new_place p j = cond (ltb j p) j (j - 1)

old_new : (p j : ℕ) → j ≢ p → old_place p (new_place p j) ≡ j
old_new p j ne = grind (arith, nat_tests)

new_place-lt : (n p j : ℕ) → j ≢ p → p < n → j < n → new_place p j < n - 1
new_place-lt n p j ne h l = grind (arith, nat_tests)

old_place-lt : (n p j : ℕ) → p < n → j < n - 1 → old_place p j < n
old_place-lt n p j h l = grind (arith, nat_tests)

old_place-other : (p j : ℕ) → old_place p j ≢ p
old_place-other p j e = grind (arith, nat_tests)

old_place-apart : (p i j : ℕ) → i < j → old_place p i < old_place p j
old_place-apart p i j l = grind (arith, nat_tests)

-- the place after, with p taken out
old_after : (n p j : ℕ) → p < n → j < n - 1 → place_after n (old_place p j) ≢ p → old_place p (place_after (n - 1) j) ≡ place_after n (old_place p j)
old_after n p j h l ne = grind (arith, nat_tests)

old_after-skip : (n p j : ℕ) → p < n → j < n - 1 → place_after n (old_place p j) ≡ p → old_place p (place_after (n - 1) j) ≡ place_after n p
old_after-skip n p j h l e = grind (arith, nat_tests)

module _ (us : List ℕ) (x : ℕ) (distinct : AllPairs ◌≢◌ us) (has : Contains us x) where
  in_x : place_of x us < length us
  in_x = place_of-lt-length x us has

  pub length-without : length (without_entry us x) + 1 ≡ length us
  length-without = length-remove us (place_of x us) in_x

  without-at : (j : ℕ) → j < length (without_entry us x) → get_or (without_entry us x) j 0 ≡ get_or us (old_place (place_of x us) j) 0
  without-at j l = grind (arith, cases_lt, place_of, old_place, nat_tests, get_or-remove_below, in_x, get_or, get_or-remove_above)

  -- what is left stood in the list, and is not x
  pub without-old : (z : ℕ) → Contains (without_entry us x) z → Contains us z × (z ≢ x)
  without-old z h =
      let q = old_place (place_of x us) h.0 in
      let in_q : q < length us = old_place-lt (length us) (place_of x us) h.0 in_x (omega (arith, length-without)) in
      let at : get_or us q 0 ≡ z = sym (without-at h.0 h.1) ∙ (get_or_default (without_entry us x) h.0 0 z h.1 ∙ h.2) in (
        (q, in_q, get_or_default us q z 0 in_q ∙ at),
        λ e. old_place-other (place_of x us) h.0 (sym (place_of-get_or us q 0 distinct in_q) ∙ ap (λ y. place_of y us) (at ∙ e)),
      )

  -- and all but x is left
  pub without-new : (z : ℕ) → Contains us z → z ≢ x → Contains (without_entry us x) z
  without-new z h ne =
      let j = place_of z us in
      let l = place_of-lt-length z us h in
      let other : j ≢ place_of x us = λ e. ne (sym (get_or-place_of z us 0 l) ∙ (ap (λ y. get_or us y 0) e ∙ get_or-place_of x us 0 in_x)) in
      let i = new_place (place_of x us) j in
      let in_i : i < length (without_entry us x) = let m = new_place-lt (length us) (place_of x us) j other in_x l in omega (arith, length-without) in
      (i, in_i, get_or_default (without_entry us x) i z 0 in_i ∙ (without-at i in_i ∙ (ap (λ y. get_or us y 0) (old_new (place_of x us) j other) ∙ get_or-place_of z us 0 l)))

  pub without-distinct : AllPairs ◌≢◌ (without_entry us x)
  without-distinct i j d l m e =
      let n = length-without in
      let p = place_of x us in
      let li : i < length (without_entry us x) = omega arith in
      let one = get_or_default (without_entry us x) i d 0 li ∙ without-at i li in
      let other = get_or_default (without_entry us x) j d 0 m ∙ without-at j m in
      distinct (old_place p i) (old_place p j) 0 (old_place-apart p i j l) (old_place-lt (length us) p j in_x (omega arith)) (sym one ∙ (e ∙ other))

  -- what comes after z in the list that is left, by its place in the whole one
  after-place : (z : ℕ) → Contains (without_entry us x) z → (j : ℕ) × (j < length us - 1) × (place_of z us ≡ old_place (place_of x us) j) × (entry_after z (without_entry us x) ≡ get_or us (old_place (place_of x us) (place_after (length us - 1) j)) 0)
  after-place z h =
      let rest = without_entry us x in
      let j = place_of z rest in
      let l = place_of-lt-length z rest h in
      let q = old_place (place_of x us) j in
      let in_q = old_place-lt (length us) (place_of x us) j in_x (omega (arith, length-without)) in
      let m : length rest ≡ length us - 1 = omega (arith, length-without) in (
        j,
        omega (arith, length-without),
        ap (λ y. place_of y us) (sym (sym (without-at j l) ∙ get_or-place_of z rest 0 l)) ∙ place_of-get_or us q 0 distinct in_q,
        entry_after-place z rest 0 l ∙ without-at (place_after (length rest) j) (place_after-lt (length rest) j l) ∙ ap (λ y. get_or us (old_place (place_of x us) (place_after y j)) 0) m,
      )

  -- what comes after z in the whole list
  after-whole : (z : ℕ) → Contains us z → (q : ℕ) → place_of z us ≡ q → (place_after (length us) q < length us) × (entry_after z us ≡ get_or us (place_after (length us) q) 0)
  after-whole z h q place =
      let l = place_of-lt-length z us h in
      (place_after-lt (length us) q (omega (arith, l, place)), entry_after-place z us 0 l ∙ ap (λ y. get_or us (place_after (length us) y) 0) place)

  -- the same as in the whole list, where that was not x
  pub entry_after-without : (z : ℕ) → Contains (without_entry us x) z → entry_after z us ≢ x → entry_after z (without_entry us x) ≡ entry_after z us
  entry_after-without z h ne =
      let a = after-place z h in
      let b = after-whole z (without-old z h).0 (old_place (place_of x us) a.0) a.2 in
      a.3
      ∙ ap (λ y. get_or us y 0) (old_after (length us) (place_of x us) a.0 in_x a.1 (λ e. ne (b.1 ∙ ap (λ y. get_or us y 0) e ∙ get_or-place_of x us 0 in_x)))
      ∙ sym b.1

  -- and what came after x, where it was x
  pub entry_after-without_skip : (z : ℕ) → Contains (without_entry us x) z → entry_after z us ≡ x → entry_after z (without_entry us x) ≡ entry_after x us
  entry_after-without_skip z h e =
      let a = after-place z h in
      let b = after-whole z (without-old z h).0 (old_place (place_of x us) a.0) a.2 in
      let same = sym (place_of-get_or us (place_after (length us) (old_place (place_of x us) a.0)) 0 distinct b.0) ∙ ap (λ y. place_of y us) (sym b.1 ∙ e) in
      a.3 ∙ ap (λ y. get_or us y 0) (old_after-skip (length us) (place_of x us) a.0 in_x a.1 same) ∙ sym (entry_after-place x us 0 in_x)

  -- the first entry that is left: what came after x where x was the first
  pub first-without_skip : get_or us 0 0 ≡ x → 0 < length (without_entry us x) → get_or (without_entry us x) 0 0 ≡ entry_after x us
  first-without_skip first some =
      let place : place_of x us ≡ 0 = ap (λ y. place_of y us) (sym first) ∙ place_of-get_or us 0 0 distinct (omega arith) in
      let at : old_place 0 0 ≡ place_after (length us) 0 = grind (arith, nat_tests) in
      without-at 0 some ∙ ap (λ p. get_or us (old_place p 0) 0) place ∙ ap (λ k. get_or us k 0) at ∙ ap (λ k. get_or us (place_after (length us) k) 0) (sym place) ∙ sym (entry_after-place x us 0 in_x)

  -- and else the first as before
  pub first-without : get_or us 0 0 ≢ x → 0 < length (without_entry us x) → get_or (without_entry us x) 0 0 ≡ get_or us 0 0
  first-without other some =
      let at : old_place (place_of x us) 0 ≡ 0 = grind (arith, nat_tests) in
      without-at 0 some ∙ ap (λ k. get_or us k 0) at

-- put in before place k, an entry that was not there leaves the list by being taken out, and the list has no repeats
module _ (us : List ℕ) (k x : ℕ) (distinct : AllPairs ◌≢◌ us) (new : ¬ Contains us x) (k_in : k ≤ length us) where
  counts : (u : ℕ) → count_of u (insert us k x) ≡ count_of u (x ∷ us)
  counts u = sum_by-IsPermutation (λ w. cond (eqb w u) 1 0) (x ∷ us) (insert us k x) (IsPermutation-insert us k x)

  pub distinct-insert : AllPairs ◌≢◌ (insert us k x)
  distinct-insert =
      AllPairs-from_counts (insert us k x) (λ u c.
      elim (cases_eq x u) [
        | inl e ↦
            elim (cases_lt (count_of u us) 1) [
              | inl none ↦ omega (arith, counts u, count_of-here u x us e)
              | inr some ↦ absurd (new (subst (λ y. Contains us y) (sym e) (Contains-from_count_of u us some)))
            ]
        | inr n ↦ omega (arith, counts u, count_of-there u x us n, count_of-le-one u us distinct)
      ])

  at_k : get_or (insert us k x) k 0 ≡ x
  at_k = get_or-insert_at us k x 0 k_in

  pub Contains-insert : Contains (insert us k x) x
  Contains-insert = (k, omega (arith, length-insert us k x k_in), get_or-insert_at us k x x k_in)

  pub without-insert : without_entry (insert us k x) x ≡ us
  without-insert =
      let place : place_of x (insert us k x) ≡ k = ap (λ y. place_of y (insert us k x)) (sym at_k) ∙ place_of-get_or (insert us k x) k 0 distinct-insert (omega (arith, length-insert us k x k_in)) in
      let front = length-take-le k us k_in in
      ap (λ p. remove (insert us k x) p) place
      ∙ ap (λ xs. xs ++ drop (suc k) (insert us k x)) (take_at (take k us) (x ∷ drop k us) k front)
      ∙ ap (λ xs. take k us ++ xs) (ap (λ xs. drop (suc k) xs) (sym (append_assoc (take k us) (x ∷ []) (drop k us))) ∙ drop_at (take k us ++ x ∷ []) (drop k us) (suc k) (omega (arith, length-append (take k us) (x ∷ []), front)))
      ∙ take-append-drop k us

-- put in directly behind an entry, it comes after it, and the first stays
module _ (us : List ℕ) (a x : ℕ) (distinct : AllPairs ◌≢◌ us) (new : ¬ Contains us x) (has : Contains us a) where
  a_in : place_of a us < length us
  a_in = place_of-lt-length a us has

  pub entry_after-insert : entry_after a (insert us (place_of a us + 1) x) ≡ x
  entry_after-insert =
      let k = place_of a us in
      let k_in : k + 1 ≤ length us = omega (arith, a_in) in
      let n = length-insert us (k + 1) x k_in in
      let at : get_or (insert us (k + 1) x) k 0 ≡ a = get_or-insert_below us (k + 1) x 0 k (omega arith) k_in ∙ get_or-place_of a us 0 a_in in
      let place : place_of a (insert us (k + 1) x) ≡ k = ap (λ y. place_of y (insert us (k + 1) x)) (sym at) ∙ place_of-get_or (insert us (k + 1) x) k 0 (distinct-insert us (k + 1) x distinct new k_in) (omega (arith, n, a_in)) in
      let after : place_after (length (insert us (k + 1) x)) k ≡ k + 1 = let m : k + 1 < length (insert us (k + 1) x) = omega (arith, n, a_in) in grind (arith, nat_tests) in
      entry_after-place a (insert us (k + 1) x) 0 (omega (arith, place, n, a_in))
      ∙ ap (λ p. get_or (insert us (k + 1) x) (place_after (length (insert us (k + 1) x)) p) 0) place ∙ ap (λ p. get_or (insert us (k + 1) x) p 0) after
      ∙ get_or-insert_at us (k + 1) x 0 k_in

  pub first-insert : get_or (insert us (place_of a us + 1) x) 0 0 ≡ get_or us 0 0
  first-insert = get_or-insert_below us (place_of a us + 1) x 0 0 (omega arith) (omega (arith, a_in))

-- an entry more that does not pass a test changes nothing of what passes
pub filter-insert : (p : ℕ → Bool) (us : List ℕ) (k x : ℕ) → p x ≡ false → filter p (insert us k x) ≡ filter p us
filter-insert p us k x fails =
    filter-append p (take k us) (x ∷ drop k us)
    ∙ ap (λ b. filter p (take k us) ++ cond b (x ∷ filter p (drop k us)) (filter p (drop k us))) fails
    ∙ sym (filter-append p (take k us) (drop k us)) ∙ ap (λ vs. filter p vs) (take-append-drop k us)
