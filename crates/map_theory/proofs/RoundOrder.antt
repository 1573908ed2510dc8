-- Lists whose entries go once round by an order, cyclically: they do so exactly where they are in order from some entry on, and so do their parts.
use Rattle.std.proofs.Common.{◌≡◌, ◌≢◌, ◌⊎◌, ℕ, zero, suc, ◌+◌, ◌-◌, ◌<◌, ◌≤◌, Bool, List, [], ◌∷◌, ◌++◌, length, take, drop, get_or, AllPairs, Contains, refl, sym, ap, subst, ◌∙◌, inl, inr, arith, append-nil, length-append}
use Rattle.std.specs.List.{filter}
use Rattle.std.proofs.lemmas.Bool.{cases_lt, cases_eq}
use Rattle.std.proofs.lemmas.Bool.Decides.{nat_tests}
use Rattle.std.proofs.lemmas.List.{take-append-drop, get_or_default, get_or_append_left, get_or-append-add}
use Rattle.std.proofs.lemmas.List.Elements.{filter-append}
use Rattle.std.proofs.lemmas.List.Kept.{AllPairs-filter}
use Rattle.map_theory.specs.Maps.{place_of, entry_after}
use Rattle.map_theory.specs.Paths.{from_entry}
use Rattle.map_theory.proofs.DartLemmas.{place_of-lt-length, get_or-place_of, place_of-get_or, place_of-entry_after, place_of-here, Contains-entry_after, place_after}
use Rattle.map_theory.proofs.ArcLemmas.{length-from_entry, from_entry-in, from_entry-next, from_entry-not_first}

place_after-apart : (n k : ℕ) → 2 ≤ n → k < n → place_after n k ≡ k → ⊥
place_after-apart n k two l e = grind (arith, nat_tests)

-- the entry after one of at least two is another
entry_after-other : (us : List ℕ) (x : ℕ) → AllPairs ◌≢◌ us → 2 ≤ length us → Contains us x → entry_after x us ≢ x
entry_after-other us x distinct two has e =
    place_after-apart (length us) (place_of x us) two (place_of-lt-length x us has) (sym (place_of-entry_after x us distinct has) ∙ ap (λ y. place_of y us) e)

-- the turned list has each entry
from_entry-has : (us : List ℕ) (a x : ℕ) → AllPairs ◌≢◌ us → Contains us a → Contains us x → (j : ℕ) × (j < length us) × (get_or (from_entry a us) j 0 ≡ x)
from_entry-has us a x distinct has_a has =
    let p = place_of a us in
    let whole = take-append-drop p us in
    let parts = length-append (take p us) (drop p us) in
    let q = place_of x us in
    let lq = place_of-lt-length x us has in
    let at' : get_or (take p us ++ drop p us) q 0 ≡ x = ap (λ l. get_or l q 0) whole ∙ (get_or-place_of x us 0 lq) in
    elim (cases_lt q (length (take p us))) [
      | inl l ↦ (
        length (drop p us) + q,
        omega (arith, ap length whole),
        get_or-append-add (drop p us) (take p us) q 0 ∙ (sym (get_or_append_left (take p us) (drop p us) 0 q l) ∙ at'),
      )
      | inr m ↦ (
          let k = q - length (take p us) in
          let back : length (take p us) + k ≡ q = omega arith in
          let l : k < length (drop p us) = omega (arith, ap length whole) in (
            k,
            omega (arith, ap length whole),
            get_or_append_left (drop p us) (take p us) 0 k l ∙ (sym (get_or-append-add (take p us) (drop p us) k 0) ∙ (ap (λ i. get_or (take p us ++ drop p us) i 0) back ∙ at')),
          ))
    ]

module _ (R : ℕ → ℕ → Type 0) (decided : (x y : ℕ) → R x y ⊎ ¬ R x y) (apart : (x y : ℕ) → R x y → ¬ R y x) (chained : (x y z : ℕ) → R x y → R y z → R x z) where
  -- what follows x does not come after it
  abbrev pub Breaks : List ℕ → ℕ → Type 0
  Breaks us x = ¬ R x (entry_after x us)

  -- entries each of which comes before the next are in order
  in_order : (zs : List ℕ) (n : ℕ) → ((i : ℕ) → suc i < n → R (get_or zs i 0) (get_or zs (suc i) 0)) → (i k j : ℕ) → j ≡ suc (i + k) → j < n → R (get_or zs i 0) (get_or zs j 0)
  in_order zs n step i zero j e l = subst (λ q. R (get_or zs i 0) (get_or zs q 0)) (let s : suc i ≡ j = omega arith in s) (step i (omega arith))
  in_order zs n step i (suc k) j e l =
      let before = in_order zs n step i k (suc (i + k)) refl (omega arith) in
      subst (λ q. R (get_or zs i 0) (get_or zs q 0)) (let s : suc (suc (i + k)) ≡ j = omega arith in s) (chained _ _ _ before (step (suc (i + k)) (omega arith)))

  -- with just one break, the list from the entry behind it on is in order
  pub sorted_from_once : (us : List ℕ) (x : ℕ) → AllPairs ◌≢◌ us → Contains us x → ((y : ℕ) → Contains us y → Breaks us y → y ≡ x) → AllPairs R (from_entry (entry_after x us) us)
  sorted_from_once us x distinct has one i j d less l =
      let a = entry_after x us in
      let has_a = Contains-entry_after x us has in
      let zs = from_entry a us in
      let n = length-from_entry us a distinct has_a in
      let step : (k : ℕ) → suc k < length us → R (get_or zs k 0) (get_or zs (suc k) 0) = λ k lk.
      let next = from_entry-next us a distinct has_a k lk in
      grind (arith, get_or, entry_after, from_entry-in, from_entry-not_first) in
      let e : j ≡ suc (i + (j - suc i)) = omega arith in
      let r = in_order zs (length us) step i (j - suc i) j e (omega arith) in
      subst (λ y. R y (get_or zs j d)) (get_or_default zs i 0 d (omega arith)) (subst (R (get_or zs i 0)) (get_or_default zs j 0 d l) r)

  -- a list of two at least that is in order from some entry on has just one break
  pub once_from_sorted : (us : List ℕ) (a : ℕ) → AllPairs ◌≢◌ us → 2 ≤ length us → Contains us a → AllPairs R (from_entry a us) → (x : ℕ) × Contains us x × Breaks us x × ((y : ℕ) → Contains us y → Breaks us y → y ≡ x)
  once_from_sorted us a distinct two has_a sorted =
      let zs = from_entry a us in
      let n = length-from_entry us a distinct has_a in
      let last = length us - 1 in
      let x = get_or zs last 0 in
      let has = from_entry-in us a distinct has_a last (omega arith) in
      let at_end : (y j : ℕ) → j < length us → get_or zs j 0 ≡ y → y ≢ x → j < last = λ y j lj e ne.
      elim (cases_lt j last) [
        | inl l ↦ l
        | inr m ↦ (let same : j ≡ last = omega arith in absurd (ne (sym e ∙ ap (λ q. get_or zs q 0) same)))
      ] in (
        x,
        has,
        λ r.
            let y = entry_after x us in
            let at = from_entry-has us a y distinct has_a (Contains-entry_after x us has) in
            let lj = at_end y at.0 at.1 at.2 (entry_after-other us x distinct two has) in
            apart x y r (subst (λ z. R z x) at.2 (sorted at.0 last 0 lj (omega arith))),
        λ y has_y b.
            let at = from_entry-has us a y distinct has_a has_y in
            grind (arith, cases_eq, from_entry-next, entry_after, get_or),
      )

  -- two parts, in order with the second first
  sorted_parts : (us vs : List ℕ) → AllPairs ◌≢◌ (us ++ vs) → 1 ≤ length (us ++ vs) → AllPairs R (vs ++ us) → (b : ℕ) × Contains (us ++ vs) b × AllPairs R (from_entry b (us ++ vs))
  sorted_parts [] [] distinct some sorted = absurd (omega arith)
  sorted_parts (u ∷ us) [] distinct some sorted =
      let e = append-nil (u ∷ us) in
      let first : place_of u ((u ∷ us) ++ []) ≡ 0 = place_of-here u u (us ++ []) refl in (
        u,
        (0, some, refl),
        subst (λ k. AllPairs R (drop k ((u ∷ us) ++ []) ++ take k ((u ∷ us) ++ []))) (sym first) (subst (AllPairs R) (sym (append-nil ((u ∷ us) ++ []) ∙ e)) sorted),
      )
  sorted_parts us (v ∷ vs) distinct some sorted =
      let long = length-append us (v ∷ vs) in
      let at : get_or (us ++ v ∷ vs) (length us) 0 ≡ v = get_or_seam us v vs in
      let place : place_of v (us ++ v ∷ vs) ≡ length us = sym (ap (λ y. place_of y (us ++ v ∷ vs)) at) ∙ place_of-get_or (us ++ v ∷ vs) (length us) 0 distinct (omega arith) in (
        v,
        (length us, omega arith, get_or_default (us ++ v ∷ vs) (length us) v 0 (omega arith) ∙ at),
        subst (λ k. AllPairs R (drop k (us ++ v ∷ vs) ++ take k (us ++ v ∷ vs))) (sym place)
            (subst (λ l. AllPairs R (l ++ take (length us) (us ++ v ∷ vs))) (sym (drop_whole us (v ∷ vs))) (subst (λ l. AllPairs R ((v ∷ vs) ++ l)) (sym (take_whole us (v ∷ vs))) sorted)),
      )
    where
      get_or_seam : (xs : List ℕ) (y : ℕ) (ys : List ℕ) → get_or (xs ++ y ∷ ys) (length xs) 0 ≡ y
      get_or_seam [] y ys = refl
      get_or_seam (x ∷ xs) y ys = get_or_seam xs y ys

      drop_whole : (xs ys : List ℕ) → drop (length xs) (xs ++ ys) ≡ ys
      drop_whole [] ys = refl
      drop_whole (x ∷ xs) ys = drop_whole xs ys

      take_whole : (xs ys : List ℕ) → take (length xs) (xs ++ ys) ≡ xs
      take_whole [] ys = refl
      take_whole (x ∷ xs) ys = ap (λ l. x ∷ l) (take_whole xs ys)

  -- the entries that pass a test are in order from some entry on, where all are
  pub sorted_kept : (p : ℕ → Bool) (us : List ℕ) (a : ℕ) → AllPairs ◌≢◌ us → 1 ≤ length (filter p us) → AllPairs R (from_entry a us) → (b : ℕ) × Contains (filter p us) b × AllPairs R (from_entry b (filter p us))
  sorted_kept p us a distinct some sorted =
      let k = place_of a us in
      let parts : filter p us ≡ filter p (take k us) ++ filter p (drop k us) = ap (filter p) (sym (take-append-drop k us)) ∙ filter-append p (take k us) (drop k us) in
      let turned : AllPairs R (filter p (drop k us) ++ filter p (take k us)) = subst (AllPairs R) (filter-append p (drop k us) (take k us)) (AllPairs-filter R p (from_entry a us) sorted) in
      subst (λ l. (b : ℕ) × Contains l b × AllPairs R (from_entry b l)) (sym parts)
      (sorted_parts (filter p (take k us)) (filter p (drop k us)) (subst (AllPairs ◌≢◌) parts (AllPairs-filter ◌≢◌ p us distinct)) (subst (λ l. 1 ≤ length l) parts some) turned)
