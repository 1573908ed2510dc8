-- A list with an entry more at some place: what stands in it, what comes after the new entry, and that it is the old list without it.
use Rattle.std.proofs.Common.{◌≡◌, ◌≢◌, ◌⊎◌, ℕ, ◌+◌, ◌<◌, ◌≤◌, cond, eqb, List, ◌∷◌, length, get_or, set, take, drop, AllPairs, Contains, sym, ap, ◌∙◌, subst, inl, inr, arith, length-set, get_or-set_same, get_or-set_other}
use Rattle.std.specs.List.{insert}
use Rattle.std.proofs.lemmas.Bool.{cases_eq, cases_lt, eq-eqb, ne_eqb}
use Rattle.std.proofs.lemmas.List.{get_or_default, get_or_past, ext_get_or}
use Rattle.std.proofs.lemmas.List.Edits.{length-insert, get_or-insert_at, get_or-insert_below, get_or-insert_above, length-remove, get_or-remove_below, get_or-remove_above}
use Rattle.std.proofs.lemmas.List.Sums.{sum_by-append, sum_by-cons, sum_by-take-drop}
use Rattle.map_theory.specs.Maps.{place_of, entry_after}
use Rattle.map_theory.specs.Edges.{without_entry}
use Rattle.map_theory.proofs.EntryLemmas.{count_of, count_of-le-one, one-le-count_of, Contains-from_count_of, AllPairs-from_counts}
use Rattle.map_theory.proofs.DartLemmas.{place_of-is, place_of-lt-length, get_or-place_of, before_place_of}
use Rattle.plane_laws.specs.WithEdge.{entry_at}

-- how often a number stands in it
pub count_of-insert : (u x : ℕ) (us : List ℕ) (i : ℕ) → count_of u (insert us i x) ≡ count_of u us + cond (eqb x u) 1 0
count_of-insert u x us i =
    let p : ℕ → ℕ = λ w. cond (eqb w u) 1 0 in
    omega (arith, sum_by-append p (take i us) (x ∷ drop i us), sum_by-cons p x (drop i us), sum_by-take-drop p us i)

-- x stands nowhere in the list, which has place i or ends there
module _ (us : List ℕ) (i x : ℕ) (absent : ¬ Contains us x) (within : i ≤ length us) where
  pub insert-new : Contains (insert us i x) x
  insert-new = let n = length-insert us i x within in (i, omega arith, get_or-insert_at us i x x within)

  pub insert-kept : (z : ℕ) → Contains us z → Contains (insert us i x) z
  insert-kept z h = Contains-from_count_of z (insert us i x) (omega (arith, one-le-count_of z us h.0 z h.1 h.2, count_of-insert z x us i))

  pub insert-old : (z : ℕ) → Contains (insert us i x) z → (z ≡ x) ⊎ Contains us z
  insert-old z h =
      elim (cases_eq x z) [
        | inl e ↦ inl (sym e)
        | inr ne ↦ inr (Contains-from_count_of z us (omega (arith, one-le-count_of z (insert us i x) h.0 z h.1 h.2, count_of-insert z x us i, ap {B = ℕ} (λ b. cond b 1 0) (ne_eqb x z ne))))
      ]

  pub insert-distinct : AllPairs ◌≢◌ us → AllPairs ◌≢◌ (insert us i x)
  insert-distinct distinct =
      AllPairs-from_counts (insert us i x) (λ u c.
      elim (cases_eq x u) [
        | inl e ↦
            elim (cases_lt 0 (count_of u us)) [
              | inl l ↦ absurd (absent (subst (Contains us) (sym e) (Contains-from_count_of u us (omega arith))))
              | inr l ↦ omega (arith, count_of-insert u x us i, ap {B = ℕ} (λ b. cond b 1 0) (eq-eqb x u e))
            ]
        | inr ne ↦ omega (arith, count_of-insert u x us i, ap {B = ℕ} (λ b. cond b 1 0) (ne_eqb x u ne), count_of-le-one u us distinct)
      ])

  place_of-insert : place_of x (insert us i x) ≡ i
  place_of-insert =
      let n = length-insert us i x within in
      place_of-is x (insert us i x) i (omega arith) (get_or-insert_at us i x 0 within) (λ k l e.
      absent (k, omega arith, get_or_default us k x 0 (omega arith) ∙ (sym (get_or-insert_below us i x 0 k l within) ∙ e)))

  pub without-insert : without_entry (insert us i x) x ≡ us
  without-insert =
      let ys = insert us i x in
      let p = place_of x ys in
      let at = place_of-insert in
      let n = length-insert us i x within in
      let m = length-remove ys p (omega arith) in
      ext_get_or 0 (without_entry ys x) us (omega arith) (λ k l.
      elim (cases_lt k i) [
        | inl s ↦ get_or-remove_below ys p 0 k (omega arith) (omega arith) ∙ get_or-insert_below us i x 0 k s within
        | inr s ↦ get_or-remove_above ys p 0 k (omega arith) (omega arith) ∙ get_or-insert_above us i x 0 k s within
      ])

  -- what comes after it
  pub entry_after-insert : entry_after x (insert us i x) ≡ entry_at us i x
  unfolding entry_after
  entry_after-insert =
      let ys = insert us i x in
      let n = length-insert us i x within in
      ap (λ p. get_or ys (p + 1) (get_or ys 0 x)) place_of-insert ∙ (elim (cases_lt i (length us)) [
        | inl l ↦ get_or-insert_above us i x (get_or ys 0 x) i (omega arith) within ∙ get_or_default us i (get_or ys 0 x) (get_or us 0 x) l
        | inr l ↦
            get_or_past ys (i + 1) (get_or ys 0 x) (omega arith) ∙ ((elim (cases_eq i 0) as (λ c. get_or ys 0 x ≡ get_or us 0 x) [
              | inl z ↦ ap (λ j. get_or (insert us j x) 0 x) z ∙ (get_or-insert_at us 0 x x (omega arith) ∙ sym (get_or_past us 0 x (omega arith)))
              | inr nz ↦ get_or-insert_below us i x x 0 (omega arith) within
            ]) ∙ sym (get_or_past us i (get_or us 0 x) l))
      ])

-- what is put in directly after an entry comes after it
pub entry_after-put : (us : List ℕ) (a x : ℕ) → Contains us a → entry_after a (insert us (place_of a us + 1) x) ≡ x
unfolding entry_after
entry_after-put us a x has =
    let p = place_of a us in
    let l = place_of-lt-length a us has in
    let ys = insert us (p + 1) x in
    let n = length-insert us (p + 1) x (omega arith) in
    let at : place_of a ys ≡ p =
    place_of-is a ys p (omega arith) (get_or-insert_below us (p + 1) x 0 p (omega arith) (omega arith) ∙ get_or-place_of a us 0 l) (λ k m q.
    before_place_of a us k 0 m (sym (get_or-insert_below us (p + 1) x 0 k (omega arith) (omega arith)) ∙ q)) in
    ap (λ k. get_or ys (k + 1) (get_or ys 0 a)) at ∙ get_or-insert_at us (p + 1) x (get_or ys 0 a) (omega arith)

-- An entry put in beside another that is then taken out stands in its place.
module _ (us : List ℕ) (x y : ℕ) (ne : y ≢ x) (has : Contains us x) where
  abbrev p : ℕ
  p = place_of x us

  in_p : place_of x us < length us
  in_p = place_of-lt-length x us has

  -- where it is put in before
  pub put-before : without_entry (insert us (place_of x us) y) x ≡ set us (place_of x us) y
  put-before =
      let l = in_p in
      let ys = insert us p y in
      let n = length-insert us p y (omega arith) in
      let at : place_of x ys ≡ p + 1 =
      place_of-is x ys (p + 1) (omega arith) (get_or-insert_above us p y 0 p (omega arith) (omega arith) ∙ get_or-place_of x us 0 l) (λ k m.
      elim (cases_eq k p) [
        | inl e ↦ λ q. ne (sym (ap (λ j. get_or ys j 0) e ∙ get_or-insert_at us p y 0 (omega arith)) ∙ q)
        | inr d ↦ λ q. before_place_of x us k 0 (omega arith) (sym (get_or-insert_below us p y 0 k (omega arith) (omega arith)) ∙ q)
      ]) in
      let m = length-remove ys (place_of x ys) (omega arith) in
      ext_get_or 0 (without_entry ys x) (set us p y) (omega (arith, length-set us p y)) (λ k r.
      elim (cases_lt k (p + 1)) [
        | inl s ↦ grind (arith, get_or-remove_below, place_of, cases_eq, get_or-insert_at, get_or-set_same, get_or-insert_below, get_or-set_other)
        | inr s ↦
            let d : k ≢ p = omega arith in
            get_or-remove_above ys (place_of x ys) 0 k (omega arith) (omega arith) ∙ (get_or-insert_above us p y 0 k (omega arith) (omega arith) ∙ sym (get_or-set_other us p k y 0 d))
      ])

  -- and where it is put in after
  pub put-after : without_entry (insert us (place_of x us + 1) y) x ≡ set us (place_of x us) y
  put-after =
      let l = in_p in
      let ys = insert us (p + 1) y in
      let n = length-insert us (p + 1) y (omega arith) in
      let at : place_of x ys ≡ p =
      place_of-is x ys p (omega arith) (get_or-insert_below us (p + 1) y 0 p (omega arith) (omega arith) ∙ get_or-place_of x us 0 l) (λ k m q.
      before_place_of x us k 0 m (sym (get_or-insert_below us (p + 1) y 0 k (omega arith) (omega arith)) ∙ q)) in
      let m = length-remove ys (place_of x ys) (omega arith) in
      ext_get_or 0 (without_entry ys x) (set us p y) (omega (arith, length-set us p y)) (λ k r.
      elim (cases_lt k p) [
        | inl s ↦
            let d : k ≢ p = omega arith in
            get_or-remove_below ys (place_of x ys) 0 k (omega arith) (omega arith) ∙ (get_or-insert_below us (p + 1) y 0 k (omega arith) (omega arith) ∙ sym (get_or-set_other us p k y 0 d))
        | inr s ↦
            get_or-remove_above ys (place_of x ys) 0 k (omega arith) (omega arith)
            ∙ elim (cases_eq k p) [
              | inl e ↦ rw e (get_or-insert_at us (p + 1) y 0 (omega arith) ∙ sym (get_or-set_same us p y 0 l))
              | inr d ↦ get_or-insert_above us (p + 1) y 0 k (omega arith) (omega arith) ∙ sym (get_or-set_other us p k y 0 d)
            ]
      ])
