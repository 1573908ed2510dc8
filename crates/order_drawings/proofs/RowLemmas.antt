-- Rows read backwards in the list of a vertex.
use Rattle.std.proofs.Common.{◌≡◌, ◌+◌, ◌-◌, ◌≤◌, ◌<◌, ◌⊎◌, ℕ, suc, List, [], ◌∷◌, ◌++◌, length, map, get_or, take, refl, sym, ap, ap₂, ◌∙◌, subst, inl, inr, arith}
use Rattle.std.proofs.lemmas.Bool.{cases_lt}
use Rattle.std.proofs.lemmas.Bool.Decides.{nat_tests}
use Rattle.std.proofs.lemmas.List.{map-append, get_or_append_left, length-append, append_assoc, append-nil}
use Rattle.std.proofs.Math.Seq.{take-length, take-suc, get_or-append_seam}
use Rattle.map_lists.specs.Lists.{Lists}
use Rattle.map_theory.specs.Maps.{list_of}
use Rattle.order_drawings.specs.Rows.{back, rank_at, place_after, place_before, IsLastPlace, IsRowIn, IsRowPut, AreRanked}

module _ (list ranks : List ℕ) (k start : ℕ) (us : List ℕ) (h : IsRowIn list ranks k start us) (j i : ℕ) (low : j < length us) (at : i ≡ back (length list) start j) where
  -- one rank more
  pub ranked-more : (items : List ℕ) → items ≡ map (λ u. get_or ranks u 0) (take j us) → items ++ rank_at list ranks i ∷ [] ≡ map (λ u. get_or ranks u 0) (take (suc j) us)
  ranked-more items e =
      ap₂ (λ xs u. xs ++ get_or ranks u 0 ∷ []) e (ap (λ i. get_or list i 0) at ∙ h.entries j low)
      ∙ sym (map-append (λ u. get_or ranks u 0) (take j us) (get_or us j 0 ∷ []))
      ∙ ap (map (λ u. get_or ranks u 0)) (sym (take-suc us j 0 low))

  -- where the row ends, all of it is read
  pub ended : IsLastPlace list ranks k i → take (suc j) us ≡ us
  ended last = elim (cases_lt (suc j) (length us)) [
    | inl l ↦ absurd (h.inner j l (subst (IsLastPlace list ranks k) at last))
    | inr l ↦ let e : suc j ≡ length us = omega arith in ap (λ n. take n us) e ∙ take-length us
  ]

  -- elsewhere there is more
  pub not_ended : ¬ IsLastPlace list ranks k i → suc j < length us
  not_ended n = elim (cases_lt (suc j) (length us)) [
    | inl l ↦ l
    | inr l ↦ absurd (n (subst (IsLastPlace list ranks k) (sym at) (h.last j (omega arith))))
  ]

-- where a row ends, by the ranks of an entry and of the one before it
module _ (list ranks : List ℕ) (k i rank next : ℕ) (here : rank ≡ rank_at list ranks i) where
  pub last_by_ranks : next ≡ rank_at list ranks (place_before (length list) i) → (((rank ≡ 1) ⊎ (k ≤ next)) → IsLastPlace list ranks k i) × (IsLastPlace list ranks k i → ((rank ≡ 1) ⊎ (k ≤ next)))
  last_by_ranks there = (
    (λ h. elim h [ inl e ↦ inl (sym here ∙ e) | inr l ↦ inr (subst (λ b. k ≤ b) there l) ]),
    λ h. elim h [ inl e ↦ inl (here ∙ e) | inr l ↦ inr (subst (λ b. k ≤ b) (sym there) l) ],
  )

-- the first j ranks of a row are put behind others, and the next place is i
pub record IsPartPut (list ranks : List ℕ) (k start j i : ℕ) (old new : List ℕ) : Type 0 where
  pub part : List ℕ
  pub grown : new ≡ old ++ part
  pub of : (us : List ℕ) → IsRowIn list ranks k start us → (j < length us) × (i ≡ back (length list) start j) × (part ≡ map (λ u. get_or ranks u 0) (take j us))

module _ (list ranks : List ℕ) (k start : ℕ) where
  pub IsPartPut-none : (old : List ℕ) → IsPartPut list ranks k start 0 start old old
  IsPartPut-none old = record { part = []; grown = sym (append-nil old); of = λ us h. (h.some, refl, refl) }

  module _ (j i : ℕ) (old mid new : List ℕ) (p : IsPartPut list ranks k start j i old mid) (rank : ℕ) (rank_is : rank ≡ rank_at list ranks i) (put : new ≡ mid ++ rank ∷ []) where
    abbrev part' : List ℕ
    part' = p.part ++ rank ∷ []

    grown' : new ≡ old ++ part'
    grown' = put ∙ (ap (λ xs. xs ++ rank ∷ []) p.grown ∙ append_assoc old p.part (rank ∷ []))

    ranked : (us : List ℕ) → IsRowIn list ranks k start us → part' ≡ map (λ u. get_or ranks u 0) (take (suc j) us)
    ranked us h =
        let now = p.of us h in
        ap (λ r. p.part ++ r ∷ []) rank_is ∙ ranked-more list ranks k start us h j i now.0 now.1 p.part now.2

    -- the row goes on
    pub IsPartPut-more : (place : ℕ) → place ≡ place_before (length list) i → ¬ IsLastPlace list ranks k i → IsPartPut list ranks k start (j + 1) place old new
    IsPartPut-more place e goes_on =
        let more : suc j ≡ j + 1 = omega arith in
        record {
          part = part';
          grown = grown';
          of = λ us h.
              let now = p.of us h in
              let low = not_ended list ranks k start us h j i now.0 now.1 goes_on in (
                omega arith,
                e ∙ (ap (place_before (length list)) now.1 ∙ ap (back (length list) start) more),
                ranked us h ∙ ap (λ n. map (λ u. get_or ranks u 0) (take n us)) more,
              );
        }

    -- it ends
    pub IsRowPut-ended : IsLastPlace list ranks k i → IsRowPut list ranks k start old new
    IsRowPut-ended last = record {
      row = part';
      grown = grown';
      is = λ us h.
          let now = p.of us h in
          ranked us h ∙ ap (map (λ u. get_or ranks u 0)) (ended list ranks k start us h j i now.0 now.1 last);
    }

-- one row more
pub AreRanked-more :
    (lists : Lists) (at ranks : List ℕ) (rows : Lists) (row : List ℕ)
    → AreRanked lists at ranks rows
    → ((start : ℕ) (us : List ℕ) → IsRowIn (list_of lists (get_or at (length rows + 2) 0)) ranks (length rows + 2) start us → row ≡ map (λ u. get_or ranks u 0) us)
    → AreRanked lists at ranks (rows ++ row ∷ [])
AreRanked-more lists at ranks rows row h e = λ k start us l r. elim (cases_lt k (length rows)) [
  | inl m ↦ get_or_append_left rows (row ∷ []) [] k m ∙ h k start us m r
  | inr m ↦
      let d : k ≡ length rows = omega (arith, length-append rows (row ∷ [])) in
      ap (λ k. get_or (rows ++ row ∷ []) k []) d ∙ get_or-append_seam rows row [] [] ∙ e start us (subst (λ k. IsRowIn (list_of lists (get_or at (k + 2) 0)) ranks (k + 2) start us) d r)
]

-- ---- where a row begins

-- the last of some entries that are earlier
lowest : (list ranks : List ℕ) (k first end : ℕ) → first + 1 ≤ end → rank_at list ranks first < k → ((i : ℕ) → first + 1 ≤ i → i < end → rank_at list ranks i < k) → rank_at list ranks (end - 1) < k
lowest list ranks k first end m low lows = elim (cases_lt first (end - 1)) [
  | inl b ↦ lows (end - 1) (omega (arith, b)) (omega (arith, m))
  | inr b ↦ let e : first ≡ end - 1 = omega (arith, b, m) in subst (λ (i : ℕ). rank_at list ranks i < k) e low
]

-- it begins before an entry that is later
pub first-before : (list ranks : List ℕ) (k first end start : ℕ) (us : List ℕ) → IsRowIn list ranks k start us → (first < length list → rank_at list ranks first < k) → first + 1 ≤ end → ((i : ℕ) → first + 1 ≤ i → i < end → rank_at list ranks i < k) → end < length list → (end < length list → k ≤ rank_at list ranks end) → end - 1 ≡ start
first-before list ranks k first end start us row low m lows l next =
    row.only (end - 1) (omega (arith, l)) (record {
      earlier = lowest list ranks k first end m (low (omega (arith, m, l))) lows;
      begins = inr (subst (λ (p : ℕ). k ≤ rank_at list ranks p) (sym (after (length list) (end - 1) end (omega (arith, m)) l)) (next l));
    })
  where
    after : (n i e : ℕ) → i + 1 ≡ e → e < n → place_after n i ≡ e
    after n i e is l = grind (arith, nat_tests)

-- or at the last entry of all, where the first is later
pub first-round : (list ranks : List ℕ) (k first end start : ℕ) (us : List ℕ) → IsRowIn list ranks k start us → 0 < first → first < length list → ((i : ℕ) → i < first → k ≤ rank_at list ranks i) → (first < length list → rank_at list ranks first < k) → first + 1 ≤ end → end ≤ length list → ((i : ℕ) → first + 1 ≤ i → i < end → rank_at list ranks i < k) → length list ≤ end → length list - 1 ≡ start
first-round list ranks k first end start us row some l lates low m n lows all =
    let whole : end ≡ length list = omega (arith, n, all) in
    row.only (length list - 1) (omega (arith, l)) (record {
      earlier = subst (λ (e : ℕ). rank_at list ranks (e - 1) < k) whole (lowest list ranks k first end m (low l) lows);
      begins = inr (subst (λ (p : ℕ). k ≤ rank_at list ranks p) (sym (round (length list) (length list - 1) (omega (arith, l)))) (lates 0 some));
    })
  where
    round : (n i : ℕ) → i + 1 ≡ n → place_after n i ≡ 0
    round n i e = grind (arith, nat_tests)
