-- Counters that go over the entries of a list, and ranks.
use Rattle.std.proofs.Common.{◌≡◌, ◌≢◌, ℕ, ◌+◌, ◌-◌, ◌<◌, ◌≤◌, ◌==◌, Bool, true, not, cond, eqb, List, length, get_or, set, take, count_by, AllPairs, All, Contains, refl, sym, ap, ◌∙◌, subst, inl, inr, arith, eq-eqb, ne_eqb, reverse, length-set, get_or-set_same, get_or-set_other}
use Rattle.std.proofs.lemmas.List.{get_or-reverse, length-reverse, get_or_default}
use Rattle.std.proofs.lemmas.List.Sums.{count_by_more_yes, count_by_more_no, sum_by-take-le}
use Rattle.std.proofs.lemmas.Bool.{cases_eq, cases_lt}
use Rattle.classes.proofs.Counting.{count_below_into, count_below_more}
use Rattle.plane_peeling.proofs.RestrictedMaps.{cases_Contains}
use Rattle.canon_order.specs.Orders.{IsRankOf}

-- an entry is not among those before it as often as in the whole list
pub counted_before : (us : List ℕ) (i : ℕ) → i < length us → count_by (λ u. u == get_or us i 0) (take i us) + 1 ≤ count_by (λ u. u == get_or us i 0) us
counted_before us i l =
    let p : ℕ → Bool = λ u. eqb u (get_or us i 0) in
    omega (arith, count_by_more_yes p us i 0 l (eq-eqb (get_or us i 0) (get_or us i 0) refl), sum_by-take-le (λ u. cond (p u) 1 0) us (i + 1))

-- one more entry counted, down or up
module _ (us near initial : List ℕ) (i : ℕ) (l : i < length us) where
  abbrev here : ℕ
  here = get_or us i 0

  abbrev before : ℕ → ℕ
  before w = count_by (λ u. u == w) (take i us)

  here_more : count_by (λ u. u == here) (take (i + 1) us) ≡ before here + 1
  here_more = count_by_more_yes (λ u. eqb u here) us i 0 l (eq-eqb here here refl)

  other_same : (w : ℕ) → w ≢ here → count_by (λ u. u == w) (take (i + 1) us) ≡ before w
  other_same w ne = count_by_more_no (λ u. eqb u w) us i 0 l (ne_eqb here w (λ e. ne (sym e)))

  pub counted_down : here < length near → 1 ≤ get_or near here 0 → ((w : ℕ) → w < length near → get_or near w 0 + before w ≡ get_or initial w 0) → (w : ℕ) → w < length (set near here (get_or near here 0 - 1)) → get_or (set near here (get_or near here 0 - 1)) w 0 + count_by (λ u. u == w) (take (i + 1) us) ≡ get_or initial w 0
  counted_down m some h w k =
      let n = get_or near here 0 - 1 in
      let long = length-set near here n in
      elim (cases_eq w here) [
        | inl e ↦ rw e (let now = get_or-set_same near here n 0 m in let old = h here m in omega (arith, here_more))
        | inr ne ↦ (let now = get_or-set_other near here w n 0 ne in let old = h w (omega arith) in let same = other_same w ne in omega arith)
      ]

  pub counted_up : here < length near → ((w : ℕ) → w < length near → get_or near w 0 ≡ get_or initial w 0 + before w) → (w : ℕ) → w < length (set near here (get_or near here 0 + 1)) → get_or (set near here (get_or near here 0 + 1)) w 0 ≡ get_or initial w 0 + count_by (λ u. u == w) (take (i + 1) us)
  counted_up m h w k =
      let n = get_or near here 0 + 1 in
      let long = length-set near here n in
      elim (cases_eq w here) [
        | inl e ↦ rw e (let now = get_or-set_same near here n 0 m in let old = h here m in omega (arith, here_more))
        | inr ne ↦ (let now = get_or-set_other near here w n 0 ne in let old = h w (omega arith) in let same = other_same w ne in omega arith)
      ]

-- where two places of a list without repeats have one entry they are one
pub same_place : (us : List ℕ) (i j : ℕ) → AllPairs ◌≢◌ us → i < length us → j < length us → get_or us i 0 ≡ get_or us j 0 → i ≡ j
same_place us i j distinct m m' e =
    elim (cases_lt i j) [
      | inl l ↦ absurd (distinct i j 0 l m' e)
      | inr l ↦ elim (cases_lt j i) [ inl l' ↦ absurd (distinct j i 0 l' m (sym e)) | inr l' ↦ omega arith ]
    ]

-- as many different numbers below n as n are all of them
pub all_of_them : (us : List ℕ) (v : ℕ) → All (λ u. u < length us) us → AllPairs ◌≢◌ us → v < length us → Contains us v
all_of_them us v within distinct l =
    elim (cases_Contains us v) [
      | inl c ↦ c
      | inr none ↦
          let n = length us in
          let other : ℕ → Bool = λ x. not (eqb x v) in
          let into = count_below_into (λ i. get_or us i 0) (λ i. true) other n n
          (λ i m _. (within i 0 m, ap not (ne_eqb (get_or us i 0) v (λ e. none (i, m, same_at us i v m e)))))
          (λ i j m m' _ _ e. same_place us i j distinct m m' e) in
          absurd (omega (arith, count_below_more other (λ i. true) n v l (ap not (eq-eqb v v refl)) refl (λ i _ ne. ap not (ne_eqb i v ne))))
    ]
  where
    same_at : (us : List ℕ) (i v : ℕ) → i < length us → get_or us i 0 ≡ v → get_or us i v ≡ v
    same_at us i v m e = sym (get_or_default us i 0 v m) ∙ e

-- one place more is written
pub places_more : (rank at : List ℕ) (i : ℕ) → i < length at → get_or at i 0 < length rank → AllPairs ◌≢◌ at → ((k : ℕ) → k < i → get_or rank (get_or at k 0) 0 ≡ k) → (k : ℕ) → k < i + 1 → get_or (set rank (get_or at i 0) i) (get_or at k 0) 0 ≡ k
places_more rank at i l within distinct h k m =
    elim (cases_eq k i) [
      | inl e ↦ ap (λ j. get_or (set rank (get_or at i 0) i) (get_or at j 0) 0) e ∙ get_or-set_same rank (get_or at i 0) i 0 within ∙ sym e
      | inr ne ↦ get_or-set_other rank (get_or at i 0) (get_or at k 0) i 0 (distinct k i 0 (omega arith) l) ∙ h k (omega arith)
    ]

-- the places that were written
pub IsRankOf-places : (rank at : List ℕ) → length rank ≡ length at → All (λ v. v < length at) at → AllPairs ◌≢◌ at → ((i : ℕ) → i < length at → get_or rank (get_or at i 0) 0 ≡ i) → IsRankOf rank at
IsRankOf-places rank at n within distinct h = record {
  count = n;
  of_place = h;
  of_vertex = λ v l.
      let c = all_of_them at v within distinct l in
      let here : get_or at c.0 0 ≡ v = get_or_default at c.0 0 v c.1 ∙ c.2 in
      ap (λ z. get_or at z 0) (ap (λ z. get_or rank z 0) (sym here) ∙ h c.0 c.1) ∙ here;
}

-- a list from its end
pub AllPairs-from_reverse : (us : List ℕ) → AllPairs ◌≢◌ (reverse us) → AllPairs ◌≢◌ us
AllPairs-from_reverse us h = λ i j d l m e.
    let n = length-reverse us in
    let b = get_or-reverse us (length us - 1 - j) d (omega arith) in
    let i' : length us - 1 - (length us - 1 - i) ≡ i = omega arith in
    let j' : length us - 1 - (length us - 1 - j) ≡ j = omega arith in
    h (length us - 1 - j) (length us - 1 - i) d (omega arith) (omega arith)
    (b ∙ (ap (λ k. get_or us k d) j' ∙ (sym e ∙ sym ((get_or-reverse us (length us - 1 - i) d (omega arith)) ∙ ap (λ k. get_or us k d) i'))))

pub All-from_reverse : (P : ℕ → Type 0) (us : List ℕ) → All P (reverse us) → All P us
All-from_reverse P us h = λ k d l.
    let n = length-reverse us in
    let k' : length us - 1 - (length us - 1 - k) ≡ k = omega arith in
    subst P ((get_or-reverse us (length us - 1 - k) d (omega arith)) ∙ ap (λ i. get_or us i d) k') (h (length us - 1 - k) d (omega arith))
