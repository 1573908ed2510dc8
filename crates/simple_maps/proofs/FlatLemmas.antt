-- Lists that are cut from one row of entries: dart number d stands at place d of the row.
use Rattle.std.proofs.Common.{ℕ, zero, suc, ◌+◌, ◌-◌, ◌<◌, ◌≤◌, ◌≡◌, List, [], ◌∷◌, length, get_or, drop, slice_range, sym, ap, ap₂, ◌∙◌, inl, inr, arith}
use Rattle.std.proofs.lemmas.Bool.{cases_lt}
use Rattle.std.proofs.lemmas.List.{length-take-le, length-drop, get_or-take, get_or-drop}
use Rattle.map_lists.specs.Cuts.{cut, AreCuts}
use Rattle.map_lists.proofs.CutLemmas.{length-cut, get_or-cut, AreCuts-le, AreCuts-at}
use Rattle.map_theory.specs.Maps.{list_of, darts, darts_before, dart_count}
use Rattle.map_theory.proofs.DartLemmas.{darts_before_all, dart_at_place, place_of_number}

-- the part of a list from one place to another
pub length-slice_range : (entries : List ℕ) (start end : ℕ) → start ≤ end → end ≤ length entries → length (slice_range entries start end) ≡ end - start
length-slice_range entries start end l m = length-take-le (end - start) (drop start entries) (omega (arith, length-drop start entries))

pub get_or-slice_range : (entries : List ℕ) (start end i : ℕ) → i < end - start → get_or (slice_range entries start end) i 0 ≡ get_or entries (start + i) 0
get_or-slice_range entries start end i l = get_or-take (end - start) (drop start entries) i 0 l ∙ get_or-drop start entries i 0

-- so many darts stand before those of list v
starts_from : (from : ℕ) (ends entries : List ℕ) (v : ℕ) → AreCuts from ends (length entries) → v ≤ length ends → from + darts_before (cut from ends entries) v ≡ get_or (from ∷ ends) v 0
starts_from from [] entries v cuts l = let e : v ≡ 0 = omega arith in rw e (omega arith)
starts_from from (end ∷ ends) entries zero cuts l = omega arith
starts_from from (end ∷ ends) entries (suc v) cuts l =
    omega (arith, starts_from end ends entries v cuts.1 (omega arith), length-slice_range entries from end cuts.0 (AreCuts-le end ends (length entries) cuts.1))

-- lists end where the later ones begin, or before
pub ends_below : (ends : List ℕ) (total : ℕ) → AreCuts 0 ends total → (i w : ℕ) → i < w → w ≤ length ends → get_or ends i 0 ≤ get_or (0 ∷ ends) w 0
ends_below ends total cuts i zero l m = absurd (omega arith)
ends_below ends total cuts i (suc w) l m = elim (cases_lt i w) [
  | inl less ↦ omega (arith, ends_below ends total cuts i w less (omega arith), (AreCuts-at 0 ends total w cuts (omega arith)).0)
  | inr more ↦ (let e : i ≡ w = omega arith in omega (arith, ap (λ j. get_or ends j 0) e))
]

module _ (ends entries : List ℕ) (cuts : AreCuts 0 ends (length entries)) where
  pub start-is : (v : ℕ) → v ≤ length ends → darts_before (cut 0 ends entries) v ≡ get_or (0 ∷ ends) v 0
  start-is v l = omega (arith, starts_from 0 ends entries v cuts l)

  pub list-is : (v : ℕ) → v < length ends → list_of (cut 0 ends entries) v ≡ slice_range entries (get_or (0 ∷ ends) v 0) (get_or ends v 0)
  list-is v l = get_or-cut 0 ends entries v l

  pub length-list : (v : ℕ) → v < length ends → length (list_of (cut 0 ends entries) v) ≡ get_or ends v 0 - get_or (0 ∷ ends) v 0
  length-list v l =
      let at = AreCuts-at 0 ends (length entries) v cuts l in
      ap length (list-is v l) ∙ length-slice_range entries (get_or (0 ∷ ends) v 0) (get_or ends v 0) at.0 at.1

  pub end-is : (v : ℕ) → v < length ends → get_or (0 ∷ ends) v 0 + length (list_of (cut 0 ends entries) v) ≡ get_or ends v 0
  end-is v l = let at = AreCuts-at 0 ends (length entries) v cuts l in omega (arith, length-list v l)

  pub entry-is : (v k : ℕ) → v < length ends → k < length (list_of (cut 0 ends entries) v) → get_or (list_of (cut 0 ends entries) v) k 0 ≡ get_or entries (get_or (0 ∷ ends) v 0 + k) 0
  entry-is v k l m =
      ap (λ (us : List ℕ). get_or us k 0) (list-is v l) ∙ get_or-slice_range entries (get_or (0 ∷ ends) v 0) (get_or ends v 0) k (omega (arith, length-list v l))

  -- the last list ends where the entries do
  pub last-is : get_or (0 ∷ ends) (length ends) 0 ≡ length entries
  last-is = last 0 ends (length entries) cuts
    where
      last : (from : ℕ) (ends : List ℕ) (total : ℕ) → AreCuts from ends total → get_or (from ∷ ends) (length ends) 0 ≡ total
      last from [] total h = h
      last from (end ∷ ends) total h = last end ends total h.1

  pub count-is : dart_count (cut 0 ends entries) ≡ length entries
  count-is =
      let long = length-cut 0 ends entries in
      sym (darts_before_all (cut 0 ends entries) (length ends) (omega arith)) ∙ (start-is (length ends) (omega arith) ∙ last-is)

  -- a dart at place k of list v
  pub dart-is : (v k : ℕ) → v < length ends → k < length (list_of (cut 0 ends entries) v) → get_or (darts (cut 0 ends entries)) (get_or (0 ∷ ends) v 0 + k) (0, 0) ≡ (v, get_or entries (get_or (0 ∷ ends) v 0 + k) 0)
  dart-is v k l m =
      let long = length-cut 0 ends entries in
      ap (λ s. get_or (darts (cut 0 ends entries)) (s + k) (0, 0)) (sym (start-is v (omega arith)))
      ∙ (dart_at_place (cut 0 ends entries) v k (0, 0) 0 (omega arith) m ∙ ap (λ x. (v, x)) (entry-is v k l m))

  -- where each place has the tail of its list, dart d goes from tail d to entry d
  pub dart-by : (tails : List ℕ) → ((v d : ℕ) → v < length ends → get_or (0 ∷ ends) v 0 ≤ d → d < get_or ends v 0 → get_or tails d 0 ≡ v) → (d : ℕ) → d < length entries → get_or (darts (cut 0 ends entries)) d (0, 0) ≡ (get_or tails d 0, get_or entries d 0)
  dart-by tails tail d l =
      let long = length-cut 0 ends entries in
      let p = place_of_number (cut 0 ends entries) d (omega (arith, count-is)) in
      let v = p.0 in
      let k = p.1 in
      let v_in : v < length ends = omega (arith, p.2.list_in) in
      let number : d ≡ get_or (0 ∷ ends) v 0 + k = p.2.number ∙ ap (λ s. s + k) (start-is v (omega arith)) in
      let own : get_or tails d 0 ≡ v = tail v d v_in (omega arith) (omega (arith, end-is v v_in, p.2.entry_in)) in
      ap (λ x. get_or (darts (cut 0 ends entries)) x (0, 0)) number
      ∙ (dart-is v k v_in p.2.entry_in ∙ ap₂ (λ x y. (x, get_or entries y 0)) (sym own) (sym number))
