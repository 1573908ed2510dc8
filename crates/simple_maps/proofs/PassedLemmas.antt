-- One pass over all lists: what holds before each, and that lists that pass are a simple map.
use Rattle.std.proofs.Common.{ℕ, suc, ◌+◌, ◌<◌, ◌≤◌, ◌≡◌, List, ◌∷◌, length, get_or, All, Some, sym, ap, ap₂, ◌∙◌, subst, inl, inr, arith}
use Rattle.std.proofs.lemmas.Bool.{cases_lt}
use Rattle.std.proofs.lemmas.List.{get_or_default}
use Rattle.std.proofs.lemmas.Option.{slice_get-get_or}
use Rattle.map_lists.specs.Cuts.{cut, AreCuts}
use Rattle.map_lists.proofs.CutLemmas.{length-cut}
use Rattle.map_theory.specs.Maps.{Dart, HasDart, list_of, darts, dart_number, place_of, twin_dart}
use Rattle.map_theory.proofs.DartLemmas.{length-darts, get_or-dart_number, dart_number-lt, place_of-lt-length, get_or-place_of, HasDart-darts}
use Rattle.simple_maps.specs.Tables.{AreSlots}
use Rattle.simple_maps.specs.Pass.{IsSimpleList, IsPlaced, AreMutual}
use Rattle.simple_maps.proofs.FlatLemmas.{end-is, entry-is, last-is, count-is, dart-by}

-- The lists before v have passed, and the next one begins at start.
pub record HasPassed (entries ends tails twins newest : List ℕ) (start v : ℕ) : Type 0 where
  pub start_is : start ≡ get_or (0 ∷ ends) v 0
  pub before : (w : ℕ) → w < v → get_or ends w 0 ≤ start
  pub lists : (w : ℕ) → w < v → IsSimpleList entries (get_or (0 ∷ ends) w 0) (get_or ends w 0) w
  pub tails_are : (w d : ℕ) → w < v → get_or (0 ∷ ends) w 0 ≤ d → d < get_or ends w 0 → get_or tails d 0 ≡ w
  pub below : (d : ℕ) → d < start → get_or tails d 0 < v
  pub pairs : AreMutual entries tails twins start
  pub unset : All (λ m. 16777216 ≤ m) newest

module _ (entries ends tails twins newest : List ℕ) (start v : ℕ) (h : HasPassed entries ends tails twins newest start v) (tails' twins' : List ℕ) (end : ℕ) (order : start ≤ end) (placed : IsPlaced tails twins tails' twins' start end v) where
  -- the darts of v's list have no twins yet
  pub pairs-placed : AreMutual entries tails' twins' end
  pairs-placed d l known =
      elim (cases_lt d start) [
        | inl m ↦
            let same = placed.twin_kept d m in
            let old = h.pairs d m (omega arith) in
            rw same (omega (arith, old.0), old.1 ∙ sym (placed.tail_kept d m), placed.tail_kept (get_or twins d 0) old.0 ∙ old.2)
        | inr m ↦ absurd (let low = placed.twin_here d m l in omega arith)
      ]

  -- one list more
  pub HasPassed-more : (tails'' twins'' newest' : List ℕ) (next : ℕ) → end ≡ get_or ends v 0 → IsSimpleList entries start end v → ((d : ℕ) → get_or tails'' d 0 ≡ get_or tails' d 0) → AreMutual entries tails'' twins'' end → All (λ m. 16777216 ≤ m) newest' → next ≡ v + 1 → HasPassed entries ends tails'' twins'' newest' end next
  HasPassed-more tails'' twins'' newest' next end_is list same pairs unset step =
      let s : next ≡ suc v = omega arith in
      rw s (record {
        start_is = end_is;
        before = λ w l. elim (cases_lt w v) [
          | inl m ↦ omega (arith, h.before w m)
          | inr m ↦ (let e : w ≡ v = omega arith in omega (arith, ap (λ x. get_or ends x 0) e))
        ];
        lists = λ w l. elim (cases_lt w v) [
          | inl m ↦ h.lists w m
          | inr m ↦
              (let e : v ≡ w = omega arith in
              subst (λ x. IsSimpleList entries (get_or (0 ∷ ends) x 0) (get_or ends x 0) x) e
              (subst (λ y. IsSimpleList entries (get_or (0 ∷ ends) v 0) y v) end_is (subst (λ y. IsSimpleList entries y end v) h.start_is list)))
        ];
        tails_are = λ w d l a b. elim (cases_lt w v) [
          | inl m ↦ (let in_before : d < start = omega (arith, h.before w m) in same d ∙ (placed.tail_kept d in_before ∙ h.tails_are w d m a b))
          | inr m ↦
              (let e : w ≡ v = omega arith in
              let from = ap (λ x. get_or (0 ∷ ends) x 0) e in
              let to = ap (λ x. get_or ends x 0) e in
              let begins = h.start_is in
              same d ∙ (placed.tail_here d (omega arith) (omega arith) ∙ sym e))
        ];
        below = λ d l. elim (cases_lt d start) [
          | inl m ↦ omega (arith, same d, placed.tail_kept d m, h.below d m)
          | inr m ↦ omega (arith, same d, placed.tail_here d m l)
        ];
        pairs = pairs;
        unset = unset;
      })

-- where all lists have passed, and all darts have a twin, the lists are a simple map
module _ (entries ends tails twins newest : List ℕ) (start v : ℕ) (cuts : AreCuts 0 ends (length entries)) (h : HasPassed entries ends tails twins newest start v) (all : v ≡ length ends) (in_range : All (λ u. u < length ends) entries) (long : length twins ≡ length entries) (known : All (λ t. t < 16777216) twins) where
  whole : start ≡ length entries
  whole = h.start_is ∙ (ap (λ x. get_or (0 ∷ ends) x 0) all ∙ last-is ends entries cuts)

  dart : (d : ℕ) → d < length entries → get_or (darts (cut 0 ends entries)) d (0, 0) ≡ (get_or tails d 0, get_or entries d 0)
  dart = dart-by ends entries cuts tails (λ w d l a b. h.tails_are w d (omega arith) a b)

  pair : (d : ℕ) → d < length entries → (get_or twins d 0 < length entries) × (get_or entries (get_or twins d 0) 0 ≡ get_or tails d 0) × (get_or tails (get_or twins d 0) 0 ≡ get_or entries d 0)
  pair d l = let p = h.pairs d (omega (arith, whole)) (known d 0 (omega arith)) in (omega (arith, p.0, whole), p.1, p.2)

  number : (w u : ℕ) → HasDart (cut 0 ends entries) w u → (d : ℕ) × (d < length entries) × (get_or tails d 0 ≡ w) × (get_or entries d 0 ≡ u)
  number w u has =
      let d = dart_number (cut 0 ends entries) (w, u) in
      let l : d < length entries = omega (arith, dart_number-lt (cut 0 ends entries) w u has, count-is ends entries cuts) in
      let e : (get_or tails d 0, get_or entries d 0) ≡ (w, u) = sym (dart d l) ∙ get_or-dart_number (cut 0 ends entries) w u (0, 0) has in
      (d, l, ap (λ (x : Dart). x.0) e, ap (λ (x : Dart). x.1) e)

  vertices : length (cut 0 ends entries) ≡ length ends
  vertices = length-cut 0 ends entries

  simple_at : (w : ℕ) → w < length ends → IsSimpleList entries (get_or (0 ∷ ends) w 0) (get_or ends w 0) w
  simple_at w l = h.lists w (omega arith)

  entry : (w k d : ℕ) → w < length ends → k < length (list_of (cut 0 ends entries) w) → get_or (list_of (cut 0 ends entries) w) k d ≡ get_or entries (get_or (0 ∷ ends) w 0 + k) 0
  entry w k d l m = get_or_default (list_of (cut 0 ends entries) w) k d 0 m ∙ entry-is ends entries cuts w k l m

  pub AreSlots-passed : 0 < length ends → AreSlots (cut 0 ends entries) tails twins
  AreSlots-passed some = record {
    simple = record {
      some_vertex = omega (arith, vertices);
      in_range = λ w u has. let n = number w u has in omega (arith, n.2, n.3, in_range n.0 0 n.1, vertices);
      no_loop = λ w u has e.
          let l : w < length ends = omega (arith, has.0, vertices) in
          let k = place_of u (list_of (cut 0 ends entries) w) in
          let m = place_of-lt-length u (list_of (cut 0 ends entries) w) has.1 in
          (simple_at w l).no_loop (get_or (0 ∷ ends) w 0 + k) (omega arith) (omega (arith, end-is ends entries cuts w l))
          (sym (entry w k 0 l m) ∙ (get_or-place_of u (list_of (cut 0 ends entries) w) 0 m ∙ e));
      no_repeat = λ w l i j d less m e.
          let in_ends : w < length ends = omega (arith, vertices) in
          (simple_at w in_ends).distinct (get_or (0 ∷ ends) w 0 + i) (get_or (0 ∷ ends) w 0 + j) (omega arith) (omega arith) (omega (arith, end-is ends entries cuts w in_ends))
          (sym (entry w i d in_ends (omega arith)) ∙ (e ∙ entry w j d in_ends m));
      both_ways = λ w u has.
          let n = number w u has in
          let p = pair n.0 n.1 in
          let t = get_or twins n.0 0 in
          let back : get_or (darts (cut 0 ends entries)) t (0, 0) ≡ (u, w) = dart t p.0 ∙ ap₂ (λ x y. (x, y)) (p.2 ∙ n.3) (p.1 ∙ n.2) in
          subst (λ (x : Dart). HasDart (cut 0 ends entries) x.0 x.1) back (HasDart-darts (cut 0 ends entries) t (0, 0) (omega (arith, p.0, count-is ends entries cuts)));
    };
    tails_are = λ d l. ap (λ (x : Dart). x.0) (sym (dart d (omega (arith, length-darts (cut 0 ends entries), count-is ends entries cuts))));
    twins_are = record {
      count = omega (arith, length-darts (cut 0 ends entries), count-is ends entries cuts);
      at = λ d l.
          let in_entries : d < length entries = omega (arith, length-darts (cut 0 ends entries), count-is ends entries cuts) in
          let p = pair d in_entries in
          let t = get_or twins d 0 in
          slice_get-get_or (darts (cut 0 ends entries)) t (0, 0) (omega (arith, p.0, length-darts (cut 0 ends entries), count-is ends entries cuts))
          ∙ (ap (λ (x : Dart). Some x) (dart t p.0 ∙ ap₂ (λ x y. (x, y)) p.2 p.1)
          ∙ ap (λ (x : Dart). Some (twin_dart x)) (sym (dart d in_entries)));
    };
  }
