-- The pass by cells: the tails of darts by counts of ends, and that lists of which all darts are tried are a simple map.
use Rattle.std.proofs.Common.{ℕ, zero, suc, ◌+◌, ◌-◌, ◌*◌, ◌<◌, ◌≤◌, ◌≡◌, ◌≢◌, ◌==◌, Bool, true, false, List, [], ◌∷◌, length, get_or, set, All, refl, sym, ap, ap₂, ◌∙◌, subst, inl, inr, arith, get_or-set_same, get_or-set_other}
use Rattle.std.specs.Prelude.{nat_lt}
use Rattle.std.specs.Int.{from_bool}
use Rattle.std.specs.Int.Bits.{bit_or, bit_xor, xor_add_and}
use Rattle.std.proofs.lemmas.Bool.{cases_eq, cases_lt, eq-eqb, ne_eqb, lt-ltb}
use Rattle.std.proofs.lemmas.Bool.Decides.{nat_tests}
use Rattle.std.proofs.lemmas.Nat.{le_or_l, le_or_r, and_le_l, and_le_r}
use Rattle.std.proofs.lemmas.List.{get_or_default}
use Rattle.classes.specs.Classes.{count_below}
use Rattle.classes.proofs.Counting.{one_if, count_below-le}
use Rattle.map_lists.specs.Cuts.{cut, AreCuts}
use Rattle.map_lists.proofs.CutLemmas.{AreCuts-at, length-cut}
use Rattle.map_theory.specs.Maps.{Dart, HasDart}
use Rattle.map_theory.proofs.DartLemmas.{HasDart-darts}
use Rattle.simple_maps.specs.Tables.{AreSlots}
use Rattle.simple_maps.specs.Pass.{IsTried}
use Rattle.simple_maps.proofs.FlatLemmas.{count-is, dart-by, ends_below, last-is}
use Rattle.simple_maps.proofs.PassedLemmas.{HasPassed, AreSlots-passed}

-- how many of the first m ends are k, and how many are below k
abbrev pub ending_at : List ℕ → ℕ → ℕ → ℕ
ending_at ends m k = count_below (λ i. get_or ends i 0 == k) m

abbrev pub ended_before : List ℕ → ℕ → ℕ → ℕ
ended_before ends m k = count_below (λ i. nat_lt (get_or ends i 0) k) m

one_end : (x k : ℕ) → one_if (nat_lt x (k + 1)) ≡ one_if (nat_lt x k) + one_if (x == k)
one_end x k = grind (arith, nat_tests)

none_before : (x : ℕ) → one_if (nat_lt x 0) ≡ 0
none_before x = grind (arith, nat_tests)

pub ended_before-zero : (ends : List ℕ) (m : ℕ) → ended_before ends m 0 ≡ 0
ended_before-zero ends zero = refl
ended_before-zero ends (suc m) = omega (arith, ended_before-zero ends m, none_before (get_or ends m 0))

pub ended_before-more : (ends : List ℕ) (m k : ℕ) → ended_before ends m (k + 1) ≡ ended_before ends m k + ending_at ends m k
ended_before-more ends zero k = refl
ended_before-more ends (suc m) k = omega (arith, ended_before-more ends m k, one_end (get_or ends m 0) k)

pub ended_before-le : (ends : List ℕ) (m k : ℕ) → ended_before ends m k ≤ m
ended_before-le ends m k = count_below-le (λ i. nat_lt (get_or ends i 0) k) m

pub ending_at-le : (ends : List ℕ) (m k : ℕ) → ending_at ends m k ≤ m
ending_at-le ends m k = count_below-le (λ i. get_or ends i 0 == k) m

-- one end more is noted where it is, and nowhere else
pub noted-here : (ends : List ℕ) (m k : ℕ) → get_or ends m 0 ≡ k → ending_at ends (suc m) k ≡ ending_at ends m k + 1
noted-here ends m k e = omega (arith, ap one_if (eq-eqb (get_or ends m 0) k e))

pub noted-other : (ends : List ℕ) (m k : ℕ) → get_or ends m 0 ≢ k → ending_at ends (suc m) k ≡ ending_at ends m k
noted-other ends m k ne = omega (arith, ap one_if (ne_eqb (get_or ends m 0) k ne))

-- a test that the first w of m numbers pass, and no others
count_first : (p : ℕ → Bool) (w m : ℕ) → w ≤ m → ((i : ℕ) → i < w → p i ≡ true) → ((i : ℕ) → w ≤ i → i < m → p i ≡ false) → count_below p m ≡ w
count_first p w zero l on off = omega arith
count_first p w (suc m) l on off = elim (cases_lt m w) [
  | inl less ↦ omega (arith, count_first p m m (omega arith) (λ i j. on i (omega arith)) (λ i a b. absurd (omega arith)), ap one_if (on m less))
  | inr more ↦ omega (arith, count_first p w m more on (λ i a b. off i a (omega arith)), ap one_if (off m more (omega arith)))
]

-- so many lists but the last end at a dart of list w or before it
pub tail-is : (ends : List ℕ) (total : ℕ) → AreCuts 0 ends total → (w d : ℕ) → w < length ends → get_or (0 ∷ ends) w 0 ≤ d → d < get_or ends w 0 → ended_before ends (length ends - 1) (d + 1) ≡ w
tail-is ends total cuts w d l low high =
    count_first (λ i. nat_lt (get_or ends i 0) (d + 1)) w (length ends - 1) (omega arith)
    (λ i m. lt-ltb (get_or ends i 0) (d + 1) (omega (arith, ends_below ends total cuts i w m (omega arith))))
    (λ i m n. elim (cases_eq w i) [
      | inl e ↦ not_before (get_or ends i 0) (d + 1) (omega (arith, ap (λ j. get_or ends j 0) e))
      | inr ne ↦ not_before (get_or ends i 0) (d + 1) (omega (arith, ends_below ends total cuts w i (omega arith) (omega arith), (AreCuts-at 0 ends total i cuts (omega arith)).0))
    ])
  where
    not_before : (x y : ℕ) → y ≤ x → nat_lt x y ≡ false
    not_before x y l = grind (arith, nat_tests)

-- errors that are gathered are none where there is none so far and none here
pub none_of_two : (a b : ℕ) → bit_or a b ≡ 0 → (a ≡ 0) × (b ≡ 0)
none_of_two a b e = (omega (arith, le_or_l a b), omega (arith, le_or_r a b))

pub same_bits : (a b : ℕ) → bit_xor a b ≡ 0 → a ≡ b
same_bits a b e = omega (arith, xor_add_and a b, and_le_l a b, and_le_r a b)

no_loop_from : (x y : ℕ) → from_bool (x == y) ≡ 0 → x ≢ y
no_loop_from x y e same = absurd (omega (arith, e, ap from_bool (eq-eqb x y same)))

-- one dart more is tried
module _ (entries tails twins cells : List ℕ) (n d wrong own head tail twin : ℕ) where
  pub tried-more : (both loop wrong' : ℕ) → wrong' ≡ bit_or (bit_or (bit_or wrong (bit_xor own d)) both) loop
      → both ≡ bit_or (bit_xor head (get_or tails d 0)) (bit_xor tail (get_or entries d 0)) → loop ≡ from_bool (get_or entries d 0 == get_or tails d 0)
      → (wrong ≡ 0 → (e : ℕ) → e < d → IsTried entries tails twins cells n e)
      → own ≡ get_or cells (n * get_or tails d 0 + get_or entries d 0) 0 → head ≡ get_or entries twin 0 → tail ≡ get_or tails twin 0 → twin < length entries → d < length twins
      → wrong' ≡ 0 → (e : ℕ) → e < d + 1 → IsTried entries tails (set twins d twin) cells n e
  tried-more both loop wrong' is both_is loop_is h own_is head_is tail_is twin_in in_twins none e l =
      let parts = none_of_two _ _ (sym is ∙ none) in
      let more = none_of_two _ _ parts.0 in
      let first = none_of_two _ _ more.0 in
      let ends = none_of_two _ _ (sym both_is ∙ more.1) in
      let here = get_or-set_same twins d twin 0 in_twins in
      elim (cases_eq e d) [
        | inl same ↦ subst (λ x. IsTried entries tails (set twins d twin) cells n x) (sym same) (record {
          cell = sym own_is ∙ same_bits own d first.1;
          twin_in = subst (λ (t : ℕ). t < length entries) (sym here) twin_in;
          head = ap (λ t. get_or entries t 0) here ∙ (sym head_is ∙ same_bits head (get_or tails d 0) ends.0);
          tail = ap (λ t. get_or tails t 0) here ∙ (sym tail_is ∙ same_bits tail (get_or entries d 0) ends.1);
          no_loop = no_loop_from (get_or entries d 0) (get_or tails d 0) (sym loop_is ∙ parts.1);
        })
        | inr ne ↦
            (let old = h first.0 e (omega arith) in
            let kept : get_or (set twins d twin) e 0 ≡ get_or twins e 0 = get_or-set_other twins d e twin 0 ne in
            record {
              cell = old.cell;
              twin_in = rw kept old.twin_in;
              head = rw kept old.head;
              tail = rw kept old.tail;
              no_loop = old.no_loop;
            })
      ]

-- each entry is a vertex, and so is each tail
module _ (entries ends tails : List ℕ) (cuts : AreCuts 0 ends (length entries)) (tails_are : (w d : ℕ) → w < length ends → get_or (0 ∷ ends) w 0 ≤ d → d < get_or ends w 0 → get_or tails d 0 ≡ w) where
  pub tail-in : (d : ℕ) → d < length entries → get_or tails d 0 < length ends
  tail-in d l =
      let has = subst (λ (x : Dart). HasDart (cut 0 ends entries) x.0 x.1) (dart-by ends entries cuts tails tails_are d l) (HasDart-darts (cut 0 ends entries) d (0, 0) (omega (arith, count-is ends entries cuts))) in
      omega (arith, has.0, length-cut 0 ends entries)

  -- where all darts are tried, the lists are a simple map
  module _ (twins cells : List ℕ) (in_range : All (λ u. u < length ends) entries) (long : length twins ≡ length entries) (few : length entries < 16777216) (tried : (d : ℕ) → d < length entries → IsTried entries tails twins cells (length ends) d) where
    once : (x y : ℕ) → x < length entries → y < length entries → get_or tails x 0 ≡ get_or tails y 0 → get_or entries x 0 ≡ get_or entries y 0 → x ≡ y
    once x y in_x in_y tail head =
        sym (tried x in_x).cell ∙ (ap₂ (λ a b. get_or cells (length ends * a + b) 0) tail head ∙ (tried y in_y).cell)

    passed : HasPassed entries ends tails twins [] (length entries) (length ends)
    passed = record {
      start_is = sym (last-is ends entries cuts);
      before = λ w l. (AreCuts-at 0 ends (length entries) w cuts l).1;
      lists = λ w l.
          let at = AreCuts-at 0 ends (length entries) w cuts l in
          record {
            distinct = λ i j a b c e.
                let r = once i j (omega (arith, at.1)) (omega (arith, at.1)) (tails_are w i l a (omega arith) ∙ sym (tails_are w j l (omega arith) c)) e in
                omega arith;
            no_loop = λ i a b e. (tried i (omega (arith, at.1))).no_loop (e ∙ sym (tails_are w i l a b));
          };
      tails_are = λ w d l a b. tails_are w d l a b;
      below = tail-in;
      pairs = λ d l known. let t = tried d l in (t.twin_in, t.head, t.tail);
      unset = λ k none m. absurd (omega arith);
    }

    pub AreSlots-tried : 0 < length ends → AreSlots (cut 0 ends entries) tails twins
    AreSlots-tried some =
        AreSlots-passed entries ends tails twins [] (length entries) (length ends) cuts passed refl in_range long
        (λ d none l. let t = tried d (omega arith) in omega (arith, t.twin_in, get_or_default twins d none 0 l)) some
