-- K5 and K3,3 are patterns, and how far walks on them go before a branch comes again.
use Rattle.std.proofs.Common.{◌≡◌, ◌≢◌, ◌⊎◌, ◌&&◌, ◌==◌, ℕ, zero, suc, ◌+◌, ◌-◌, ◌*◌, ◌<◌, ◌≤◌, nat_lt, if◌then◌else◌, not, Bool, true, false, List, [], ◌∷◌, length, refl, sym, ap, ap₂, ◌∙◌, inl, inr, arith, eqb-true}
use Rattle.std.proofs.Math.ListN.{get_or}
use Rattle.std.proofs.lemmas.Bool.{cases_eq, cases_order, eqb-false, and_parts, not-true}
use Rattle.std.proofs.lemmas.Bool.Decides.{nat_tests}
use Rattle.kuratowski.specs.Witnesses.{branch_count, pairs_of, pair_at}
use Rattle.kuratowski.specs.declared.witness.Kind.{Kind}
use Rattle.kuratowski.specs.declared.witness.Kind.TheVariants.{K5, K33}
use Rattle.embed_theorem.proofs.Subdivisions.{Way, from_of, to_of, IsPattern}
use Rattle.embed_theorem.proofs.Counts.{HasGirth}

-- all numbers below n pass a test, computed
abbrev all_below : (ℕ → Bool) → ℕ → Bool
all_below p zero = true
all_below p (suc n) = p n && all_below p n

all_below-at : (p : ℕ → Bool) (n : ℕ) → all_below p n ≡ true → (i : ℕ) → i < n → p i ≡ true
all_below-at p zero e i l = absurd (omega arith)
all_below-at p (suc n) e i l =
    let h = and_parts (p n) (all_below p n) e in
    elim (cases_eq i n) [ inl q ↦ ap p q ∙ h.0 | inr ne ↦ all_below-at p n h.1 i (omega arith) ]

lt_true : (a b : ℕ) → nat_lt a b ≡ true → a < b
lt_true a b e = grind (arith, nat_tests)

-- the two branches of each path
abbrev pub first_of : Kind → ℕ → ℕ
first_of kind p = (pair_at kind p).0

abbrev pub second_of : Kind → ℕ → ℕ
second_of kind p = (pair_at kind p).1

-- what is computed of path p: its branches are two below n, and each of its directions is the way in its place from its branch
abbrev path_test : ℕ → (ℕ → ℕ) → (ℕ → ℕ) → (ℕ → ℕ → Way) → (ℕ → ℕ → ℕ) → ℕ → Bool
path_test n f s near rank p =
    (nat_lt (f p) n && (nat_lt (s p) n && not (f p == s p)))
    && (((near (f p) (rank (f p) (s p))).0 == p) && (near (f p) (rank (f p) (s p))).1)
    && (((near (s p) (rank (s p) (f p))).0 == p) && not (near (s p) (rank (s p) (f p))).1)

-- what is computed of way j from branch a
abbrev near_test : ℕ → (ℕ → ℕ) → (ℕ → ℕ) → (ℕ → ℕ → Way) → (ℕ → ℕ → ℕ) → ℕ → ℕ → Bool
near_test count f s near rank a j =
    nat_lt (near a j).0 count && ((from_of f s (near a j) == a) && (rank a (to_of f s (near a j)) == j))

module _ (n count degree : ℕ) (f s : ℕ → ℕ) (near : ℕ → ℕ → Way) (rank : ℕ → ℕ → ℕ) where
  by_tests : 2 ≤ degree → all_below (path_test n f s near rank) count ≡ true → all_below (λ a. all_below (near_test count f s near rank a) degree) n ≡ true → IsPattern n count degree f s
  by_tests two paths nears = record {
    low = λ p l. lt_true (f p) n (ends p l).0;
    low' = λ p l. lt_true (s p) n (ends p l).1;
    ends = λ p l. eqb-false (f p) (s p) (not-true (f p == s p) (ends p l).2);
    single = λ w z l m e g. own w l ∙ (ap₂ (λ a b. near a (rank a b)) e g ∙ sym (own z m));
    two = two;
    near = near;
    near_in = λ a j l m. let h = at a j l m in (lt_true (near a j).0 count h.0, eqb-true (from_of f s (near a j)) a h.1);
    near_apart = λ a i j l m o e. sym (eqb-true (rank a (to_of f s (near a i))) i (at a i l m).2) ∙ (ap (rank a) e ∙ eqb-true (rank a (to_of f s (near a j))) j (at a j l o).2);
  }
    where
      path : (p : ℕ) → p < count → path_test n f s near rank p ≡ true
      path p l = all_below-at (path_test n f s near rank) count paths p l

      outer : (p : ℕ) → p < count → ((nat_lt (f p) n && (nat_lt (s p) n && not (f p == s p))) && (((near (f p) (rank (f p) (s p))).0 == p) && (near (f p) (rank (f p) (s p))).1) ≡ true) × ((((near (s p) (rank (s p) (f p))).0 == p) && not (near (s p) (rank (s p) (f p))).1) ≡ true)
      outer p l = and_parts _ _ (path p l)

      inside : (p : ℕ) → p < count → ((nat_lt (f p) n && (nat_lt (s p) n && not (f p == s p))) ≡ true) × ((((near (f p) (rank (f p) (s p))).0 == p) && (near (f p) (rank (f p) (s p))).1) ≡ true)
      inside p l = and_parts _ _ (outer p l).0

      ends : (p : ℕ) → p < count → (nat_lt (f p) n ≡ true) × (nat_lt (s p) n ≡ true) × (not (f p == s p) ≡ true)
      ends p l = let a = and_parts _ _ (inside p l).0 in let b = and_parts _ _ a.1 in (a.0, b.0, b.1)

      own : (w : Way) → w.0 < count → w ≡ near (from_of f s w) (rank (from_of f s w) (to_of f s w))
      own (p, true) l = let h = and_parts _ _ (inside p l).1 in sym (ap₂ (λ x y. let w : Way = (x, y) in w) (eqb-true (near (f p) (rank (f p) (s p))).0 p h.0) h.1)
      own (p, false) l = let h = and_parts _ _ (outer p l).1 in sym (ap₂ (λ x y. let w : Way = (x, y) in w) (eqb-true (near (s p) (rank (s p) (f p))).0 p h.0) (not-true (near (s p) (rank (s p) (f p))).1 h.1))

      at : (a j : ℕ) → a < n → j < degree → (nat_lt (near a j).0 count ≡ true) × ((from_of f s (near a j) == a) ≡ true) × ((rank a (to_of f s (near a j)) == j) ≡ true)
      at a j l m =
          let h = and_parts _ _ (all_below-at (near_test count f s near rank a) degree (all_below-at (λ a. all_below (near_test count f s near rank a) degree) n nears a l) j m) in
          let g = and_parts _ _ h.1 in
          (h.0, g.0, g.1)

-- the ways from each branch of K5, to the others in order
abbrev ways_of_five : List (List Way)
ways_of_five =
    ((0, true) ∷ (1, true) ∷ (2, true) ∷ (3, true) ∷ [])
    ∷ ((0, false) ∷ (4, true) ∷ (5, true) ∷ (6, true) ∷ [])
    ∷ ((1, false) ∷ (4, false) ∷ (7, true) ∷ (8, true) ∷ [])
    ∷ ((2, false) ∷ (5, false) ∷ (7, false) ∷ (9, true) ∷ [])
    ∷ ((3, false) ∷ (6, false) ∷ (8, false) ∷ (9, false) ∷ [])
    ∷ []

abbrev near_of : Kind → ℕ → ℕ → Way
near_of K5 a j = get_or (get_or ways_of_five a []) j (0, true)
near_of K33 a j = if nat_lt a 3 then (3 * a + j, true) else (3 * j + (a - 3), false)

abbrev rank_of : Kind → ℕ → ℕ → ℕ
rank_of K5 a b = if nat_lt b a then b else b - 1
rank_of K33 a b = if nat_lt a 3 then b - 3 else b

abbrev pub degree_of : Kind → ℕ
degree_of K5 = 4
degree_of K33 = 3

abbrev pub girth_of : Kind → ℕ
girth_of K5 = 3
girth_of K33 = 4

pub pattern_of : (kind : Kind) → IsPattern (branch_count kind) (length (pairs_of kind)) (degree_of kind) (first_of kind) (second_of kind)
pattern_of K5 = by_tests 5 10 4 (first_of K5) (second_of K5) (near_of K5) (rank_of K5) (omega arith) refl refl
pattern_of K33 = by_tests 6 9 3 (first_of K33) (second_of K33) (near_of K33) (rank_of K33) (omega arith) refl refl

-- ---- walks
apart_by_order : (x : ℕ → ℕ) (g : ℕ) → ((i j : ℕ) → i < j → j < g → x i ≢ x j) → (i j : ℕ) → i < g → j < g → x i ≡ x j → i ≡ j
apart_by_order x g h i j l m e = grind (arith, cases_order)

-- the two parts of K3,3
sides_apart : (w : Way) → w.0 < 9 → ((from_of (first_of K33) (second_of K33) w < 3) × (3 ≤ to_of (first_of K33) (second_of K33) w)) ⊎ ((3 ≤ from_of (first_of K33) (second_of K33) w) × (to_of (first_of K33) (second_of K33) w < 3))
sides_apart w l = grind (arith, lt_true, first_of, K33, and_parts, second_of, nat_lt, not, all_below-at, nat_tests, Way, from_of, to_of)

module _ (f s : ℕ → ℕ) (count : ℕ) (ends : (w : Way) → w.0 < count → from_of f s w ≢ to_of f s w) (ws : ℕ → Way) (inside : (j : ℕ) → (ws j).0 < count) (on : (j : ℕ) → from_of f s (ws (suc j)) ≡ to_of f s (ws j)) (turns : (j : ℕ) → to_of f s (ws (suc j)) ≢ from_of f s (ws j)) where
  one_step : (i : ℕ) → from_of f s (ws i) ≢ from_of f s (ws (suc i))
  one_step i e = ends (ws i) (inside i) (e ∙ on i)

  two_steps : (i : ℕ) → from_of f s (ws i) ≢ from_of f s (ws (suc (suc i)))
  two_steps i e = turns i (sym (e ∙ on (suc i)))

  girth_three : (i j : ℕ) → i < 3 → j < 3 → from_of f s (ws i) ≡ from_of f s (ws j) → i ≡ j
  girth_three = grind (arith, apart_by_order, from_of, cases_eq, one_step, two_steps)

-- a way has two ends
ends_of : (kind : Kind) (w : Way) → w.0 < length (pairs_of kind) → from_of (first_of kind) (second_of kind) w ≢ to_of (first_of kind) (second_of kind) w
ends_of kind (p, true) l = (pattern_of kind).ends p l
ends_of kind (p, false) l = λ e. (pattern_of kind).ends p l (sym e)

pub girth_is : (kind : Kind) → HasGirth (first_of kind) (second_of kind) (length (pairs_of kind)) (girth_of kind)
girth_is x0 ws inside on turns = grind (arith, K5, girth_three, first_of, second_of, ends_of, K33, from_of, apart_by_order, cases_eq, one_step, two_steps, sides_apart)
