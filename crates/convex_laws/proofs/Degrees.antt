-- A closed walk passes the edges at a vertex an even number of times, counted together.
use Rattle.std.proofs.Common.{◌≡◌, ◌≢◌, ℕ, zero, suc, ◌+◌, ◌<◌, Bool, true, false, ◌&&◌, ◌||◌, eqb, ltb, List, [], ◌∷◌, length, get_or, refl, sym, ap, ap₂, ◌∙◌, subst, inl, inr, arith}
use Rattle.std.proofs.lemmas.Bool.{cases_eq, cases_lt, eq-eqb, ne_eqb, lt-ltb, le-ltb, cond-true, cond-false, and_left, and_right}
use Rattle.std.proofs.Math.Bool.{or_comm, and-true}
use Rattle.map_lists.specs.Lists.{Lists}
use Rattle.map_theory.specs.Maps.{Dart, HasDart, IsSimpleMap, list_of, place_of, dart_count, same_dart}
use Rattle.map_theory.proofs.DartLemmas.{place_of-lt-length, get_or-place_of, place_of-get_or, place_after, place_of-entry_after}
use Rattle.map_theory.proofs.DartPermutations.{dart_of, dart_of-number, dart_of-twin, dart_of-rotation, rotation, twin}
use Rattle.convex_laws.specs.Walks.{IsWalk, flipped, is_edge, is_odd_on}
use Rattle.convex_laws.proofs.Flips.{flipped_swap, flipped_assoc, flipped_comm, flipped_both, flipped_self}

-- whether an odd number of the places below n pass a test
abbrev pub odd_below : (ℕ → Bool) → ℕ → Bool
odd_below t zero = false
odd_below t (suc n) = flipped (t n) (odd_below t n)

odd_below_none : (t : ℕ → Bool) (n : ℕ) → ((i : ℕ) → i < n → t i ≡ false) → odd_below t n ≡ false
odd_below_none t zero h = refl
odd_below_none t (suc n) h = ap (λ b. flipped b (odd_below t n)) (h n (omega arith)) ∙ odd_below_none t n (λ i l. h i (omega arith))

odd_below_one : (t : ℕ → Bool) (n p : ℕ) → p < n → t p ≡ true → ((i : ℕ) → i < n → i ≢ p → t i ≡ false) → odd_below t n ≡ true
odd_below_one t zero p l here else = absurd (omega arith)
odd_below_one t (suc n) p l here else = elim (cases_eq p n) [
  | inl e ↦ ap₂ flipped (ap t (sym e) ∙ here) (odd_below_none t n (λ i m. else i (omega arith) (λ q. absurd (omega arith))))
  | inr ne ↦ ap (λ b. flipped b (odd_below t n)) (else n (omega arith) (λ q. ne (sym q))) ∙ odd_below_one t n p (omega arith) here (λ i m. else i (omega arith))
]

four : (a b c d : Bool) → flipped (flipped a b) (flipped c d) ≡ flipped (flipped a c) (flipped b d)
four a b c d =
    sym (flipped_assoc a b (flipped c d)) ∙ (ap (flipped a) (flipped_swap b c d) ∙ flipped_assoc a c (flipped b d))

odd_below_flipped : (t u : ℕ → Bool) (n : ℕ) → odd_below (λ i. flipped (t i) (u i)) n ≡ flipped (odd_below t n) (odd_below u n)
odd_below_flipped t u zero = refl
odd_below_flipped t u (suc n) = ap (flipped (flipped (t n) (u n))) (odd_below_flipped t u n) ∙ four (t n) (u n) (odd_below t n) (odd_below u n)

-- the two directions of an edge are passed together
is_edge-turned : (d : Dart) (x y : ℕ) → is_edge d y x ≡ is_edge d x y
is_edge-turned d x y = or_comm (same_dart d (y, x)) (same_dart d (x, y))

pub is_odd_on-turned : (walk : List Dart) (x y : ℕ) → is_odd_on walk y x ≡ is_odd_on walk x y
is_odd_on-turned [] x y = refl
is_odd_on-turned (d ∷ ds) x y = ap₂ flipped (is_edge-turned d x y) (is_odd_on-turned ds x y)

or_none : (a b : Bool) → b ≡ false → (a || b) ≡ a
or_none true b e = refl
or_none false b e = e

module _ (lists : Lists) (simple : IsSimpleMap lists) where
  -- an entry stands at one place
  one_place : (x a : ℕ) → HasDart lists x a → (t : ℕ → Bool) → ((n : ℕ) → n < length (list_of lists x) → t n ≡ eqb a (get_or (list_of lists x) n 0)) → odd_below t (length (list_of lists x)) ≡ true
  one_place x a has t h =
      let us = list_of lists x in
      let l = place_of-lt-length a us has.1 in
      odd_below_one t (length us) (place_of a us) l (h (place_of a us) l ∙ eq-eqb a (get_or us (place_of a us) 0) (sym (get_or-place_of a us 0 l)))
      (λ i m ne. h i m ∙ ne_eqb a (get_or us i 0) (λ e. ne (sym (place_of-get_or us i 0 (simple.no_repeat x has.0) m) ∙ ap (λ z. place_of z us) (sym e))))

  -- an edge has two ends
  one_edge : (d : Dart) (x : ℕ) → HasDart lists d.0 d.1 → odd_below (λ n. is_edge d x (get_or (list_of lists x) n 0)) (length (list_of lists x)) ≡ flipped (eqb x d.0) (eqb x d.1)
  one_edge d x has =
      let us = list_of lists x in
      let t : ℕ → Bool = λ n. is_edge d x (get_or us n 0) in
      elim (cases_eq x d.0) [
        | inl e ↦
            let other : d.1 ≢ x = λ q. simple.no_loop d.0 d.1 has (q ∙ e) in
            let at : (n : ℕ) → n < length us → t n ≡ eqb d.1 (get_or us n 0) = λ n l.
            or_none (same_dart d (x, get_or us n 0)) (same_dart d (get_or us n 0, x)) (and_right (eqb d.0 (get_or us n 0)) (eqb d.1 x) (ne_eqb d.1 x other))
            ∙ ap (λ b. b && eqb d.1 (get_or us n 0)) (eq-eqb d.0 x (sym e)) in
            one_place x d.1 (subst (λ z. HasDart lists z d.1) (sym e) has) t at ∙ sym (ap₂ flipped (eq-eqb x d.0 e) (ne_eqb x d.1 (λ q. other (sym q))))
        | inr ne ↦
            let first : (n : ℕ) → same_dart d (x, get_or us n 0) ≡ false = λ n. and_left (eqb d.0 x) (eqb d.1 (get_or us n 0)) (ne_eqb d.0 x (λ q. ne (sym q))) in
            elim (cases_eq x d.1) [
              | inl e ↦
                  let at : (n : ℕ) → n < length us → t n ≡ eqb d.0 (get_or us n 0) = λ n l.
                  ap (λ b. b || same_dart d (get_or us n 0, x)) (first n)
                  ∙ (ap (λ b. eqb d.0 (get_or us n 0) && b) (eq-eqb d.1 x (sym e)) ∙ and-true (eqb d.0 (get_or us n 0))) in
                  one_place x d.0 (subst (λ z. HasDart lists z d.0) (sym e) (simple.both_ways d.0 d.1 has)) t at ∙ sym (ap₂ flipped (ne_eqb x d.0 ne) (eq-eqb x d.1 e))
              | inr ne' ↦
                  odd_below_none t (length us) (λ n l. ap (λ b. b || same_dart d (get_or us n 0, x)) (first n) ∙ and_right (eqb d.0 (get_or us n 0)) (eqb d.1 x) (ne_eqb d.1 x (λ q. ne' (sym q))))
                  ∙ sym (ap₂ flipped (ne_eqb x d.0 ne) (ne_eqb x d.1 ne'))
            ]
      ]

  -- a walk passes the edges at a vertex an odd number of times where it ends there or starts there, and not both
  passes : (walk : List Dart) (v w x : ℕ) → IsWalk lists v w walk → odd_below (λ n. is_odd_on walk x (get_or (list_of lists x) n 0)) (length (list_of lists x)) ≡ flipped (eqb x v) (eqb x w)
  passes [] v w x is =
      odd_below_none (λ n. false) (length (list_of lists x)) (λ i l. refl) ∙ sym (ap (λ z. flipped (eqb x v) (eqb x z)) (sym is) ∙ flipped_self (eqb x v))
  passes (d ∷ ds) v w x is =
      let us = list_of lists x in
      let rest = passes ds d.1 w x is.2 in
      let a = eqb x d.0 in
      let b = eqb x d.1 in
      let c = eqb x w in
      odd_below_flipped (λ n. is_edge d x (get_or us n 0)) (λ n. is_odd_on ds x (get_or us n 0)) (length us)
      ∙ (ap₂ flipped (one_edge d x is.1) rest ∙ (ap (λ z. flipped z (flipped b c)) (flipped_comm a b) ∙ (flipped_both b a c ∙ ap (λ z. flipped (eqb x z) c) is.0)))

  module _ (walk : List Dart) (v : ℕ) (closed : IsWalk lists v v walk) where
    -- whether the walk passes the edge of a dart's number an odd number of times
    abbrev pub passed : ℕ → Bool
    passed i = is_odd_on walk (dart_of lists i).0 (dart_of lists i).1

    pub passed-twin : (i : ℕ) → i < dart_count lists → passed (twin lists i) ≡ passed i
    passed-twin i l =
        ap (λ d. is_odd_on walk d.0 d.1) (dart_of-twin lists simple i l) ∙ is_odd_on-turned walk (dart_of lists i).0 (dart_of lists i).1

    -- the same of the places before a place of a list together
    abbrev before : ℕ → ℕ → Bool
    before x n = odd_below (λ j. is_odd_on walk x (get_or (list_of lists x) j 0)) n

    abbrev pub sector : ℕ → Bool
    sector i = before (dart_of lists i).0 (place_of (dart_of lists i).1 (list_of lists (dart_of lists i).0))

    even : (x : ℕ) → before x (length (list_of lists x)) ≡ false
    even x = passes walk v v x closed ∙ flipped_self (eqb x v)

    pub sector-rotation : (i : ℕ) → i < dart_count lists → sector (rotation lists i) ≡ flipped (passed i) (sector i)
    sector-rotation i l =
        let d = dart_of lists i in
        let x = d.0 in
        let us = list_of lists x in
        let has = (dart_of-number lists simple i l).is_dart in
        let n = place_of d.1 us in
        let ln = place_of-lt-length d.1 us has.1 in
        ap (λ (e : Dart). before e.0 (place_of e.1 (list_of lists e.0))) (dart_of-rotation lists simple i l)
        ∙ (ap (before x) (place_of-entry_after d.1 us (simple.no_repeat x has.0) has.1)
        ∙ (elim (cases_lt (n + 1) (length us)) [
          | inl less ↦ let e : place_after (length us) n ≡ suc n = cond-true (ltb (n + 1) (length us)) (n + 1) 0 (lt-ltb (n + 1) (length us) less) ∙ omega arith in ap (before x) e
          | inr more ↦
              let all : length us ≡ suc n = omega arith in
              ap (before x) (cond-false (ltb (n + 1) (length us)) (n + 1) 0 (le-ltb (n + 1) (length us) more)) ∙ (sym (even x) ∙ ap (before x) all)
        ] ∙ (ap (λ u. flipped (is_odd_on walk x u) (before x n)) (get_or-place_of d.1 us 0 ln))))
