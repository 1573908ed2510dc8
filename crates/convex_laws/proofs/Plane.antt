-- What the triangles say of the darts alone.
use Rattle.std.proofs.Common.{◌≡◌, ◌⊎◌, ℕ, ◌+◌, ◌*◌, ◌<◌, Bool, true, false, not, ◌&&◌, eqb, refl, sym, ap, ap₂, subst, ◌∙◌, inl, inr, arith, eq-eqb, eqb-true}
use Rattle.std.proofs.lemmas.Bool.{cases_Bool, true≢false, and_parts, not-true, not-false}
use Rattle.pg_plane.specs.declared.grid_points.Point.{Point}
use Rattle.pg_plane.specs.Geometry.{vector, IsOnSegment, DoCross, IsClockBefore}
use Rattle.classes.proofs.Orbits.{IsPermuting, marks_back}
use Rattle.pg_plane.specs.Faced.{turn}
use Rattle.pg_plane.specs.Law.{IsPlaneByDarts, direction}
use Rattle.pg_plane.proofs.Round.{find_below}
use Rattle.pg_plane.proofs.PlaneByDarts.{plane_by_darts}
use Rattle.pg_plane.proofs.ClockOrder.{clock_cases, clock_apart, clock_chained}
use Rattle.convex_laws.specs.Middles.{IsMiddled, next, IsBreakAt, IsPlaneRound}
use Rattle.convex_laws.specs.FaceMiddlesLaws.{MiddlesArePlane}
use Rattle.convex_laws.proofs.Triangles.{twin3, step3, at3, tail3, all, twin-first, twin-third, step-first, step-second, step-third, at-first, at-second, tail-first, tail-second, in_all, second_in_all, IsFaced-three, IsTailed-three}

-- the order of directions as a test
is_before : Point → Point → Bool
is_before d e = elim (clock_cases d e) [ inl b ↦ true | inr b ↦ false ]

is_before-true : (d e : Point) → is_before d e ≡ true → IsClockBefore d e
unfolding is_before
is_before-true d e = grind (arith, clock_cases, IsClockBefore, true≢false)

is_before-false : (d e : Point) → is_before d e ≡ false → ¬ IsClockBefore d e
unfolding is_before
is_before-false d e = grind (arith, clock_cases, IsClockBefore, true≢false)

before-is_before : (d e : Point) → IsClockBefore d e → is_before d e ≡ true
before-is_before d e b = elim (cases_Bool (is_before d e)) [ inl t ↦ t | inr f ↦ absurd (is_before-false d e f b) ]

-- directions that come before one another all round do not come back to where they began
module _ (f : ℕ → ℕ) (k : ℕ) (w : IsPermuting f k) (way : ℕ → Point) (tail : ℕ → ℕ) (keeps : (i : ℕ) → i < k → tail (f i) ≡ tail i) (o : ℕ) (lo : o < k) (falls : (i : ℕ) → i < k → tail i ≡ tail o → IsClockBefore (way (f i)) (way i)) where
  is_lower : ℕ → Bool
  is_lower i = eqb (tail i) (tail o) && is_before (way i) (way o)

  lower : (i : ℕ) → tail i ≡ tail o → IsClockBefore (way i) (way o) → is_lower i ≡ true
  unfolding is_lower
  lower i t b = ap₂ (λ x y. x && y) (eq-eqb (tail i) (tail o) t) (before-is_before (way i) (way o) b)

  lower_is : (i : ℕ) → is_lower i ≡ true → (tail i ≡ tail o) × IsClockBefore (way i) (way o)
  unfolding is_lower
  lower_is i m = let p = and_parts (eqb (tail i) (tail o)) (is_before (way i) (way o)) m in (eqb-true (tail i) (tail o) p.0, is_before-true (way i) (way o) p.1)

  never_round : ⊥
  never_round =
      let begin = lower (f o) (keeps o lo) (falls o lo refl) in
      let back = marks_back f k w is_lower (λ i l m. let p = lower_is i m in lower (f i) (keeps i l ∙ p.0) (clock_chained (way (f i)) (way i) (way o) (falls i l p.0) p.1)) o lo begin in
      let b = (lower_is o back).1 in
      clock_apart (way o) (way o) b b

module _ (k : ℕ) (twin step back : ℕ → ℕ) (at : ℕ → Point) (tail face : ℕ → ℕ) (middle : ℕ → Point) (base : ℕ) (d : IsMiddled k twin step back at tail face middle base) where
  abbrev n : ℕ
  n = all k twin step back at tail face middle base d

  abbrev T : ℕ → ℕ
  T = twin3 k twin step back at tail face middle base d

  abbrev S : ℕ → ℕ
  S = step3 k twin step back at tail face middle base d

  abbrev A : ℕ → Point
  A = at3 k twin step back at tail face middle base d

  abbrev V : ℕ → ℕ
  V = tail3 k twin step back at tail face middle base d

  three : IsPlaneByDarts n T S A V
  three = plane_by_darts n T S A base V (IsFaced-three k twin step back at tail face middle base d) (IsTailed-three k twin step back at tail face middle base d)

  low : (i : ℕ) → i < k → i < n
  low i l = in_all k twin step back at tail face middle base d i l

  here : (i : ℕ) → i < k → A i ≡ at i
  here i l = at-first k twin step back at tail face middle base d i l

  stepped : (i : ℕ) → i < k → S i ≡ i + k
  stepped i l = step-first k twin step back at tail face middle base d i l

  there : (i : ℕ) → i < k → A (S i) ≡ at (step i)
  there i l = ap A (stepped i l) ∙ at-second k twin step back at tail face middle base d i l

  named : (i : ℕ) → i < k → V i ≡ 2 * tail i
  named i l = tail-first k twin step back at tail face middle base d i l

  named_step : (i : ℕ) → i < k → V (S i) ≡ 2 * tail (step i)
  named_step i l = ap V (stepped i l) ∙ tail-second k twin step back at tail face middle base d i l

  way_is : (i : ℕ) → i < k → direction S A i ≡ direction step at i
  way_is i l = ap₂ (λ p q. vector p q) (here i l) (there i l)

  turn_here : (i : ℕ) → i < k → turn T S i ≡ back i + k
  turn_here i l = ap (λ z. T (S z)) (stepped i l) ∙ ap T (step-second k twin step back at tail face middle base d i l) ∙ twin-third k twin step back at tail face middle base d i l

  turn_beside : (i : ℕ) → i < k → turn T S (i + k) ≡ twin i
  turn_beside i l = ap (λ z. T (S z)) (step-second k twin step back at tail face middle base d i l) ∙ ap T (step-third k twin step back at tail face middle base d i l) ∙ twin-first k twin step back at tail face middle base d i l

  -- what is no break at either dart of the triangles is no break
  between : (i : ℕ) → i < k → IsClockBefore (direction S A (turn T S i)) (direction S A i) → IsClockBefore (direction S A (turn T S (back i + k))) (direction S A (back i + k)) → IsClockBefore (direction step at (next twin back i)) (direction step at i)
  between i l a b =
      let lb = d.back_in i l in
      let a' = subst (λ z. IsClockBefore (direction S A z) (direction S A i)) (turn_here i l) a in
      let b' = subst (λ z. IsClockBefore (direction S A z) (direction S A (back i + k))) (turn_beside (back i) lb) b in
      let c = clock_chained (direction S A (twin (back i))) (direction S A (back i + k)) (direction S A i) b' a' in
      subst (λ z. IsClockBefore z (direction step at i)) (way_is (twin (back i)) (d.twins.within (back i) lb)) (subst (λ z. IsClockBefore (direction S A (twin (back i))) z) (way_is i l) c)

  -- so a break is a break at one of the two
  broken : (i : ℕ) → i < k → IsBreakAt twin step back at i → (¬ IsClockBefore (direction S A (turn T S i)) (direction S A i)) ⊎ (¬ IsClockBefore (direction S A (turn T S (back i + k))) (direction S A (back i + k)))
  broken i l no_one = elim (clock_cases (direction S A (turn T S i)) (direction S A i)) [
    | inr b ↦ inl b
    | inl a ↦ elim (clock_cases (direction S A (turn T S (back i + k))) (direction S A (back i + k))) [ inr b ↦ inr b | inl b ↦ absurd (no_one (between i l a b)) ]
  ]

  beside_named : (i : ℕ) → i < k → V (back i + k) ≡ 2 * tail i
  beside_named i l = tail-second k twin step back at tail face middle base d (back i) (d.back_in i l) ∙ ap (λ j. 2 * tail j) (d.step_back i l)

  beside_low : (i : ℕ) → i < k → back i + k < n
  beside_low i l = second_in_all k twin step back at tail face middle base d (back i) (d.back_in i l)

  one_break : (i j : ℕ) → i < k → j < k → tail i ≡ tail j → IsBreakAt twin step back at i → IsBreakAt twin step back at j → i ≡ j
  one_break i j li lj same bi bj =
      let double = ap (λ t. 2 * t) same in
      elim (broken i li bi) [
        | inl a ↦ elim (broken j lj bj) [
          | inl b ↦ three.one_break i j (low i li) (low j lj) (named i li ∙ double ∙ sym (named j lj)) a b
          | inr b ↦ let e = three.one_break i (back j + k) (low i li) (beside_low j lj) (named i li ∙ double ∙ sym (beside_named j lj)) a b in absurd (omega arith)
        ]
        | inr a ↦ elim (broken j lj bj) [
          | inl b ↦ let e = three.one_break (back i + k) j (beside_low i li) (low j lj) (beside_named i li ∙ double ∙ sym (named j lj)) a b in absurd (omega arith)
          | inr b ↦
              let e = three.one_break (back i + k) (back j + k) (beside_low i li) (beside_low j lj) (beside_named i li ∙ double ∙ sym (beside_named j lj)) a b in
              let f : back i ≡ back j = omega arith in
              sym (d.step_back i li) ∙ ap step f ∙ d.step_back j lj
        ]
      ]

  nexts : IsPermuting (next twin back) k
  nexts = grind arith

  next_tail : (i : ℕ) → i < k → tail (next twin back i) ≡ tail i
  next_tail i l = sym (d.tails (back i) (d.back_in i l)) ∙ ap tail (d.step_back i l)

  way : ℕ → Point
  way i = direction step at i

  some_break : (o : ℕ) → o < k → (i : ℕ) × (i < k) × (tail i ≡ tail o) × IsBreakAt twin step back at i
  some_break o lo = elim (find_below (λ i. eqb (tail i) (tail o) && not (is_before (direction step at (next twin back i)) (direction step at i))) k) [
    | inl f ↦
        let p = and_parts (eqb (tail f.0) (tail o)) (not (is_before (direction step at (next twin back f.0)) (direction step at f.0))) f.2 in
        (f.0, f.1, eqb-true (tail f.0) (tail o) p.0, is_before-false _ _ (not-true _ p.1))
    | inr none ↦
        absurd (never_round (next twin back) k nexts (λ i. direction step at i) tail next_tail o lo
        (λ i l t. is_before-true _ _ (not-false _ (sym (ap (λ x. x && not (is_before (direction step at (next twin back i)) (direction step at i))) (eq-eqb (tail i) (tail o) t)) ∙ none i l))))
  ]

  pub plane_round : IsPlaneRound k twin step back at tail
  plane_round = record {
    apart = λ i j li lj e.
        omega (arith, named j lj, named i li, three.apart i j (low i li) (low j lj) (here i li ∙ e ∙ sym (here j lj)));
    off_edges = λ i m li lm ne ne' on.
        three.off_edges i m (low i li) (low m lm) (λ e. ne (let a = named i li in let b = named m lm in omega arith)) (λ e. ne' (let a = named_step i li in let b = named m lm in omega arith))
        (subst (λ p. IsOnSegment p (A i) (A (S i))) (sym (here m lm)) (subst (λ p. IsOnSegment (at m) p (A (S i))) (sym (here i li)) (subst (λ p. IsOnSegment (at m) (at i) p) (sym (there i li)) on)));
    no_crossing = λ i j li lj x.
        three.no_crossing i j (low i li) (low j lj)
        (subst (λ p. DoCross p (A (S i)) (A j) (A (S j))) (sym (here i li)) (subst (λ p. DoCross (at i) p (A j) (A (S j))) (sym (there i li)) (subst (λ p. DoCross (at i) (at (step i)) p (A (S j))) (sym (here j lj)) (subst (λ p. DoCross (at i) (at (step i)) (at j) p) (sym (there j lj)) x))));
    some_break = some_break;
    one_break = one_break;
  }

pub middles_are_plane : MiddlesArePlane
middles_are_plane k twin step back at tail face middle base d = plane_round k twin step back at tail face middle base d
