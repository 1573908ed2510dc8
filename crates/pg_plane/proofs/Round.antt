-- Round a vertex: just one dart holds, by the heights of its head and of the next one; so vertices stand apart, and directions go once round.
use Rattle.std.proofs.Common.{◌≡◌, ℕ, zero, suc, ◌<◌, ◌⊎◌, Bool, true, false, not, ◌&&◌, cond, eqb, ltb, ℤ, pos, ◌-ℤ◌, ◌<ℤ◌, refl, sym, ap, ap₂, subst, ◌∙◌, inl, inr, arith, eq-eqb, eqb-true}
use Rattle.std.specs.Bool.{beq}
use Rattle.std.proofs.lemmas.Int.{ints, by_lt_z}
use Rattle.std.proofs.lemmas.Bool.{cases_Bool, true≢false, and_parts, cases_lt, not-true}
use Rattle.std.proofs.Math.Bool.{and-false, and-true}
use lib.Signed.{lt_z}
use borrow.Author.Differences.{true_is_lt, false_is_lt}
use Rattle.pg_plane.specs.declared.grid_points.Point.{Point}
use Rattle.pg_plane.specs.Geometry.{vector, cross, area}
use Rattle.classes.proofs.Orbits.{IsPermuting, marks_back}
use Rattle.pg_plane.specs.Faced.{in_base, IsFaced, IsTailed, turn}
use Rattle.pg_plane.proofs.Near.{NoneLevel}
use Rattle.pg_plane.proofs.Ring.{sums, ring, product_signs}
use Rattle.pg_plane.proofs.Identities.{heights}
use Rattle.classes.proofs.Counting.{one_if}
use Rattle.pg_plane.proofs.Clash.{up, side, meets, there_at, back_at, inside_is, within_is, IsMetAsHeld, one_holds, base_area}
use Rattle.pg_plane.proofs.Crossing.{some_area, twin_place, twin_head, flat_first, flat_ends}

-- some number below n passes a test, or none does
pub find_below : (p : ℕ → Bool) (n : ℕ) → ((i : ℕ) × (i < n) × (p i ≡ true)) ⊎ ((i : ℕ) → i < n → p i ≡ false)
find_below p zero = inr (λ i l. absurd (omega arith))
find_below p (suc n) =
    elim (find_below p n) [
      | inl found ↦ inl (found.0, omega (arith, found.1), found.2)
      | inr none ↦ elim (cases_Bool (p n)) [
        | inl yes_here ↦ inl (n, omega arith, yes_here)
        | inr not_here ↦ inr (λ i l. elim (cases_lt i n) [ inl less ↦ none i less | inr more ↦ (let e : i ≡ n = omega arith in ap p e ∙ not_here) ])
      ]
    ]

-- three vectors of one half of the plane: a left turn after a left turn is a left turn
up_turns : (u v w : Point) → pos 0 <ℤ u.y → pos 0 <ℤ v.y → pos 0 <ℤ w.y → pos 0 <ℤ cross u v → pos 0 <ℤ cross v w → pos 0 <ℤ cross u w
up_turns u v w hu hv hw uv vw =
    let a = (product_signs (cross v w) u.y).both_above vw hu in
    let b = (product_signs (cross u v) w.y).both_above uv hw in
    by_lt_z (pos 0) (cross u w) (λ l. l)
    (λ l. let c = (product_signs (cross w u) v.y).both_up (omega (arith, sums)) (omega (arith, ints)) in absurd (omega (arith, heights u v w, sums)))

down_turns : (u v w : Point) → u.y <ℤ pos 0 → v.y <ℤ pos 0 → w.y <ℤ pos 0 → pos 0 <ℤ cross u v → pos 0 <ℤ cross v w → pos 0 <ℤ cross u w
down_turns u v w hu hv hw uv vw =
    let a = (product_signs (cross v w) u.y).above_below vw hu in
    let b = (product_signs (cross u v) w.y).above_below uv hw in
    by_lt_z (pos 0) (cross u w) (λ l. l)
    (λ l. let c = (product_signs (cross w u) v.y).up_down (omega (arith, sums)) (omega (arith, ints)) in absurd (omega (arith, heights u v w, sums)))

level_here : (p : Point) → up p p ≡ false
level_here p = let e : p.y -ℤ p.y ≡ pos 0 = omega (arith, ints) in rw e refl

meets_from : (p q : Point) → meets p p q ≡ false
meets_from p q = let e : side p p q ≡ pos 0 = simp ring (omega (arith, sums)) in rw (level_here p, e) (and-false (up p q))

meets_to : (p q : Point) → meets p q p ≡ false
meets_to p q = rw (level_here p) (and-false (not (up p q)))

meets_left : (p q r : Point) → pos 0 <ℤ area p q r → meets p q r ≡ (not (up p q) && up p r)
meets_left p q r positive = rw (sym (true_is_lt (pos 0) (side p q r) (omega (arith, ints)))) (ap (λ x. not (up p q) && x) (and-true (up p r)))

meets_right : (p q r : Point) → area p q r <ℤ pos 0 → meets p q r ≡ false
meets_right p q r negative = rw (sym (false_is_lt (pos 0) (side p q r) (omega (arith, ints)))) (ap (λ x. not (up p q) && x) (and-false (up p r)) ∙ and-false (not (up p q)))

-- what the corner p meets of its own triangle
corner_there : (p q r : Point) → pos 0 <ℤ area p q r → (there_at p p q r ≡ one_if (not (up p q) && up p r)) × (back_at p p q r ≡ 0)
corner_there p q r positive =
    (rw (meets_from p q, meets_to p r, meets_left p q r positive) (omega arith), rw (meets_to p q, meets_from p r, meets_right p r q (omega (arith, ints))) (omega arith))

corner_back : (p q r : Point) → area p q r <ℤ pos 0 → (there_at p p q r ≡ 0) × (back_at p p q r ≡ one_if (not (up p r) && up p q))
corner_back p q r negative =
    (rw (meets_from p q, meets_to p r, meets_right p q r negative) (omega arith), rw (meets_to p q, meets_from p r, meets_left p r q (omega (arith, ints))) (omega arith))

beq_same : (x y : Bool) → beq x y ≡ true → x ≡ y
beq_same true true h = refl
beq_same false false h = refl
beq_same true false h = sym h
beq_same false true h = h

beq_refl : (x : Bool) → beq x x ≡ true
beq_refl true = refl
beq_refl false = refl

one_more : (x : Bool) → ltb 0 (one_if x) ≡ x
one_more true = refl
one_more false = refl

module _ (k : ℕ) (twin step : ℕ → ℕ) (at : ℕ → Point) (base : ℕ) (d : IsFaced k twin step at base) where
  -- the head of a dart stands above its tail
  pub head_up : ℕ → Bool
  head_up i = up (at i) (at (step i))

  -- A dart holds where its head is not above and the next head is; a dart of the base's face where not its own alone is above.
  pub holds : ℕ → Bool
  holds i = cond (in_base step base i) (not (not (head_up (turn twin step i)) && head_up i)) (not (head_up i) && head_up (turn twin step i))

  pub holds_is : (i : ℕ) → holds i ≡ cond (in_base step base i) (not (not (up (at (turn twin step i)) (at (step (turn twin step i)))) && up (at i) (at (step i)))) (not (up (at i) (at (step i))) && up (at (turn twin step i)) (at (step (turn twin step i))))
  unfolding holds head_up
  holds_is i = refl

  pub turn_place : (i : ℕ) → i < k → at (turn twin step i) ≡ at i
  turn_place i l =
      twin_place k twin step at base d (step (step i)) (d.steps.within (step i) (d.steps.within i l)) ∙ ap at (d.thrice i l)

  pub turn_head : (i : ℕ) → i < k → at (step (turn twin step i)) ≡ at (step (step i))
  turn_head i l = twin_head k twin step at base d (step (step i)) (d.steps.within (step i) (d.steps.within i l))

  pub next_up : (i : ℕ) → i < k → head_up (turn twin step i) ≡ up (at i) (at (step (step i)))
  unfolding head_up
  next_up i l = ap₂ (λ p q. up p q) (turn_place i l) (turn_head i l)

  -- a dart that holds has a face that is met as if it held the place of its tail
  holds_met : (i : ℕ) → i < k → holds i ≡ true → IsMetAsHeld k twin step at base d (at i) i
  unfolding holds head_up
  holds_met i l h = record {
    inner = λ e.
        let c = corner_there (at i) (at (step i)) (at (step (step i))) (d.inner i l e) in
        let h' : (not (up (at i) (at (step i))) && up (at i) (at (step (step i)))) ≡ true = rw (e, next_up i l) at h in
        inside_is k twin step at base d (at i) i ∙ rw (e, c.0, c.1) (one_more _ ∙ h');
    outer = λ e.
        let c = corner_back (at i) (at (step i)) (at (step (step i))) (base_area k twin step at base d (at i) i e) in
        let h' : not (not (up (at i) (at (step (step i)))) && up (at i) (at (step i))) ≡ true = rw (e, next_up i l) at h in
        within_is k twin step at base d (at i) i ∙ rw (e, c.0, c.1) (one_more _ ∙ not-true _ h');
  }

  -- two darts that hold at one place are one
  pub holds_once : (i j : ℕ) → i < k → j < k → at i ≡ at j → holds i ≡ true → holds j ≡ true → i ≡ j
  holds_once i j li lj same hi hj =
      let on = one_holds k twin step at base d (at i) i j li lj (holds_met i li hi) (subst (λ p. IsMetAsHeld k twin step at base d p j) (sym same) (holds_met j lj hj)) in
      elim on [
        | inl e ↦ sym e
        | inr on' ↦ elim on' [
          | inl e ↦ absurd (some_area k twin step at base d i li (ap (λ x. area (at i) x (at (step (step i)))) (sym (same ∙ ap at e)) ∙ flat_first (at i) (at (step (step i)))))
          | inr e ↦ absurd (some_area k twin step at base d i li (ap (λ x. area (at i) (at (step i)) x) (sym (same ∙ ap at e)) ∙ flat_ends (at i) (at (step i))))
        ]
      ]

  pub turns : IsPermuting (turn twin step) k
  turns = grind arith

  pub turn_tail : (tail : ℕ → ℕ) → IsTailed k twin step at tail → (i : ℕ) → i < k → tail (turn twin step i) ≡ tail i
  turn_tail tail r i l = sym (r.tails (step (step i)) (d.steps.within (step i) (d.steps.within i l))) ∙ ap tail (d.thrice i l)

  module _ (tail : ℕ → ℕ) (r : IsTailed k twin step at tail) (level : NoneLevel k step at) where
    -- no dart from w holds
    module _ (w : ℕ) (none : (i : ℕ) → i < k → tail i ≡ w → holds i ≡ false) where
      stays_down : (i : ℕ) → i < k → tail i ≡ w → head_up i ≡ false → head_up (turn twin step i) ≡ false
      unfolding holds
      stays_down i l t a =
          elim (cases_Bool (in_base step base i)) [
            | inl e ↦ absurd (true≢false (sym (rw (and-false (not (head_up (turn twin step i)))) refl) ∙ (rw (e, a) at (none i l t))))
            | inr e ↦ rw (e, a) at (none i l t)
          ]

      is_down : ℕ → Bool
      is_down i = eqb (tail i) w && not (head_up i)

      was_down : (i : ℕ) → i < k → tail i ≡ w → head_up (turn twin step i) ≡ false → head_up i ≡ false
      unfolding is_down
      was_down i l t a =
          let marked : is_down (turn twin step i) ≡ true = rw (eq-eqb (tail (turn twin step i)) w (turn_tail tail r i l ∙ t), a) refl in
          let back = marks_back (turn twin step) k turns is_down
          (λ j lj m. let parts = and_parts (eqb (tail j) w) (not (head_up j)) m in
          let tj = eqb-true (tail j) w parts.0 in
          rw (eq-eqb (tail (turn twin step j)) w (turn_tail tail r j lj ∙ tj), stays_down j lj tj (not-true (head_up j) parts.1)) refl) i l marked in
          not-true (head_up i) (and_parts (eqb (tail i) w) (not (head_up i)) back).1

      same_up : (i : ℕ) → i < k → tail i ≡ w → head_up (turn twin step i) ≡ head_up i
      same_up i l t =
          elim (cases_Bool (head_up i)) [
            | inl e ↦ elim (cases_Bool (head_up (turn twin step i))) [ inl f ↦ f ∙ sym e | inr f ↦ f ∙ sym (was_down i l t f) ]
            | inr e ↦ stays_down i l t e ∙ sym e
          ]

      all_inner : (i : ℕ) → i < k → tail i ≡ w → in_base step base i ≡ false
      unfolding holds
      all_inner i l t =
          elim (cases_Bool (in_base step base i)) [
            | inl e ↦
                let h = none i l t in
                elim (cases_Bool (head_up i)) [
                  | inl a ↦ absurd (true≢false (rw (e, same_up i l t, a) at h))
                  | inr a ↦ absurd (true≢false (sym (rw (and-false (not (head_up (turn twin step i)))) refl) ∙ (rw (e, a) at h)))
                ]
            | inr e ↦ e
          ]

      module _ (o : ℕ) (lo : o < k) (to : tail o ≡ w) where
        -- the way from the first head to that of i, seen from the vertex
        way : ℕ → ℤ
        way i = cross (vector (at o) (at (step o))) (vector (at o) (at (step i)))

        is_left : ℕ → Bool
        is_left i = eqb (tail i) w && (beq (head_up i) (head_up o) && lt_z (pos 0) (way i))

        next_left : (i : ℕ) → i < k → tail i ≡ w → pos 0 <ℤ cross (vector (at o) (at (step i))) (vector (at o) (at (step (turn twin step i))))
        next_left i l t = rw (turn_head i l, r.places o i lo l (to ∙ sym t)) (d.inner i l (all_inner i l t))

        height : (i : ℕ) → i < k → tail i ≡ w → lt_z (pos 0) (vector (at o) (at (step i))).y ≡ head_up i
        unfolding head_up
        height i l t = rw (r.places o i lo l (to ∙ sym t)) refl

        low : (i : ℕ) → i < k → tail i ≡ w → head_up i ≡ false → (vector (at o) (at (step i))).y <ℤ pos 0
        low i l t down =
            let h : lt_z (pos 0) (vector (at o) (at (step i))).y ≡ false = height i l t ∙ down in
            by_lt_z (vector (at o) (at (step i))).y (pos 0) (λ x. x)
            (λ x. absurd (level i l (let e : at o ≡ at i = r.places o i lo l (to ∙ sym t) in let f = ap (λ (p : Point). p.y) e in omega (arith, ints))))

        keeps_left : (i : ℕ) → i < k → is_left i ≡ true → is_left (turn twin step i) ≡ true
        unfolding is_left way
        keeps_left i l m =
            let one = and_parts (eqb (tail i) w) (beq (head_up i) (head_up o) && lt_z (pos 0) (way i)) m in
            let two = and_parts (beq (head_up i) (head_up o)) (lt_z (pos 0) (way i)) one.1 in
            let t = eqb-true (tail i) w one.0 in
            let j = turn twin step i in
            let lj = turns.within i l in
            let tj : tail j ≡ w = turn_tail tail r i l ∙ t in
            let up_j : head_up j ≡ head_up o = same_up i l t ∙ beq_same (head_up i) (head_up o) two.0 in
            let up_i : head_up i ≡ head_up o = beq_same (head_up i) (head_up o) two.0 in
            let v = vector (at o) (at (step i)) in
            let z = vector (at o) (at (step j)) in
            let u = vector (at o) (at (step o)) in
            let first : pos 0 <ℤ cross u v = omega (arith, ints, two.1) in
            let second = next_left i l t in
            let turned_left : pos 0 <ℤ cross u z =
            elim (cases_Bool (head_up o)) [
              | inl a ↦ up_turns u v z (above o lo to a) (above i l t (up_i ∙ a)) (above j lj tj (up_j ∙ a)) first second
              | inr a ↦ down_turns u v z (low o lo to a) (low i l t (up_i ∙ a)) (low j lj tj (up_j ∙ a)) first second
            ] in
            rw (eq-eqb (tail j) w tj, up_j, beq_refl (head_up o)) (sym (true_is_lt (pos 0) (cross u z) (omega (arith, ints))))
          where
            above : (g : ℕ) → g < k → tail g ≡ w → head_up g ≡ true → pos 0 <ℤ (vector (at o) (at (step g))).y
            above g lg tg a = let h : lt_z (pos 0) (vector (at o) (at (step g))).y ≡ true = height g lg tg ∙ a in omega (arith, ints)

        no_round : ⊥
        unfolding is_left way
        no_round =
            let j = turn twin step o in
            let begin : is_left j ≡ true =
            rw (eq-eqb (tail j) w (turn_tail tail r o lo ∙ to), same_up o lo to, beq_refl (head_up o)) (sym (true_is_lt (pos 0) (way j) (let n = next_left o lo to in omega (arith, ints)))) in
            let back = marks_back (turn twin step) k turns is_left keeps_left o lo begin in
            let last = (and_parts (beq (head_up o) (head_up o)) (lt_z (pos 0) (way o)) (and_parts (eqb (tail o) w) (beq (head_up o) (head_up o) && lt_z (pos 0) (way o)) back).1).1 in
            let zero : way o ≡ pos 0 = simp ring (omega (arith, sums)) in
            omega (arith, ints, last)

    -- some dart from each vertex holds
    pub holds_some : (o : ℕ) → o < k → (i : ℕ) × (i < k) × (tail i ≡ tail o) × (holds i ≡ true)
    holds_some o lo =
        elim (find_below (λ i. eqb (tail i) (tail o) && holds i) k) [
          | inl found ↦ (let parts = and_parts (eqb (tail found.0) (tail o)) (holds found.0) found.2 in (found.0, found.1, eqb-true (tail found.0) (tail o) parts.0, parts.1))
          | inr none ↦ absurd (no_round (tail o) (λ i l t. rw (eq-eqb (tail i) (tail o) t) at (none i l)) o lo refl)
        ]

    -- vertices stand apart
    pub places_apart : (i j : ℕ) → i < k → j < k → at i ≡ at j → tail i ≡ tail j
    places_apart i j li lj same =
        let a = holds_some i li in
        let b = holds_some j lj in
        sym a.2 ∙ ap tail (holds_once a.0 b.0 a.1 b.1 (r.places a.0 i a.1 li a.2 ∙ same ∙ sym (r.places b.0 j b.1 lj b.2)) a.3 b.3) ∙ b.2
