-- Each dart with the middle of its face as a triangle, over three blocks of numbers: the darts, those from their heads to the middles, and those from the middles to their tails.
use Rattle.std.proofs.Common.{◌≡◌, ◌≢◌, ◌⊎◌, ℕ, ◌+◌, ◌-◌, ◌*◌, ◌<◌, false, if◌then◌else◌, ltb, pos, ◌<ℤ◌, sym, ap, subst, ◌∙◌, inl, inr, arith}
use Rattle.std.proofs.lemmas.Bool.{cases_lt, cond-true, cond-false, lt-ltb, le-ltb, true≢false}
use Rattle.pg_plane.specs.declared.grid_points.Point.{Point}
use Rattle.pg_plane.specs.Geometry.{area}
use Rattle.classes.proofs.Orbits.{IsPermuting}
use Rattle.pg_plane.specs.Faced.{in_base, IsFaced, IsTailed}
use Rattle.pg_plane.proofs.Faces.{in_base_from}
use Rattle.pg_plane.proofs.Identities.{area_turned}
use Rattle.convex_laws.specs.Middles.{IsMiddled}

-- one of three, by the block
pub pick : {X : Type 0} → ℕ → (ℕ → X) → (ℕ → X) → (ℕ → X) → ℕ → X
pick k f g h z = if ltb z k then f z else if ltb z (k + k) then g (z - k) else h (z - (k + k))

pub pick-first : {X : Type 0} (k : ℕ) (f g h : ℕ → X) (i : ℕ) → i < k → pick k f g h i ≡ f i
unfolding pick
pick-first k f g h i l = cond-true (ltb i k) (f i) (if ltb i (k + k) then g (i - k) else h (i - (k + k))) (lt-ltb i k l)

pub pick-second : {X : Type 0} (k : ℕ) (f g h : ℕ → X) (i : ℕ) → i < k → pick k f g h (i + k) ≡ g i
unfolding pick
pick-second k f g h i l =
    let e : i + k - k ≡ i = omega arith in
    cond-false (ltb (i + k) k) (f (i + k)) (if ltb (i + k) (k + k) then g (i + k - k) else h (i + k - (k + k))) (le-ltb (i + k) k (omega arith)) ∙ cond-true (ltb (i + k) (k + k)) (g (i + k - k)) (h (i + k - (k + k))) (lt-ltb (i + k) (k + k) (omega arith)) ∙ ap g e

pub pick-third : {X : Type 0} (k : ℕ) (f g h : ℕ → X) (i : ℕ) → i < k → pick k f g h (i + (k + k)) ≡ h i
unfolding pick
pick-third k f g h i l =
    let e : i + (k + k) - (k + k) ≡ i = omega arith in
    cond-false (ltb (i + (k + k)) k) (f (i + (k + k))) (if ltb (i + (k + k)) (k + k) then g (i + (k + k) - k) else h (i + (k + k) - (k + k))) (le-ltb (i + (k + k)) k (omega arith)) ∙ cond-false (ltb (i + (k + k)) (k + k)) (g (i + (k + k) - k)) (h (i + (k + k) - (k + k))) (le-ltb (i + (k + k)) (k + k) (omega arith)) ∙ ap h e

-- which block
pub record IsBlock (k z m : ℕ) : Type 0 where
  pub dart : ℕ
  pub within : dart < k
  pub is : z ≡ dart + m

pub cases_block : (k z : ℕ) → z < k + (k + k) → IsBlock k z 0 ⊎ (IsBlock k z k ⊎ IsBlock k z (k + k))
cases_block k z l = elim (cases_lt z k) [
  | inl a ↦ inl record { dart = z; within = a; is = omega arith }
  | inr a ↦ elim (cases_lt z (k + k)) [
    | inl b ↦ inr (inl record { dart = z - k; within = omega arith; is = omega arith })
    | inr b ↦ inr (inr record { dart = z - (k + k); within = omega arith; is = omega arith })
  ]
]

-- a property of all numbers, by blocks
pub by_block : (P : ℕ → Type 0) (k : ℕ) → ((i : ℕ) → i < k → P i) → ((i : ℕ) → i < k → P (i + k)) → ((i : ℕ) → i < k → P (i + (k + k))) → (z : ℕ) → z < k + (k + k) → P z
by_block P k f g h z l = elim (cases_block k z l) [
  | inl b ↦ (let i = b.dart in let is = b.is in let e : i ≡ z = omega arith in subst P e (f i b.within))
  | inr (inl b) ↦ subst P (sym b.is) (g b.dart b.within)
  | inr (inr b) ↦ subst P (sym b.is) (h b.dart b.within)
]

-- the number and the point of a vertex, by a dart that leaves it, or of the middle of a face
record IsAtVertex (k : ℕ) (tail : ℕ → ℕ) (at : ℕ → Point) (n : ℕ) (p : Point) : Type 0 where
  pub dart : ℕ
  pub within : dart < k
  pub number : n ≡ 2 * tail dart
  pub point : p ≡ at dart

record IsAtMiddle (middle : ℕ → Point) (n : ℕ) (p : Point) : Type 0 where
  pub region : ℕ
  pub number : n ≡ 2 * region + 1
  pub point : p ≡ middle region

module _ (k : ℕ) (twin step back : ℕ → ℕ) (at : ℕ → Point) (tail face : ℕ → ℕ) (middle : ℕ → Point) (base : ℕ) (d : IsMiddled k twin step back at tail face middle base) where
  pub twin3 : ℕ → ℕ
  twin3 = pick k twin (λ j. step j + (k + k)) (λ j. back j + k)

  pub step3 : ℕ → ℕ
  step3 = pick k (λ j. j + k) (λ j. j + (k + k)) (λ j. j)

  pub at3 : ℕ → Point
  at3 = pick k at (λ j. at (step j)) (λ j. middle (face j))

  pub tail3 : ℕ → ℕ
  tail3 = pick k (λ j. 2 * tail j) (λ j. 2 * tail (step j)) (λ j. 2 * face j + 1)

  pub all : ℕ
  all = k + (k + k)

  pub back_step : (i : ℕ) → i < k → back (step i) ≡ i
  back_step i l = let s = d.steps.within i l in d.steps.apart (back (step i)) i (d.back_in (step i) s) l (d.step_back (step i) s)

  pub step_in : (i : ℕ) → i < k → step i < k
  step_in i l = d.steps.within i l

  -- on each block
  pub twin-first : (i : ℕ) → i < k → twin3 i ≡ twin i
  unfolding twin3
  twin-first i l = pick-first k twin (λ j. step j + (k + k)) (λ j. back j + k) i l

  pub twin-second : (i : ℕ) → i < k → twin3 (i + k) ≡ step i + (k + k)
  unfolding twin3
  twin-second i l = pick-second k twin (λ j. step j + (k + k)) (λ j. back j + k) i l

  pub twin-third : (i : ℕ) → i < k → twin3 (i + (k + k)) ≡ back i + k
  unfolding twin3
  twin-third i l = pick-third k twin (λ j. step j + (k + k)) (λ j. back j + k) i l

  pub step-first : (i : ℕ) → i < k → step3 i ≡ i + k
  unfolding step3
  step-first i l = pick-first k (λ j. j + k) (λ j. j + (k + k)) (λ j. j) i l

  pub step-second : (i : ℕ) → i < k → step3 (i + k) ≡ i + (k + k)
  unfolding step3
  step-second i l = pick-second k (λ j. j + k) (λ j. j + (k + k)) (λ j. j) i l

  pub step-third : (i : ℕ) → i < k → step3 (i + (k + k)) ≡ i
  unfolding step3
  step-third i l = pick-third k (λ j. j + k) (λ j. j + (k + k)) (λ j. j) i l

  pub at-first : (i : ℕ) → i < k → at3 i ≡ at i
  unfolding at3
  at-first i l = pick-first k at (λ j. at (step j)) (λ j. middle (face j)) i l

  pub at-second : (i : ℕ) → i < k → at3 (i + k) ≡ at (step i)
  unfolding at3
  at-second i l = pick-second k at (λ j. at (step j)) (λ j. middle (face j)) i l

  pub at-third : (i : ℕ) → i < k → at3 (i + (k + k)) ≡ middle (face i)
  unfolding at3
  at-third i l = pick-third k at (λ j. at (step j)) (λ j. middle (face j)) i l

  pub tail-first : (i : ℕ) → i < k → tail3 i ≡ 2 * tail i
  unfolding tail3
  tail-first i l = pick-first k (λ j. 2 * tail j) (λ j. 2 * tail (step j)) (λ j. 2 * face j + 1) i l

  pub tail-second : (i : ℕ) → i < k → tail3 (i + k) ≡ 2 * tail (step i)
  unfolding tail3
  tail-second i l = pick-second k (λ j. 2 * tail j) (λ j. 2 * tail (step j)) (λ j. 2 * face j + 1) i l

  pub tail-third : (i : ℕ) → i < k → tail3 (i + (k + k)) ≡ 2 * face i + 1
  unfolding tail3
  tail-third i l = pick-third k (λ j. 2 * tail j) (λ j. 2 * tail (step j)) (λ j. 2 * face j + 1) i l

  pub in_all : (i : ℕ) → i < k → i < all
  unfolding all
  in_all i l = omega arith

  pub second_in_all : (i : ℕ) → i < k → i + k < all
  unfolding all
  second_in_all i l = omega arith

  blocks : (P : ℕ → Type 0) → ((i : ℕ) → i < k → P i) → ((i : ℕ) → i < k → P (i + k)) → ((i : ℕ) → i < k → P (i + (k + k))) → (z : ℕ) → z < all → P z
  unfolding all
  blocks P f g h z l = by_block P k f g h z l

  twice3 : (z : ℕ) → z < all → twin3 (twin3 z) ≡ z
  twice3 z l = blocks (λ z. twin3 (twin3 z) ≡ z)
      (λ i l. ap twin3 (twin-first i l) ∙ twin-first (twin i) (d.twins.within i l) ∙ d.twice i l)
      (λ i l. ap twin3 (twin-second i l) ∙ twin-third (step i) (step_in i l) ∙ ap (λ j. j + k) (back_step i l))
      (λ i l. ap twin3 (twin-third i l) ∙ twin-second (back i) (d.back_in i l) ∙ ap (λ j. j + (k + k)) (d.step_back i l)) z l

  thrice3 : (z : ℕ) → z < all → step3 (step3 (step3 z)) ≡ z
  thrice3 z l = blocks (λ z. step3 (step3 (step3 z)) ≡ z)
      (λ i l. ap (λ z. step3 (step3 z)) (step-first i l) ∙ ap step3 (step-second i l) ∙ step-third i l)
      (λ i l. ap (λ z. step3 (step3 z)) (step-second i l) ∙ ap step3 (step-third i l) ∙ step-first i l)
      (λ i l. ap (λ z. step3 (step3 z)) (step-third i l) ∙ ap step3 (step-first i l) ∙ step-second i l) z l

  twin_within : (z : ℕ) → z < all → twin3 z < all
  unfolding all
  twin_within z l = blocks (λ z. twin3 z < k + (k + k))
      (λ i l. let t = d.twins.within i l in omega (arith, twin-first i l))
      (λ i l. let t = step_in i l in omega (arith, twin-second i l))
      (λ i l. let t = d.back_in i l in omega (arith, twin-third i l)) z l

  step_within : (z : ℕ) → z < all → step3 z < all
  unfolding all
  step_within z l = blocks (λ z. step3 z < k + (k + k)) (λ i l. omega (arith, step-first i l)) (λ i l. omega (arith, step-second i l)) (λ i l. omega (arith, step-third i l)) z l

  twins3 : IsPermuting twin3 all
  twins3 = record { within = twin_within; apart = λ i j l m e. sym (twice3 i l) ∙ ap twin3 e ∙ twice3 j m }

  steps3 : IsPermuting step3 all
  steps3 = record { within = step_within; apart = λ i j l m e. sym (thrice3 i l) ∙ ap (λ z. step3 (step3 z)) e ∙ thrice3 j m }

  -- the corners of the triangle of a dart, from each of its numbers
  corners_first : (i : ℕ) → i < k → area (at3 i) (at3 (step3 i)) (at3 (step3 (step3 i))) ≡ area (at i) (at (step i)) (middle (face i))
  corners_first i l = grind (arith, area, at3, step3, at-first, step-first, at-second, step-second, at-third)

  corners_second : (i : ℕ) → i < k → area (at3 (i + k)) (at3 (step3 (i + k))) (at3 (step3 (step3 (i + k)))) ≡ area (at i) (at (step i)) (middle (face i))
  corners_second i l = grind (arith, area, at3, step3, at-second, step-second, at-third, step-third, at-first, area_turned)

  corners_third : (i : ℕ) → i < k → area (at3 (i + (k + k))) (at3 (step3 (i + (k + k)))) (at3 (step3 (step3 (i + (k + k))))) ≡ area (at i) (at (step i)) (middle (face i))
  corners_third i l = grind (arith, area, at3, step3, at-third, step-third, at-first, step-first, at-second, area_turned)

  -- the base's own three
  base_second : step3 base ≡ base + k
  base_second = step-first base d.base_in

  base_third : step3 (step3 base) ≡ base + (k + k)
  base_third = ap step3 base_second ∙ step-second base d.base_in

  off_base : (z i : ℕ) → (i ≡ base → (z ≡ base) ⊎ ((z ≡ step3 base) ⊎ (z ≡ step3 (step3 base)))) → in_base step3 base z ≡ false → i ≢ base
  off_base z i on e same = true≢false (sym (in_base_from step3 base z (on same)) ∙ e)

  pub IsFaced-three : IsFaced all twin3 step3 at3 base
  IsFaced-three = record {
    twins = twins3;
    steps = steps3;
    back = twice3;
    thrice = thrice3;
    head = λ z l. blocks (λ z. at3 (step3 z) ≡ at3 (twin3 z))
        (λ i l. let t = d.twins.within i l in
        ap at3 (step-first i l) ∙ at-second i l ∙ d.places (step i) (twin i) (step_in i l) t (d.tails i l) ∙ sym (ap at3 (twin-first i l) ∙ at-first (twin i) t))
        (λ i l. ap at3 (step-second i l) ∙ at-third i l ∙ ap middle (sym (d.faces i l)) ∙ sym (ap at3 (twin-second i l) ∙ at-third (step i) (step_in i l)))
        (λ i l. ap at3 (step-third i l) ∙ at-first i l ∙ ap at (sym (d.step_back i l)) ∙ sym (ap at3 (twin-third i l) ∙ at-second (back i) (d.back_in i l))) z l;
    base_in = in_all base d.base_in;
    inner = λ z l. blocks (λ z. in_base step3 base z ≡ false → pos 0 <ℤ area (at3 z) (at3 (step3 z)) (at3 (step3 (step3 z))))
        (λ i l e. subst (λ a. pos 0 <ℤ a) (sym (corners_first i l)) (d.inner i l (off_base i i (λ s. inl s) e)))
        (λ i l e. subst (λ a. pos 0 <ℤ a) (sym (corners_second i l)) (d.inner i l (off_base (i + k) i (λ s. inr (inl (ap (λ j. j + k) s ∙ sym base_second))) e)))
        (λ i l e. subst (λ a. pos 0 <ℤ a) (sym (corners_third i l)) (d.inner i l (off_base (i + (k + k)) i (λ s. inr (inr (ap (λ j. j + (k + k)) s ∙ sym base_third))) e))) z l;
    outer = subst (λ a. a <ℤ pos 0) (sym (corners_first base d.base_in)) d.outer;
  }

  stands : (z : ℕ) → z < all → IsAtVertex k tail at (tail3 z) (at3 z) ⊎ IsAtMiddle middle (tail3 z) (at3 z)
  stands z l = blocks (λ z. IsAtVertex k tail at (tail3 z) (at3 z) ⊎ IsAtMiddle middle (tail3 z) (at3 z))
      (λ i l. inl record { dart = i; within = l; number = tail-first i l; point = at-first i l })
      (λ i l. inl record { dart = step i; within = step_in i l; number = tail-second i l; point = at-second i l })
      (λ i l. inr record { region = face i; number = tail-third i l; point = at-third i l }) z l

  pub IsTailed-three : IsTailed all twin3 step3 at3 tail3
  IsTailed-three = record {
    tails = λ z l. blocks (λ z. tail3 (step3 z) ≡ tail3 (twin3 z))
        (λ i l. ap tail3 (step-first i l) ∙ tail-second i l ∙ ap (λ t. 2 * t) (d.tails i l) ∙ sym (ap tail3 (twin-first i l) ∙ tail-first (twin i) (d.twins.within i l)))
        (λ i l. ap tail3 (step-second i l) ∙ tail-third i l ∙ ap (λ f. 2 * f + 1) (sym (d.faces i l)) ∙ sym (ap tail3 (twin-second i l) ∙ tail-third (step i) (step_in i l)))
        (λ i l. ap tail3 (step-third i l) ∙ tail-first i l ∙ ap (λ j. 2 * tail j) (sym (d.step_back i l)) ∙ sym (ap tail3 (twin-third i l) ∙ tail-second (back i) (d.back_in i l))) z l;
    places = λ y z ly lz e. elim (stands y ly) [
      | inl a ↦ let at' = a.number in elim (stands z lz) [
        | inl b ↦ let bt = b.number in a.point ∙ d.places a.dart b.dart a.within b.within (omega arith) ∙ sym b.point
        | inr b ↦ let bt = b.number in absurd (omega arith)
      ]
      | inr a ↦ let at' = a.number in elim (stands z lz) [
        | inl b ↦ let bt = b.number in absurd (omega arith)
        | inr b ↦ let bt = b.number in let same : a.region ≡ b.region = omega arith in a.point ∙ ap middle same ∙ sym b.point
      ]
    ];
  }
