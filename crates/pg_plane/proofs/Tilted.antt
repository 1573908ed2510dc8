-- A drawing turned by half and tilted so that no edge is level: what holds round its vertices says of the drawing that directions go once round from west.
use Rattle.std.proofs.Common.{◌≡◌, ℕ, zero, suc, ◌+◌, ◌*◌, ◌<◌, ◌≤◌, Bool, true, false, not, ◌&&◌, ℤ, pos, negsuc, neg_ℤ, ◌-ℤ◌, ◌*ℤ◌, ◌<ℤ◌, ◌≤ℤ◌, refl, sym, ap, ap₂, ◌∙◌, inl, inr, ⊎_elim, arith}
use Rattle.std.proofs.lemmas.Int.{ints, by_lt_z}
use Rattle.std.proofs.lemmas.Nat.{mul-le}
use Rattle.std.proofs.lemmas.Bool.{cases_Bool, cases_lt, true≢false}
use Rattle.std.specs.Int.RustNames.{unsigned_abs}
use Rattle.pg_plane.specs.declared.grid_points.Point.{Point}
use Rattle.pg_plane.specs.Geometry.{vector, cross, area, IsFirstHalf, IsClockBefore}
use Rattle.pg_plane.specs.Faced.{in_base, IsFaced, IsTailed, turn}
use Rattle.pg_plane.proofs.Ring.{sums, ring, product_positive, product_signs}
use Rattle.pg_plane.proofs.Clash.{base_area, up}
use Rattle.pg_plane.proofs.Near.{same_point, NoneLevel}
use Rattle.pg_plane.proofs.Crossing.{some_area, flat_first}
use Rattle.pg_plane.proofs.Round.{holds, holds_is, holds_once, holds_some, places_apart, turn_place, turn_head}
use Rattle.pg_plane.proofs.ClockOrder.{zero_product}

-- turned by half, and tilted by one in n
abbrev pub tilted : ℤ → Point → Point
tilted n p = record { x = neg_ℤ p.x; y = p.x -ℤ (n *ℤ p.y) }

area_tilted : (n : ℤ) (a b c : Point) → area (tilted n a) (tilted n b) (tilted n c) ≡ n *ℤ area a b c
area_tilted n a b c = simp ring (omega (arith, sums))

height_tilted : (n : ℤ) (a b : Point) → (vector (tilted n a) (tilted n b)).y ≡ (vector a b).x -ℤ (n *ℤ (vector a b).y)
height_tilted n a b = simp ring (omega (arith, sums))

IsFaced-tilted : (k : ℕ) (twin step : ℕ → ℕ) (at : ℕ → Point) (base : ℕ) (n : ℤ) → pos 0 <ℤ n → IsFaced k twin step at base → IsFaced k twin step (λ i. tilted n (at i)) base
IsFaced-tilted k twin step at base n positive d = record {
  twins = d.twins;
  steps = d.steps;
  back = d.back;
  thrice = d.thrice;
  head = λ i l. ap (tilted n) (d.head i l);
  base_in = d.base_in;
  inner = λ i l e. rw area_tilted (product_positive n (area (at i) (at (step i)) (at (step (step i)))) positive (d.inner i l e));
  outer = rw area_tilted ((product_signs n (area (at base) (at (step base)) (at (step (step base))))).above_below positive d.outer);
}

-- numbers below k have a bound
bound_below : (f : ℕ → ℕ) (k : ℕ) → (n : ℕ) × ((i : ℕ) → i < k → f i < n)
bound_below f zero = (1, λ i l. absurd (omega arith))
bound_below f (suc k) =
    let rest = bound_below f k in
    (rest.0 + f k + 1, λ i l. elim (cases_lt i k) [ inl less ↦ (let h = rest.1 i less in omega arith) | inr more ↦ (let e : f i ≡ f k = ap f (omega arith) in omega arith) ])

-- a number of less than n in size is no multiple of n but zero
steep : (n : ℕ) (v : Point) → unsigned_abs v.x < n → (pos 0 <ℤ v.y → (v.x -ℤ (pos n *ℤ v.y)) <ℤ pos 0) × (v.y <ℤ pos 0 → pos 0 <ℤ (v.x -ℤ (pos n *ℤ v.y)))
steep n v l = grind (arith, pos, mul-le, ints, negsuc)

-- the half of a direction, by its height once tilted
half_of : (n : ℕ) (v : Point) → unsigned_abs v.x < n → (v.x ≡ pos 0 → v.y ≡ pos 0 → ⊥) → (pos 0 <ℤ (v.x -ℤ (pos n *ℤ v.y)) → ¬ IsFirstHalf v) × ((v.x -ℤ (pos n *ℤ v.y)) ≤ℤ pos 0 → IsFirstHalf v)
half_of n v l some =
    let s = steep n v l in (
      λ h f. ⊎_elim (λ a. let c = s.0 a in omega (arith, ints)) (λ a. let z = zero_product (pos n) v.y a.0 in let b = a.1 in omega (arith, ints)) f,
      λ h. by_lt_z (pos 0) v.y (λ a. inl a)
          (λ a. by_lt_z v.y (pos 0) (λ b. let c = s.1 b in absurd (omega (arith, ints)))
          (λ b. let e : v.y ≡ pos 0 = omega (arith, ints) in
          inr (e, by_lt_z v.x (pos 0) (λ c. c) (λ c. absurd (some (omega (arith, zero_product (pos n) v.y e, ints)) e))))),
    )

-- which of two directions comes first, by halves and the turn between them
before_cases : (up_d up_e : Bool) (d e : Point) → (up_d ≡ true → ¬ IsFirstHalf d) → (up_d ≡ false → IsFirstHalf d) → (up_e ≡ true → ¬ IsFirstHalf e) → (up_e ≡ false → IsFirstHalf e) → (cross d e <ℤ pos 0 → ((not up_e && up_d) ≡ true → ¬ IsClockBefore d e) × (¬ IsClockBefore d e → (not up_e && up_d) ≡ true)) × (pos 0 <ℤ cross d e → (not (not up_d && up_e) ≡ true → ¬ IsClockBefore d e) × (¬ IsClockBefore d e → not (not up_d && up_e) ≡ true))
before_cases x0 x1 d e dt df et ef = grind (arith, true≢false, ints)

module _ (k : ℕ) (twin step : ℕ → ℕ) (at : ℕ → Point) (base : ℕ) (d : IsFaced k twin step at base) (tail : ℕ → ℕ) (r : IsTailed k twin step at tail) where
  -- the direction of a dart
  abbrev pub way : ℕ → Point
  way i = vector (at i) (at (step i))

  bound : (n : ℕ) × ((i : ℕ) → i < k → unsigned_abs (way i).x < n)
  bound = bound_below (λ i. unsigned_abs (way i).x) k

  n : ℕ
  n = bound.0

  short : (i : ℕ) → i < k → unsigned_abs (way i).x < n
  unfolding n
  short i l = bound.1 i l

  positive : pos 0 <ℤ pos n
  positive = let s = short base d.base_in in omega (arith, ints)

  t : IsFaced k twin step (λ i. tilted (pos n) (at i)) base
  t = IsFaced-tilted k twin step at base (pos n) positive d

  tailed : IsTailed k twin step (λ i. tilted (pos n) (at i)) tail
  tailed = record { tails = r.tails; places = λ i j li lj e. ap (tilted (pos n)) (r.places i j li lj e) }

  some_way : (i : ℕ) → i < k → (way i).x ≡ pos 0 → (way i).y ≡ pos 0 → ⊥
  some_way i l e f =
      let same : at (step i) ≡ at i = same_point (at (step i)) (at i) (omega (arith, ints)) (omega (arith, ints)) in
      some_area k twin step at base d i l (ap (λ x. area (at i) x (at (step (step i)))) same ∙ flat_first (at i) (at (step (step i))))

  level : NoneLevel k step (λ i. tilted (pos n) (at i))
  level i l e =
      let h = height_tilted (pos n) (at i) (at (step i)) in
      let v = way i in
      let s = steep n v (short i l) in
      by_lt_z (pos 0) v.y (λ a. let c = s.0 a in omega (arith, ints))
      (λ a. by_lt_z v.y (pos 0) (λ b. let c = s.1 b in omega (arith, ints))
      (λ b. let y : v.y ≡ pos 0 = omega (arith, ints) in let z = zero_product (pos n) v.y y in some_way i l (omega (arith, ints)) y))

  -- vertices stand apart
  pub vertices_apart : (i j : ℕ) → i < k → j < k → at i ≡ at j → tail i ≡ tail j
  vertices_apart i j li lj same = places_apart k twin step (λ g. tilted (pos n) (at g)) base t tail tailed level i j li lj (ap (tilted (pos n)) same)

  half : (i : ℕ) → i < k → (up (tilted (pos n) (at i)) (tilted (pos n) (at (step i))) ≡ true → ¬ IsFirstHalf (way i)) × (up (tilted (pos n) (at i)) (tilted (pos n) (at (step i))) ≡ false → IsFirstHalf (way i))
  half i l =
      let h = height_tilted (pos n) (at i) (at (step i)) in
      let f = half_of n (way i) (short i l) (some_way i l) in
      (λ e. f.0 (omega (arith, ints)), λ e. f.1 (omega (arith, ints)))

  abbrev up_of : ℕ → Bool
  up_of i = up (tilted (pos n) (at i)) (tilted (pos n) (at (step i)))

  -- a dart holds exactly where its direction does not come after that of the dart before it, clockwise
  holds_turned : (i : ℕ) → i < k → (holds k twin step (λ g. tilted (pos n) (at g)) base t i ≡ true → ¬ IsClockBefore (way (turn twin step i)) (way i)) × (¬ IsClockBefore (way (turn twin step i)) (way i) → holds k twin step (λ g. tilted (pos n) (at g)) base t i ≡ true)
  holds_turned i l =
      let j = turn twin step i in
      let lj : j < k = d.twins.within (step (step i)) (d.steps.within (step i) (d.steps.within i l)) in
      let cases = before_cases (up_of j) (up_of i) (way j) (way i) (half j lj).0 (half j lj).1 (half i l).0 (half i l).1 in
      let same : cross (way j) (way i) ≡ cross (vector (at i) (at (step (step i)))) (way i) =
      ap₂ (λ p q. cross (vector p q) (way i)) (turn_place k twin step at base d i l) (turn_head k twin step at base d i l) in
      let is = holds_is k twin step (λ g. tilted (pos n) (at g)) base t i in
      elim (cases_Bool (in_base step base i)) [
        | inl e ↦
            let c = cases.1 (omega (arith, base_area k twin step at base d (at i) i e, ints)) in
            let is' : holds k twin step (λ g. tilted (pos n) (at g)) base t i ≡ not (not (up_of j) && up_of i) = is ∙ rw e refl in
            (λ h. c.0 (sym is' ∙ h), λ b. is' ∙ c.1 b)
        | inr e ↦
            let c = cases.0 (omega (arith, d.inner i l e, ints)) in
            let is' : holds k twin step (λ g. tilted (pos n) (at g)) base t i ≡ (not (up_of i) && up_of j) = is ∙ rw e refl in
            (λ h. c.0 (sym is' ∙ h), λ b. is' ∙ c.1 b)
      ]

  -- round each vertex some direction does not come after the one before it
  pub some_break : (o : ℕ) → o < k → (i : ℕ) × (i < k) × (tail i ≡ tail o) × (¬ IsClockBefore (way (turn twin step i)) (way i))
  some_break o lo =
      let h = holds_some k twin step (λ g. tilted (pos n) (at g)) base t tail tailed level o lo in
      (h.0, h.1, h.2, (holds_turned h.0 h.1).0 h.3)

  -- and just one
  pub one_break : (i j : ℕ) → i < k → j < k → tail i ≡ tail j → ¬ IsClockBefore (way (turn twin step i)) (way i) → ¬ IsClockBefore (way (turn twin step j)) (way j) → i ≡ j
  one_break i j li lj same bi bj =
      holds_once k twin step (λ g. tilted (pos n) (at g)) base t i j li lj (ap (tilted (pos n)) (r.places i j li lj same)) ((holds_turned i li).1 bi) ((holds_turned j lj).1 bj)
