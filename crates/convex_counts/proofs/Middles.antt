-- The middle of a face lies strictly to the left of each of its darts.
use Rattle.std.proofs.Common.{◌≡◌, ◌⊎◌, ℕ, suc, ◌+◌, ◌*◌, ◌<◌, ◌≤◌, ℤ, pos, ◌+ℤ◌, ◌-ℤ◌, ◌*ℤ◌, ◌<ℤ◌, ◌≤ℤ◌, sym, ap, ap₂, subst, ◌∙◌, inl, inr, arith}
use Rattle.std.proofs.lemmas.Bool.{cases_lt, cases_order}
use Rattle.std.proofs.lemmas.Int.{ints}
use Rattle.pg_plane.specs.declared.grid_points.Point.{Point}
use Rattle.pg_plane.specs.Geometry.{area}
use Rattle.pg_plane.proofs.Ring.{ring, sums}
use Rattle.pg_plane.proofs.Identities.{area_turned}
use Rattle.pg_plane.proofs.Crossing.{flat_ends, flat_last}
use Rattle.contour_runs.specs.Runs.{Stage}
use Rattle.contour_runs.specs.Wood.{Coordinates, point_of}
use Rattle.contour_runs.proofs.Areas.{spread_area}
use Rattle.contour_runs.specs.FaceRuns.{Step, stage_after, IsStep, IsAlong, IsUp, IsAcross, IsDown, IsDartOf}
use Rattle.convex_counts.specs.Counts.{face_counts}
use Rattle.convex_counts.specs.FacePointsLaws.{IsWholeRun}
use Rattle.convex_counts.proofs.Areas.{turned_weak, first_weak, first_strict, second_weak, second_strict, third_weak, third_strict}
use Rattle.convex_counts.proofs.FacePointsSides.{on_first, on_second, on_third, first_second, second_third, third_first, three_sides, first_weak_pair, second_weak_pair, step}
use Rattle.convex_counts.proofs.Apart.{new_apart}

-- the point of a vertex in a drawing three times as large, and the sum of three points
abbrev pub thrice : Coordinates → ℕ → Point
thrice at v = record { x = pos (3 * at.one v); y = pos (3 * at.two v) }

abbrev pub sum_of : Coordinates → ℕ → ℕ → ℕ → Point
sum_of at a b c = record { x = pos (at.one a + at.one b + at.one c); y = pos (at.two a + at.two b + at.two c) }

-- the place of a face: the middle of three of its vertices, that at its turn, the last one under it and the first new one
abbrev pub middle : (ℕ → Step) → Coordinates → ℕ → ℕ → Point
middle steps at k i = (let g = stage_after steps k in let s = steps k in sum_of at (g.vertex (s.turn i)) (g.vertex (s.cut (suc i))) g.count)

-- the area of three vertices
abbrev pub area_of : Coordinates → ℕ → ℕ → ℕ → ℤ
area_of at x y z = area (point_of at x) (point_of at y) (point_of at z)

-- thrice a vector, with the sum of three
triple : (u v : ℤ) (a b c a' b' c' : ℤ) → (((u +ℤ u) +ℤ u) *ℤ ((a' +ℤ b') +ℤ c')) -ℤ (((a +ℤ b) +ℤ c) *ℤ ((v +ℤ v) +ℤ v)) ≡ (((((u *ℤ a') -ℤ (a *ℤ v)) +ℤ ((u *ℤ b') -ℤ (b *ℤ v))) +ℤ ((u *ℤ c') -ℤ (c *ℤ v))) +ℤ ((((u *ℤ a') -ℤ (a *ℤ v)) +ℤ ((u *ℤ b') -ℤ (b *ℤ v))) +ℤ ((u *ℤ c') -ℤ (c *ℤ v)))) +ℤ ((((u *ℤ a') -ℤ (a *ℤ v)) +ℤ ((u *ℤ b') -ℤ (b *ℤ v))) +ℤ ((u *ℤ c') -ℤ (c *ℤ v)))
triple u v a b c a' b' c' = simp ring (omega (arith, sums))

module _ (at : Coordinates) (x y a b c : ℕ) where
  abbrev areas : ℤ
  areas = (area_of at x y a +ℤ area_of at x y b) +ℤ area_of at x y c

  sum_area : area (thrice at x) (thrice at y) (sum_of at a b c) ≡ (areas +ℤ areas) +ℤ areas
  sum_area =
      ap₂ (λ m n. m -ℤ n)
      (ap₂ (λ m n. m *ℤ n) (thrice_is (at.one y) (at.one x)) (sum_is (at.two a) (at.two b) (at.two c) (at.two x)))
      (ap₂ (λ m n. m *ℤ n) (sum_is (at.one a) (at.one b) (at.one c) (at.one x)) (thrice_is (at.two y) (at.two x)))
      ∙ triple (pos (at.one y) -ℤ pos (at.one x)) (pos (at.two y) -ℤ pos (at.two x)) (pos (at.one a) -ℤ pos (at.one x)) (pos (at.one b) -ℤ pos (at.one x)) (pos (at.one c) -ℤ pos (at.one x)) (pos (at.two a) -ℤ pos (at.two x)) (pos (at.two b) -ℤ pos (at.two x)) (pos (at.two c) -ℤ pos (at.two x))
    where
      thrice_is : (m n : ℕ) → pos (3 * m) -ℤ pos (3 * n) ≡ ((pos m -ℤ pos n) +ℤ (pos m -ℤ pos n)) +ℤ (pos m -ℤ pos n)
      thrice_is m n = omega (arith, ints)

      sum_is : (k l m n : ℕ) → pos (k + l + m) -ℤ pos (3 * n) ≡ ((pos k -ℤ pos n) +ℤ (pos l -ℤ pos n)) +ℤ (pos m -ℤ pos n)
      sum_is k l m n = omega (arith, ints)

  -- strictly left of the dart, where none of the three is to its right and one is to its left
  left_of : pos 0 ≤ℤ area_of at x y a → pos 0 ≤ℤ area_of at x y b → pos 0 ≤ℤ area_of at x y c → pos 0 <ℤ areas → pos 0 <ℤ area (thrice at x) (thrice at y) (sum_of at a b c)
  left_of p q r some = subst (λ z. pos 0 <ℤ z) (sym sum_area) (thrice_positive areas some)
    where
      thrice_positive : (z : ℤ) → pos 0 <ℤ z → pos 0 <ℤ ((z +ℤ z) +ℤ z)
      thrice_positive z l = omega (arith, ints)

sum_positive : (a b c : ℤ) → pos 0 ≤ℤ a → pos 0 ≤ℤ b → pos 0 ≤ℤ c → (pos 0 <ℤ a) ⊎ ((pos 0 <ℤ b) ⊎ (pos 0 <ℤ c)) → pos 0 <ℤ ((a +ℤ b) +ℤ c)
sum_positive a b c p q r (inl l) = omega (arith, ints)
sum_positive a b c p q r (inr (inl l)) = omega (arith, ints)
sum_positive a b c p q r (inr (inr l)) = omega (arith, ints)

weak : (a : ℤ) → pos 0 <ℤ a → pos 0 ≤ℤ a
weak a l = omega (arith, ints)

null : (a : ℤ) → a ≡ pos 0 → pos 0 ≤ℤ a
null a e = omega (arith, ints)

-- the dart from x to y has the three on its left
record HasLeft (at : Coordinates) (x y a b c : ℕ) : Type 0 where
  pub first : pos 0 ≤ℤ area_of at x y a
  pub second : pos 0 ≤ℤ area_of at x y b
  pub third : pos 0 ≤ℤ area_of at x y c
  pub some : (pos 0 <ℤ area_of at x y a) ⊎ ((pos 0 <ℤ area_of at x y b) ⊎ (pos 0 <ℤ area_of at x y c))

module _ (at : Coordinates) where
  turned_strict : (x y z : ℕ) → pos 0 <ℤ area_of at y z x → pos 0 <ℤ area_of at x y z
  turned_strict x y z h = subst (λ m. pos 0 <ℤ m) (area_turned (point_of at x) (point_of at y) (point_of at z)) h

module _ (steps : ℕ → Step) (n : ℕ) (whole : IsWholeRun steps n) (k i : ℕ) (lk : k < n) (li : i < (steps k).faces) where
  abbrev g : Stage
  g = stage_after steps k

  abbrev s : Step
  s = steps k

  abbrev at : Coordinates
  at = face_counts steps n

  abbrev old : ℕ → ℕ
  old j = g.vertex j

  -- the three whose middle it is
  abbrev a : ℕ
  a = old (s.turn i)

  abbrev b : ℕ
  b = old (s.cut (suc i))

  abbrev c : ℕ
  c = g.count

  st : IsStep g s
  st = step steps n whole.turned k i lk li

  along : (j : ℕ) → s.cut i ≤ j → j < s.cut (suc i) → HasLeft at (old j) (old (suc j)) a b c
  along j lo hi =
      let new = st.some_vertex in
      elim (cases_order j (s.turn i)) [
        | inl e ↦
            let same = ap old e in
            let ab : pos 0 ≤ℤ area_of at (old j) (old (suc j)) b = elim (cases_lt (suc j) (s.cut (suc i))) [
              | inl l ↦ grind (arith, first_second, on_second, turned_weak, at, old, weak, second_strict)
              | inr l ↦ let e : suc j ≡ s.cut (suc i) = omega arith in null _ (ap (λ z. area_of at (old j) (old (suc j)) (old z)) (sym e) ∙ flat_last (point_of at (old j)) (point_of at (old (suc j))))
            ] in
            let spread = spread_area at _ _ _ (three_sides steps n whole.turned k i lk li j (suc j) c lo (omega arith) (omega arith) hi (omega arith) (omega arith)) in
            record {
              first = null _ (ap (λ z. area_of at (old j) (old (suc j)) z) (sym same) ∙ flat_ends (point_of at (old j)) (point_of at (old (suc j))));
              second = ab;
              third = weak _ spread;
              some = inr (inr spread);
            }
        | inr (inl before) ↦ grind (arith, on_first, first_weak_pair, first_second, st, third_first, first_strict, at, old, first_weak, weak)
        | inr (inr behind) ↦
            let p = on_second steps n whole.turned k i lk li j (suc j) behind (omega arith) hi in
            let q = second_weak_pair steps n whole.turned k i lk li j (s.cut (suc i)) behind (omega arith) (omega arith) in
            let r = first_second steps n whole.turned k i lk li (s.turn i) j (st.low i li) (omega arith) behind (omega arith) in
            let z = second_third steps n whole.turned k i lk li j c behind (omega arith) (omega arith) (omega arith) in
            let aa = second_strict at (old j) (old (suc j)) a p.two p.one r.two in
            record {
              first = weak _ aa;
              second = second_weak at (old j) (old (suc j)) b p.two (omega arith) (omega arith);
              third = weak _ (second_strict at (old j) (old (suc j)) c p.two p.one z.two);
              some = inl aa;
            }
      ]

  up : (y : ℕ) → c + s.vertices ≡ suc y → HasLeft at b y a b c
  up y e =
      let t = st.low i li in
      let t' = st.high i li in
      let new = st.some_vertex in
      let spread = turned_strict at b y a (turned_strict at y a b (spread_area at _ _ _ (three_sides steps n whole.turned k i lk li (s.turn i) (s.cut (suc i)) y t (omega arith) t' (omega arith) (omega arith) (omega arith)))) in
      let p = on_third steps n whole.turned k i lk li y c (omega arith) (omega arith) (omega arith) in
      let q = second_third steps n whole.turned k i lk li (s.cut (suc i)) y t' (omega arith) (omega arith) (omega arith) in
      record {
        first = weak _ spread;
        second = null _ (flat_ends (point_of at b) (point_of at y));
        third = turned_weak at b y c (third_weak at y c b p.sum p.one (omega arith));
        some = inl spread;
      }

  across : (y : ℕ) → c ≤ y → suc y < c + s.vertices → HasLeft at (suc y) y a b c
  across y lo hi =
      let less = new_apart steps n k y whole lk lo hi in
      let p = on_third steps n whole.turned k i lk li (suc y) y lo (omega arith) hi in
      let q = on_third steps n whole.turned k i lk li (suc y) c (omega arith) (omega arith) hi in
      let ya = third_first steps n whole.turned k i lk li (suc y) (s.turn i) (omega arith) hi (st.low i li) (omega arith) in
      let yb = second_third steps n whole.turned k i lk li (s.cut (suc i)) (suc y) (st.high i li) (omega arith) (omega arith) hi in
      let aa = third_strict at (suc y) y a p.sum less ya.sum in
      record {
        first = weak _ aa;
        second = weak _ (third_strict at (suc y) y b p.sum less yb.sum);
        third = third_weak at (suc y) y c p.sum p.one (omega arith);
        some = inl aa;
      }

  down : HasLeft at c (old (s.cut i)) a b c
  down =
      let t = st.low i li in
      let t' = st.high i li in
      let new = st.some_vertex in
      let p = first_weak_pair steps n whole.turned k i lk li (s.cut i) (s.turn i) (omega arith) t (omega arith) in
      let z = third_first steps n whole.turned k i lk li c (s.cut i) (omega arith) (omega arith) (omega arith) t in
      let spread = turned_strict at c (old (s.cut i)) b (spread_area at _ _ _ (three_sides steps n whole.turned k i lk li (s.cut i) (s.cut (suc i)) c (omega arith) t t' (omega arith) (omega arith) (omega arith))) in
      record {
        first = turned_weak at c (old (s.cut i)) a (first_weak at (old (s.cut i)) a c p.0 p.1 (omega arith));
        second = weak _ spread;
        third = null _ (flat_ends (point_of at c) (point_of at (old (s.cut i))));
        some = inr (inl spread);
      }

  left_on : (x y : ℕ) → HasLeft at x y a b c → pos 0 <ℤ area (thrice at x) (thrice at y) (sum_of at a b c)
  left_on x y h = left_of at x y a b c h.first h.second h.third (sum_positive _ _ _ h.first h.second h.third h.some)

  pub middle_left : (x y : ℕ) → IsAlong g s i x y ⊎ (IsUp g s i x y ⊎ (IsAcross g s i x y ⊎ IsDown g s i x y)) → pos 0 <ℤ area (thrice at x) (thrice at y) (middle steps at k i)
  middle_left x y x2 = grind (arith, old, left_on, along, pos, area, thrice, at, middle, up, across, down)

pub middle_within : (steps : ℕ → Step) (n k i x y : ℕ) → IsWholeRun steps n → k < n → IsDartOf (stage_after steps k) (steps k) i x y → pos 0 <ℤ area (thrice (face_counts steps n) x) (thrice (face_counts steps n) y) (middle steps (face_counts steps n) k i)
middle_within steps n k i x y whole lk d = middle_left steps n whole k i lk d.within x y d.dart
