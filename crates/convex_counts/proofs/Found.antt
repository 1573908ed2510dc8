-- From each vertex but the root of an axis an edge leads along that axis.
use Rattle.std.proofs.Common.{◌≡◌, ◌≢◌, ◌⊎◌, ℕ, zero, suc, ◌+◌, ◌-◌, ◌<◌, ◌≤◌, refl, sym, ap, ◌∙◌, subst, inl, inr, arith}
use Rattle.std.proofs.lemmas.Bool.{cases_lt, cases_eq, cases_order}
use Rattle.contour_runs.specs.Runs.{Stage}
use Rattle.contour_runs.proofs.Upward.{upward}
use Rattle.contour_runs.specs.Wood.{Coordinates}
use Rattle.contour_runs.specs.FaceRuns.{Step, stage_after, IsRun}
use Rattle.contour_runs.specs.FaceRunsLaws.{GoesAlong}
use Rattle.contour_runs.proofs.FaceRunsPlaces.{order, cut-last, vertex_after-low, vertex_after-new, vertex_after-high}
use Rattle.convex_counts.specs.Counts.{face_counts}
use Rattle.convex_counts.proofs.Kept.{AreOnFirst, AreOnSecond, IsThirdFirst}
use Rattle.convex_counts.specs.FacePointsLaws.{IsWholeRun}
use Rattle.convex_counts.proofs.Apart.{find_face, new_apart}
use Rattle.convex_counts.proofs.FacePointsSides.{on_first, on_second, second_third, third_first, on_third}
use Rattle.convex_counts.specs.declared.face_woods.axis.Axis.{Axis}
use Rattle.convex_counts.specs.declared.face_woods.axis.Axis.TheVariants.{One, Two, Three}
use Rattle.convex_counts.specs.Rising.{IsRising, IsRootRank, IsRunEdge, along, back, over}
use Rattle.convex_counts.proofs.Ends.{two_at_first, one_at_last}
use Rattle.convex_counts.proofs.DartKinds.{AreApart, base_apart, right_pair, left_pair}

-- the step in which a vertex is new
pub new_step : (steps : ℕ → Step) (n v : ℕ) → 2 ≤ v → v < (stage_after steps n).count → (k : ℕ) × (k < n) × ((stage_after steps k).count ≤ v) × (v < (stage_after steps k).count + (steps k).vertices)
new_step steps zero v a b = absurd (omega arith)
new_step steps (suc n) v a b = elim (cases_lt v (stage_after steps n).count) [
  | inl l ↦ let z = new_step steps n v a l in (z.0, let m = z.1 in omega arith, z.2, z.3)
  | inr l ↦ (n, omega arith, l, b)
]

module _ (steps : ℕ → Step) (n : ℕ) (whole : IsWholeRun steps n) (some : 0 < n) where
  abbrev at : Coordinates
  at = face_counts steps n

  abbrev st : ℕ → Stage
  st k = stage_after steps k

  run : IsRun steps n
  run = whole.turned.run

  abbrev Leads : Axis → ℕ → Type 0
  Leads c v = (u : ℕ) × IsRunEdge steps n v u × IsRising at c v u

  base_along : GoesAlong (st 0) 0 1 0
  base_along = record { within = omega arith; tail = refl; head = refl }

  -- the new edges of a step, along the contour after it
  to_first : (k : ℕ) → k < n → GoesAlong (st (suc k)) ((st k).vertex (steps k).first) (st k).count (steps k).first
  to_first k l = grind (arith, run, vertex_after-new, st, vertex_after-low)

  to_next : (k v : ℕ) → k < n → (st k).count ≤ v → suc v < (st k).count + (steps k).vertices → GoesAlong (st (suc k)) v (suc v) ((steps k).first + suc v - (st k).count)
  to_next k v l a b = grind (arith, run, st, vertex_after-new)

  to_last : (k v : ℕ) → k < n → (st k).count + (steps k).vertices ≡ suc v → GoesAlong (st (suc k)) v ((st k).vertex (steps k).last) ((steps k).first + (steps k).vertices)
  to_last k v l e = grind (arith, run, vertex_after-new, st, vertex_after-high)

  apart : (k v : ℕ) → k < n → (st k).count ≤ v → suc v < (st k).count + (steps k).vertices → AreApart at (suc v) v
  apart k v l a b =
      let f = (run k l).some_face in
      record { one = new_apart steps n k v whole l a b; sum = (on_third steps n whole.turned k 0 l f (suc v) v a (omega arith) b).sum }

  one_found : (v : ℕ) → v < (st n).count → v ≢ 0 → Leads One v
  one_found v l ne = elim (cases_lt v 2) [
    | inl small ↦
        let e : v ≡ 1 = omega arith in
        let b = base_apart steps n whole some in
        subst (Leads One) (sym e) (0, back 0 0 (omega arith) base_along, (b.one, omega arith, omega arith))
    | inr large ↦
        let z = new_step steps n v large l in
        let k = z.0 in
        let lk = z.1 in
        elim (cases_eq v (st k).count) [
          | inl e ↦
              let step = run k lk in
              let f = step.some_face in
              let b = step.begin in
              let t = step.low 0 f in
              let h = third_first steps n whole.turned k 0 lk f (st k).count ((steps k).cut 0) (omega arith) (omega arith) (omega arith) t in
              let h' : IsThirdFirst at (st k).count ((st k).vertex (steps k).first) = subst (λ p. IsThirdFirst at (st k).count ((st k).vertex p)) b h in
              let w = two_at_first steps n k run lk in
              subst (Leads One) (sym e) ((st k).vertex (steps k).first, back (suc k) (steps k).first lk (to_first k lk), (h'.one, w, omega arith))
          | inr other ↦
              let u : ℕ = v - 1 in
              let e : suc u ≡ v = omega arith in
              let h = apart k u lk (omega arith) (omega arith) in
              let x = h.one in
              subst (Leads One) e (u, back (suc k) ((steps k).first + suc u - (st k).count) lk (to_next k u lk (omega arith) (omega arith)), (x, omega arith, omega arith))
        ]
  ]

  two_found : (v : ℕ) → v < (st n).count → v ≢ 1 → Leads Two v
  two_found v l ne = elim (cases_lt v 2) [
    | inl small ↦
        let e : v ≡ 0 = omega arith in
        let b = base_apart steps n whole some in
        subst (Leads Two) (sym e) (1, along 0 0 (omega arith) base_along, (omega arith, omega arith, omega arith))
    | inr large ↦
        let z = new_step steps n v large l in
        let k = z.0 in
        let lk = z.1 in
        elim (cases_lt (suc v) ((st k).count + (steps k).vertices)) [
          | inl more ↦
              let h = apart k v lk z.2 more in
              (suc v, along (suc k) ((steps k).first + suc v - (st k).count) lk (to_next k v lk z.2 more), (omega arith, omega arith, omega arith))
          | inr none ↦
              let step = run k lk in
              let last : ℕ = (steps k).faces - 1 in
              let e : suc last ≡ (steps k).faces = omega arith in
              let c = ap (steps k).cut e ∙ step.end in
              let t = step.high last (omega arith) in
              let h = second_third steps n whole.turned k last lk (omega arith) (steps k).last v (omega arith) (omega arith) z.2 z.3 in
              let x = h.two in
              let w = one_at_last steps n k run lk v (omega arith) in
              ((st k).vertex (steps k).last, along (suc k) ((steps k).first + (steps k).vertices) lk (to_last k v lk (omega arith)), (x, w, omega arith))
        ]
  ]

  -- along axis three from what is covered
  first_three : (x y : ℕ) → AreOnFirst at x y → IsRising at Three y x
  first_three x y h = let a = h.one in let b = h.two in (omega arith, omega arith, omega arith)

  second_three : (x y : ℕ) → AreOnSecond at x y → IsRising at Three x y
  second_three x y h = let a = h.one in let b = h.two in (omega arith, omega arith, omega arith)

  covered : (k p : ℕ) → k < n → (steps k).first < p → p < (steps k).last → Leads Three ((st k).vertex p)
  covered k p l low high =
      let step = run k l in
      let f = find_face (steps k) (steps k).faces p (omega arith) (omega arith) in
      let i = f.0 in
      let li = f.1 in
      elim (cases_lt ((steps k).cut i) p) [
        | inl strict ↦ elim (cases_lt ((steps k).turn i) p) [
          | inl behind ↦ (
            (st k).vertex (suc p),
            along k p (omega arith) record { within = let c = cut-last (st k) (steps k) step (suc i) li in omega arith; tail = refl; head = refl },
            second_three ((st k).vertex p) ((st k).vertex (suc p)) (on_second steps n whole.turned k i l li p (suc p) behind (omega arith) (omega arith)),
          )
          | inr before ↦
              let q : ℕ = p - 1 in
              let e : suc q ≡ p = omega arith in
              subst (λ p. Leads Three ((st k).vertex p)) e (
                (st k).vertex q,
                back k q (omega arith) record { within = omega arith; tail = refl; head = refl },
                first_three ((st k).vertex q) ((st k).vertex (suc q)) (on_first steps n whole.turned k i l li q (suc q) (omega arith) (omega arith) (omega arith)),
              )
        ]
        | inr same ↦ between i li (omega arith)
      ]
    where
      between : (i : ℕ) → i < (steps k).faces → p ≡ (steps k).cut i → Leads Three ((st k).vertex p)
      between zero li e = let step = run k l in let b = step.begin in absurd (omega arith)
      between (suc i) li e =
          let step = run k l in
          let t = step.high i (omega arith) in
          let t' = step.low (suc i) li in
          let h = second_third steps n whole.turned k i l (omega arith) ((steps k).cut (suc i)) (st k).count t (omega arith) (omega arith) (omega arith) in
          let h' = third_first steps n whole.turned k (suc i) l li (st k).count ((steps k).cut (suc i)) (omega arith) (omega arith) (omega arith) t' in
          let y = h.sum in
          subst (λ p. Leads Three ((st k).vertex p)) (sym e) ((st k).count, over k (suc i) l li refl refl (omega arith), (y, omega arith, omega arith))

  -- a vertex that was placed stands on the contour, or was covered
  abbrev Stands : ℕ → ℕ → Type 0
  Stands z v = ((p : ℕ) × (p < (st z).width) × ((st z).vertex p ≡ v)) ⊎ Leads Three v

  stands_after : (z v : ℕ) → z < n → Stands z v → Stands (suc z) v
  stands_after z v l h = elim h [
    | inr led ↦ inr led
    | inl on ↦
        let p = on.0 in
        let step = run z l in
        elim (cases_lt (steps z).first p) [
          | inr low ↦ inl (p, omega arith, vertex_after-low (st z) (steps z) p low ∙ on.2)
          | inl more ↦ elim (cases_lt p (steps z).last) [
            | inl under ↦ inr (subst (Leads Three) on.2 (covered z p l more under))
            | inr high ↦
                let q : ℕ = p + (steps z).first + (steps z).vertices + 1 - (steps z).last in
                inl (q, omega arith, vertex_after-high (st z) (steps z) q p (omega arith) (omega arith) ∙ on.2)
          ]
        ]
  ]

  stands : (v : ℕ) → v < (st n).count → Stands n v
  stands v l = elim (cases_lt v 2) [
    | inl small ↦ upward (λ z. Stands z v) 0 n (omega arith) (inl (v, small, refl)) (λ z a b h. stands_after z v b h)
    | inr large ↦
        let z = new_step steps n v large l in
        let step = run z.0 z.1 in
        let p : ℕ = (steps z.0).first + suc v - (st z.0).count in
        let x = vertex_after-new (st z.0) (steps z.0) p (omega arith) (omega arith) in
        upward (λ z. Stands z v) (suc z.0) n z.1 (inl (p, omega arith, omega arith)) (λ z a b h. stands_after z v b h)
  ]

  three_found : (v : ℕ) → v < (st n).count → suc v ≢ (st n).count → Leads Three v
  three_found v l ne = elim (stands v l) [
    | inr led ↦ led
    | inl on ↦
        let p = on.0 in
        elim (cases_order p whole.top) [
          | inl same ↦ absurd (ne (ap suc (sym on.2 ∙ ap (st n).vertex same) ∙ whole.last))
          | inr (inl before) ↦
              let go : GoesAlong (st n) v ((st n).vertex (suc p)) p = record { within = omega arith; tail = on.2; head = refl } in
              ((st n).vertex (suc p), along n p (omega arith) go, second_three v ((st n).vertex (suc p)) (right_pair steps n whole p v ((st n).vertex (suc p)) before go))
          | inr (inr behind) ↦
              let q : ℕ = p - 1 in
              let f : suc q ≡ p = omega arith in
              let go : GoesAlong (st n) ((st n).vertex q) v q = record { within = omega arith; tail = refl; head = ap (st n).vertex f ∙ on.2 } in
              ((st n).vertex q, back n q (omega arith) go, first_three ((st n).vertex q) v (left_pair steps n whole q ((st n).vertex q) v (omega arith) go))
        ]
  ]

  pub some_rising_at : (v : ℕ) (c : Axis) → v < (st n).count → ¬ IsRootRank (st n).count c v → (u : ℕ) × IsRunEdge steps n v u × IsRising at c v u
  some_rising_at v One l ne = one_found v l ne
  some_rising_at v Two l ne = two_found v l ne
  some_rising_at v Three l ne = three_found v l ne
