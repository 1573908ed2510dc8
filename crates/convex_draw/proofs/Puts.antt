-- The differences along the contour after a step.
use Rattle.std.proofs.Common.{◌≡◌, ◌≢◌, ◌⊎◌, ℕ, suc, ◌+◌, ◌-◌, ◌<◌, ◌≤◌, List, sym, ap, ◌∙◌, inl, inr, arith}
use Rattle.std.proofs.lemmas.Bool.{cases_lt, cases_eq}
use Rattle.contour_runs.specs.Runs.{Stage}
use Rattle.contour_runs.specs.Wood.{Coordinates}
use Rattle.contour_runs.specs.FaceRuns.{Step, vertex_after, after}
use Rattle.contour_runs.proofs.FaceRunsPlaces.{order, vertex_after-low, vertex_after-new, vertex_after-high}
use Rattle.convex_counts.specs.Counts.{counts_after}
use Rattle.convex_counts.proofs.Gains.{counted-low, counted-new, high_counts}
use Rattle.convex_draw.specs.declared.convex_points.spots.Spot.{Spot}
use Rattle.convex_draw.specs.Spots.{Setting, IsRowOver, IsWritten, AreGaps, spot_of}
use Rattle.convex_draw.proofs.Rows.{one_last, two_first}

module _ (w : Setting) (old now : List Spot) (row : List ℕ) (h : IsRowOver w old row) (wrote : IsWritten w old now) where
  abbrev g : Stage
  g = w.stage

  abbrev s : Step
  s = w.step

  abbrev to : Coordinates
  to = counts_after g s w.at

  pub same_vertex : (u v : ℕ) → u < g.count + s.vertices → v < g.count + s.vertices → w.name u ≡ w.name v → u ≡ v
  same_vertex u v l m e = let r = h.room in h.named.one u v (omega arith) (omega arith) e

  -- what is no new vertex, and not of the row behind its first, keeps what it has
  pub kept : (u : ℕ) → u < g.count → ((i : ℕ) → s.first < i → i ≤ s.last → g.vertex i ≢ u) → spot_of now (w.name u) ≡ spot_of old (w.name u)
  kept u older away =
      let b = h.step.within in
      wrote.others (w.name u)
      (λ i a l e. let o = h.stage.placed i (omega arith) in away i a l (same_vertex (g.vertex i) u (omega arith) (omega arith) e))
      (λ i l e. let d = same_vertex (g.count + i) u (omega arith) (omega arith) e in absurd (omega arith))

  kept_at : (j : ℕ) → j < g.width → (j ≤ s.first) ⊎ (s.last < j) → spot_of now (w.name (g.vertex j)) ≡ spot_of old (w.name (g.vertex j))
  kept_at j l away =
      let b = h.step.within in
      kept (g.vertex j) (h.stage.placed j l)
      (λ i a m e. let d : i ≡ j = sym (h.stage.own i (omega arith)) ∙ ap g.place e ∙ h.stage.own j l in elim away [ inl c ↦ absurd (omega arith) | inr c ↦ absurd (omega arith) ])

  -- v comes after u
  record IsGap (u v : ℕ) : Type 0 where
    pub fall : to.one u ≡ to.one v + (spot_of now (w.name v)).one
    pub rise : to.two v ≡ to.two u + (spot_of now (w.name v)).two
    pub back : (spot_of now (w.name v)).over ≡ w.name u

  gap : (u v : ℕ) (x : Spot) → spot_of now (w.name v) ≡ x → to.one u ≡ to.one v + x.one → to.two v ≡ to.two u + x.two → x.over ≡ w.name u → IsGap u v
  gap u v x e one two back =
      record {
        fall = omega (arith, one, ap (λ (x : Spot). x.one) e);
        rise = omega (arith, two, ap (λ (x : Spot). x.two) e);
        back = ap (λ (x : Spot). x.over) e ∙ back;
      }

  gap_low : (i : ℕ) → suc i ≤ s.first → IsGap (vertex_after g s i) (vertex_after g s (suc i))
  gap_low i a =
      let o = order g s h.step in
      let b = h.step.within in
      let x : Spot = spot_of old (w.name (g.vertex (suc i))) in
      let c = counted-low g s w.at h.stage h.step i (omega arith) in
      let d = counted-low g s w.at h.stage h.step (suc i) a in
      gap (vertex_after g s i) (vertex_after g s (suc i)) x (ap (λ v. spot_of now (w.name v)) (vertex_after-low g s (suc i) a) ∙ kept_at (suc i) (omega arith) (inl a))
      (omega (arith, c.one, d.one, h.gaps.fall i (omega arith)))
      (omega (arith, c.two, d.two, h.gaps.rise i (omega arith)))
      (h.gaps.back i (omega arith) ∙ ap w.name (sym (vertex_after-low g s i (omega arith))))

  gap_first : (i : ℕ) → i ≡ s.first → IsGap (vertex_after g s i) (vertex_after g s (suc i))
  gap_first i e =
      let o = order g s h.step in
      let v = h.step.some_vertex in
      let x : Spot = record { one = w.at.one (g.vertex s.first) - w.at.one (g.vertex s.last) + s.faces; two = 0; over = w.name (g.vertex s.first) } in
      let c = counted-low g s w.at h.stage h.step i (omega arith) in
      let d = counted-new g s w.at h.stage h.step (suc i) (omega arith) (omega arith) in
      let n = vertex_after-new g s (suc i) (omega arith) (omega arith) in
      let m : vertex_after g s (suc i) ≡ g.count = omega arith in
      let f = ap g.vertex e in
      let z = one_last w old row h s.first (omega arith) in
      gap (vertex_after g s i) (vertex_after g s (suc i)) x (ap (λ v. spot_of now (w.name v)) m ∙ wrote.first_new)
      (omega (arith, c.one, d.one, z, ap w.at.one f))
      (omega (arith, c.two, d.two, ap w.at.two f))
      (ap w.name (sym (vertex_after-low g s i (omega arith) ∙ f)))

  gap_new : (i t : ℕ) → i ≡ s.first + suc t → suc t < s.vertices → IsGap (vertex_after g s i) (vertex_after g s (suc i))
  gap_new i t e l =
      let x : Spot = record { one = 0; two = 0; over = w.name (g.count + t) } in
      let c = counted-new g s w.at h.stage h.step i (omega arith) (omega arith) in
      let d = counted-new g s w.at h.stage h.step (suc i) (omega arith) (omega arith) in
      let n = vertex_after-new g s i (omega arith) (omega arith) in
      let n' = vertex_after-new g s (suc i) (omega arith) (omega arith) in
      let m : vertex_after g s i ≡ g.count + t = omega arith in
      let m' : vertex_after g s (suc i) ≡ g.count + suc t = omega arith in
      gap (vertex_after g s i) (vertex_after g s (suc i)) x (ap (λ v. spot_of now (w.name v)) m' ∙ wrote.next_new t l) (omega (arith, c.one, d.one)) (omega (arith, c.two, d.two)) (ap w.name (sym m))

  gap_last : (i : ℕ) → i ≡ s.first + s.vertices → IsGap (vertex_after g s i) (vertex_after g s (suc i))
  gap_last i e =
      let o = order g s h.step in
      let v = h.step.some_vertex in
      let b = h.step.within in
      let x : Spot = record { one = 0; two = w.at.two (g.vertex s.last) - w.at.two (g.vertex s.first) + s.faces; over = w.name (g.count + (s.vertices - 1)) } in
      let c = counted-new g s w.at h.stage h.step i (omega arith) (omega arith) in
      let d = high_counts g s w.at h.stage h.step (suc i) s.last (omega arith) b (omega arith) in
      let n = vertex_after-new g s i (omega arith) (omega arith) in
      let m : vertex_after g s i ≡ g.count + (s.vertices - 1) = omega arith in
      let m' = vertex_after-high g s (suc i) s.last (omega arith) (omega arith) in
      let z = two_first w old row h s.last (omega arith) (omega arith) in
      gap (vertex_after g s i) (vertex_after g s (suc i)) x (ap (λ v. spot_of now (w.name v)) m' ∙ wrote.last) (omega (arith, c.one, d.0)) (omega (arith, c.two, d.1, z)) (ap w.name (sym m))

  gap_high : (i j : ℕ) → s.last ≤ j → suc j < g.width → i + s.last ≡ j + s.first + s.vertices + 1 → IsGap (vertex_after g s i) (vertex_after g s (suc i))
  gap_high i j a l e =
      let x : Spot = spot_of old (w.name (g.vertex (suc j))) in
      let c = high_counts g s w.at h.stage h.step i j a (omega arith) e in
      let d = high_counts g s w.at h.stage h.step (suc i) (suc j) (omega arith) l (omega arith) in
      let m = vertex_after-high g s i j (omega arith) e in
      let m' = vertex_after-high g s (suc i) (suc j) (omega arith) (omega arith) in
      gap (vertex_after g s i) (vertex_after g s (suc i)) x (ap (λ v. spot_of now (w.name v)) m' ∙ kept_at (suc j) l (inr (omega arith)))
      (omega (arith, c.0, d.0, h.gaps.fall j l))
      (omega (arith, c.1, d.1, h.gaps.rise j l))
      (h.gaps.back j l ∙ ap w.name (sym m))

  gap_after : (i : ℕ) → suc i < (after g s).width → IsGap (vertex_after g s i) (vertex_after g s (suc i))
  gap_after i l =
      let o = order g s h.step in
      let b = h.step.within in
      elim (cases_lt i s.first) [
        | inl a ↦ gap_low i a
        | inr a ↦ elim (cases_eq i s.first) [
          | inl e ↦ gap_first i e
          | inr ne ↦ elim (cases_lt i (s.first + s.vertices)) [
            | inl m ↦ gap_new i (i - s.first - 1) (omega arith) (omega arith)
            | inr m ↦ elim (cases_eq i (s.first + s.vertices)) [ inl e ↦ gap_last i e | inr ne' ↦ gap_high i (i + s.last - (s.first + s.vertices + 1)) (omega arith) (omega arith) (omega arith) ]
          ]
        ]
      ]

  pub AreGaps-after : AreGaps (after g s) to w.name now
  AreGaps-after = record { fall = λ i l. (gap_after i l).fall; rise = λ i l. (gap_after i l).rise; back = λ i l. (gap_after i l).back }
