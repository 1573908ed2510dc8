-- What a step covers goes under the vertices whose places it takes.
use Rattle.std.proofs.Common.{◌≡◌, ◌≢◌, ℕ, zero, suc, ◌+◌, ◌-◌, ◌<◌, ◌≤◌, eqb, List, sym, ap, ◌∙◌, subst, inl, inr, arith, eq-eqb, ne_eqb, if◌then◌else◌}
use Rattle.std.proofs.lemmas.Bool.{cond-true, cond-false}
use Rattle.contour_runs.specs.Runs.{Stage}
use Rattle.contour_runs.specs.Wood.{Coordinates}
use Rattle.contour_runs.specs.FaceRuns.{Step, moved, vertex_after}
use Rattle.contour_runs.proofs.FaceRunsPlaces.{order, vertex_after-low, vertex_after-new, vertex_after-high, cases_moved}
use Rattle.convex_counts.specs.Counts.{counts_after, two_gain}
use Rattle.convex_counts.proofs.Gains.{gain-first, gain-second, gain-le, one_after-contour, two_after-contour, counted-low, counted-new, high_counts}
use Rattle.convex_draw.specs.declared.convex_points.spots.Spot.{Spot}
use Rattle.convex_draw.specs.Spots.{Setting, IsRowOver, IsPut, IsWritten, IsUnder, settled, settled_at}
use Rattle.convex_draw.proofs.Rows.{one_last, two_first}

-- what is kept, by how many faces are counted as two
settled-none : (n a b c p z q : ℕ) → a ≡ 0 → settled n a b c p z q ≡ record { one = 0; two = c; over = p }
unfolding settled
settled-none n a b c p z q e =
    cond-true (eqb a 0) (record { one = 0; two = c; over = p }) (if eqb a n then record { one = b; two = 0; over = q } else record { one = b + (n - a); two = c + a; over = z }) (eq-eqb a 0 e)

settled-all : (n a b c p z q : ℕ) → a ≢ 0 → a ≡ n → settled n a b c p z q ≡ record { one = b; two = 0; over = q }
unfolding settled
settled-all n a b c p z q ne e =
    cond-false (eqb a 0) (record { one = 0; two = c; over = p }) (if eqb a n then record { one = b; two = 0; over = q } else record { one = b + (n - a); two = c + a; over = z }) (ne_eqb a 0 ne)
    ∙ cond-true (eqb a n) (record { one = b; two = 0; over = q }) (record { one = b + (n - a); two = c + a; over = z }) (eq-eqb a n e)

settled-some : (n a b c p z q : ℕ) → a ≢ 0 → a ≢ n → settled n a b c p z q ≡ record { one = b + (n - a); two = c + a; over = z }
unfolding settled
settled-some n a b c p z q ne ne' =
    cond-false (eqb a 0) (record { one = 0; two = c; over = p }) (if eqb a n then record { one = b; two = 0; over = q } else record { one = b + (n - a); two = c + a; over = z }) (ne_eqb a 0 ne)
    ∙ cond-false (eqb a n) (record { one = b; two = 0; over = q }) (record { one = b + (n - a); two = c + a; over = z }) (ne_eqb a n ne')

-- a number that stays from place to place is the same at both ends
pub steady : (f : ℕ → ℕ) (a d : ℕ) → ((j : ℕ) → a ≤ j → j < a + d → f (suc j) ≡ f j) → f (a + d) ≡ f a
steady f a zero h = let e : a + 0 ≡ a = omega arith in ap f e
steady f a (suc d) h = let e : a + suc d ≡ suc (a + d) = omega arith in ap f e ∙ h (a + d) (omega arith) (omega arith) ∙ steady f a d (λ j l m. h j l (omega arith))

pub IsUnder-same : (at : Coordinates) (name : ℕ → ℕ) (spots : List Spot) (v c c' : ℕ) → c ≡ c' → IsUnder at name spots v c' → IsUnder at name spots v c
IsUnder-same at name spots v c c' e h = subst (λ c. IsUnder at name spots v c) (sym e) h

module _ (w : Setting) (old now : List Spot) (row cuts news : List ℕ) (put : IsPut w old row cuts news) (wrote : IsWritten w old now) where
  abbrev g : Stage
  g = w.stage

  abbrev s : Step
  s = w.step

  abbrev h : IsRowOver w old row
  h = put.over

  abbrev to : Coordinates
  to = counts_after g s w.at

  module _ (i : ℕ) (a : s.first < i) (b : i < s.last) where
    abbrev v : ℕ
    v = g.vertex i

    abbrev c : ℕ
    c = vertex_after g s (moved s i)

    by : (x : Spot) (u : ℕ) → c ≡ u → settled_at w i ≡ x → to.one v ≡ to.one u + x.one → to.two v ≡ to.two u + x.two → x.over ≡ w.name u → IsUnder to w.name now v c
    by x u e is one two over =
        let n = wrote.within i a b ∙ is in
        IsUnder-same to w.name now v c u e record {
          one = omega (arith, one, ap (λ (x : Spot). x.one) n);
          two = omega (arith, two, ap (λ (x : Spot). x.two) n);
          over = ap (λ (x : Spot). x.over) n ∙ over;
        }

    abbrev fall : ℕ
    fall = w.at.one (g.vertex i) - w.at.one (g.vertex s.last)

    abbrev rise : ℕ
    rise = w.at.two (g.vertex i) - w.at.two (g.vertex s.first)

    abbrev p : ℕ
    p = w.name (g.vertex s.first)

    abbrev z : ℕ
    z = w.name g.count

    abbrev q : ℕ
    q = w.name (g.vertex s.last)

    low : i < g.width
    low = let k = h.step.within in omega arith

    -- up to the first turn it goes with the first vertex
    under_first : i ≤ s.turn 0 → moved s i ≡ s.first → IsUnder to w.name now v c
    under_first l m =
        let some = h.step.some_face in
        let begin = h.step.begin in
        let o = order g s h.step in
        let gain = gain-first g s h.step 0 i some (omega arith) l in
        let e = vertex_after-low g s s.first (omega arith) in
        let x = one_after-contour g s w.at h.stage h.step i low in
        let y = two_after-contour g s w.at h.stage h.step i low in
        let k = counted-low g s w.at h.stage h.step s.first (omega arith) in
        let d : s.first + (i - s.first) ≡ i = omega arith in
        let level = steady (λ j. w.at.one (g.vertex j)) s.first (i - s.first) (λ j lo hi. (put.turned.left 0 j some (omega arith) (omega arith)).one) in
        let t = two_first w old row h i (omega arith) (omega arith) in
        by (record { one = 0; two = rise; over = p }) (g.vertex s.first) (ap (vertex_after g s) m ∙ e) (settled-none s.faces (two_gain s i) fall rise p z q gain)
        (omega (arith, x, gain, k.one, ap to.one e, level, ap (λ j. w.at.one (g.vertex j)) d))
        (omega (arith, y, gain, k.two, ap to.two e, t))
        (ap w.name (let f : g.vertex s.first ≡ g.vertex s.first = omega arith in f))

    -- behind the last turn with the last
    under_last : s.turn (s.faces - 1) < i → moved s i ≡ s.first + s.vertices + 1 → IsUnder to w.name now v c
    under_last l m =
        let some = h.step.some_face in
        let end = h.step.end in
        let o = order g s h.step in
        let k = h.step.within in
        let r : ℕ = s.faces - 1 in
        let n : suc r ≡ s.faces = omega arith in
        let cut_end : s.cut (suc r) ≡ s.last = ap s.cut n ∙ end in
        let gain = gain-second g s h.step r i (omega arith) l (omega arith) in
        let e = vertex_after-high g s (s.first + s.vertices + 1) s.last (omega arith) (omega arith) in
        let x = one_after-contour g s w.at h.stage h.step i low in
        let y = two_after-contour g s w.at h.stage h.step i low in
        let t = high_counts g s w.at h.stage h.step (s.first + s.vertices + 1) s.last (omega arith) k (omega arith) in
        let d : i + (s.last - i) ≡ s.last = omega arith in
        let level = steady (λ j. w.at.two (g.vertex j)) i (s.last - i) (λ j lo hi. (put.turned.right r j (omega arith) (omega arith) (omega arith)).two) in
        let f = one_last w old row h i (omega arith) in
        by (record { one = fall; two = 0; over = q }) (g.vertex s.last) (ap (vertex_after g s) m ∙ e) (settled-all s.faces (two_gain s i) fall rise p z q (λ zero. absurd (omega arith)) (omega arith))
        (omega (arith, x, gain, t.0, ap to.one e, f))
        (omega (arith, y, gain, t.1, ap to.two e, level, ap (λ j. w.at.two (g.vertex j)) d))
        (ap w.name (let f : g.vertex s.last ≡ g.vertex s.last = omega arith in f))

    -- between two turns with the new vertex
    under_new : s.turn 0 < i → i ≤ s.turn (s.faces - 1) → moved s i ≡ suc s.first → IsUnder to w.name now v c
    under_new l l' m =
        let some = h.step.some_face in
        let some' = h.step.some_vertex in
        let o = order g s h.step in
        let r : ℕ = s.faces - 1 in
        let high = h.step.high 0 some in
        let one = gain-second g s h.step 0 (suc (s.turn 0)) some (omega arith) (omega arith) in
        let most = gain-first g s h.step r (s.turn r) (omega arith) (h.step.low r (omega arith)) (omega arith) in
        let up = gain-le s (suc (s.turn 0)) i (omega arith) in
        let up' = gain-le s i (s.turn r) l' in
        let n = vertex_after-new g s (suc s.first) (omega arith) (omega arith) in
        let e : vertex_after g s (suc s.first) ≡ g.count = omega arith in
        let x = one_after-contour g s w.at h.stage h.step i low in
        let y = two_after-contour g s w.at h.stage h.step i low in
        let k = counted-new g s w.at h.stage h.step (suc s.first) (omega arith) (omega arith) in
        let f = one_last w old row h i (omega arith) in
        let t = two_first w old row h i (omega arith) (omega arith) in
        by (record { one = fall + (s.faces - two_gain s i); two = rise + two_gain s i; over = z }) g.count (ap (vertex_after g s) m ∙ e) (settled-some s.faces (two_gain s i) fall rise p z q (λ zero. absurd (omega arith)) (λ all. absurd (omega arith)))
        (omega (arith, x, k.one, ap to.one e, f))
        (omega (arith, y, k.two, ap to.two e, t))
        (ap w.name (let f : g.count ≡ g.count = omega arith in f))

    pub IsUnder-covered : IsUnder to w.name now v c
    IsUnder-covered = elim (cases_moved g s h.step i) [
      | inl d ↦ let n = d.low in absurd (omega arith)
      | inr (inl d) ↦ under_first d.high d.to
      | inr (inr (inl d)) ↦ under_new d.low d.high d.to
      | inr (inr (inr (inl d))) ↦ under_last d.low d.to
      | inr (inr (inr (inr d))) ↦ let n = d.low in absurd (omega arith)
    ]
