-- The tree of offsets over one step of a run.
use Rattle.std.proofs.Common.{◌≡◌, ◌≢◌, ℕ, suc, ◌+◌, ◌-◌, ◌<◌, ◌≤◌, Option, Some, None, pos, refl, sym, ap, subst, ◌∙◌, inl, inr, arith}
use Rattle.std.proofs.lemmas.Bool.{cases_lt, cases_eq}
use Rattle.std.proofs.lemmas.Bool.Decides.{nat_tests}
use Rattle.std.specs.Prelude.{nat_lt, if◌then◌else◌}
use Rattle.std.proofs.lemmas.Int.{ints}
use Rattle.contour_runs.specs.Runs.{Step, Stage, vertex_after, after, stage_after, IsStep, IsRun}
use Rattle.contour_runs.specs.Laws.{IsStage}
use Rattle.contour_runs.proofs.Places.{vertex_after-low, vertex_after-new, vertex_after-high}
use Rattle.contour_runs.proofs.Stages.{IsStage-run, IsRun-less, count-stage_after, covered_together, covered_gone, IsCovered-own}
use Rattle.fpp_shift.specs.Shift.{Places, shift, shift_points, y_after}
use Rattle.fpp_shift.proofs.Steps.{shift-low, shift-between, shift-high, x_after-older, y_after-older, y_after-new}
use Rattle.fpp_shift.specs.Grown.{Links, IsFrom, first_covered, next_covered, AreCovered, IsGrown, IsOffsetTree, IsWritten}

pub next-some : (a b : ℕ) (z : Option ℕ) → a < b → (if nat_lt a b then z else None) ≡ z
next-some a b z l = grind (arith, nat_tests)

pub next-none : (a b : ℕ) (z : Option ℕ) → b ≤ a → (if nat_lt a b then z else None) ≡ None
next-none a b z l = grind (arith, nat_tests)

-- a step of a run, with what the nodes said before it and what they say now
module _ (name : ℕ → ℕ) (steps : ℕ → Step) (n : ℕ) (run : IsRun steps (suc n)) (t t' : Links) (grown : IsGrown name steps n t) (wrote : IsWritten name (stage_after steps n) (steps n) (shift_points steps n) t t') where
  abbrev g : Stage
  g = stage_after steps n

  abbrev s : Step
  s = steps n

  abbrev at : Places
  at = shift_points steps n

  stage : IsStage g
  stage = IsStage-run steps n (IsRun-less steps n (suc n) (omega arith) run)

  step : IsStep g s
  step = run n (omega arith)

  count : g.count ≡ n + 2
  count = count-stage_after steps n

  -- places of the contour have different vertices
  apart : (i j : ℕ) → i < g.width → j < g.width → i ≢ j → g.vertex i ≢ g.vertex j
  apart i j l m ne e = ne (sym (stage.own i l) ∙ ap g.place e ∙ stage.own j m)

  -- a vertex that has left the contour is not on it
  hidden : (u : ℕ) → g.vertex (g.place u) ≢ u → (i : ℕ) → i < g.width → u ≢ g.vertex i
  hidden u gone i l e = gone (ap (λ v. g.vertex (g.place v)) e ∙ ap g.vertex (stage.own i l) ∙ sym e)

  -- what was covered earlier is placed, and has left the contour
  covered-placed : (k i : ℕ) → k < n → (steps k).first < i → i < (steps k).last → (stage_after steps k).vertex i < g.count
  covered-placed k i l a b =
      let c = IsCovered-own steps k (suc n) ((stage_after steps k).vertex i) run (omega arith) (record { place = i; low = a; high = b; vertex = refl }) in
      omega (arith, c.0, count)

  covered-hidden : (k i : ℕ) → k < n → (steps k).first < i → i < (steps k).last → g.vertex (g.place ((stage_after steps k).vertex i)) ≢ (stage_after steps k).vertex i
  covered-hidden k i l a b = covered_gone steps k n ((stage_after steps k).vertex i) (IsRun-less steps n (suc n) (omega arith) run) l (record { place = i; low = a; high = b; vertex = refl })

  -- and has the place of the one that covered it
  covered-place : (k i : ℕ) → k < n → (steps k).first < i → i < (steps k).last → g.place ((stage_after steps k).vertex i) ≡ g.place (k + 2)
  covered-place k i l a b = covered_together steps k n ((stage_after steps k).vertex i) (IsRun-less steps n (suc n) (omega arith) run) l (record { place = i; low = a; high = b; vertex = refl })

  -- an offset between vertices that move alike stays
  from-alike : (z u : ℕ) → z < g.count → u < g.count → g.place z ≡ g.place u → t'.x u ≡ t.x u → IsFrom t at z u → IsFrom t' (shift_points steps (suc n)) z u
  from-alike z u lz lu same kept from =
      omega (arith, ints, x_after-older g s at z lz, x_after-older g s at u lu, ap (shift s) same, kept, from)

  -- a hidden vertex keeps its node
  hidden-x : (u : ℕ) → u < g.count → g.vertex (g.place u) ≢ u → t'.x u ≡ t.x u
  hidden-x u l gone =
      let w = step.within in
      wrote.xs u l (hidden u gone s.last w) (hidden u gone (suc s.first) (omega (arith, step.order)))

  hidden-right : (u : ℕ) → u < g.count → g.vertex (g.place u) ≢ u → t'.right u ≡ t.right u
  hidden-right u l gone =
      let w = step.within in
      wrote.rights u l (hidden u gone s.first (omega (arith, step.order))) (λ i a b. hidden u gone i (omega arith))

  -- x after the step, of a vertex of the contour before it
  contour-x : (i : ℕ) → i < g.width → (shift_points steps (suc n)).x (g.vertex i) ≡ at.x (g.vertex i) + shift s i
  contour-x i l = x_after-older g s at (g.vertex i) (stage.placed i l) ∙ ap (λ p. at.x (g.vertex i) + shift s p) (stage.own i l)

  -- a vertex of the contour that is not at the places where something is written
  kept-x : (j : ℕ) → j < g.width → j ≢ s.last → j ≢ suc s.first → t'.x (g.vertex j) ≡ t.x (g.vertex j)
  kept-x j l nl nf =
      let w = step.within in
      wrote.xs (g.vertex j) (stage.placed j l) (apart j s.last l w nl) (apart j (suc s.first) l (omega (arith, step.order)) nf)

  kept-right : (j : ℕ) → j < g.width → j ≢ s.first → ((suc j ≡ s.last) → s.first < j → ⊥) → t'.right (g.vertex j) ≡ t.right (g.vertex j)
  kept-right j l nf nl =
      let w = step.within in
      wrote.rights (g.vertex j) (stage.placed j l) (apart j s.first l (omega (arith, step.order)) nf) (λ i a b. apart j i l (omega arith) (λ e. nl (ap suc e ∙ b) (omega (arith, e, a))))

  at-zero : t'.x 0 ≡ t.x 0
  at-zero =
      ap t'.x (sym stage.begin) ∙ kept-x 0 (omega (arith, step.within)) (λ e. omega (arith, step.order)) (λ e. omega arith) ∙ ap t.x stage.begin

  -- the links and offsets of covered vertices
  left-after : (k : ℕ) → k < suc n → t'.left (k + 2) ≡ first_covered name (stage_after steps k) (steps k)
  left-after k l = elim (cases_eq k n) [
    | inl e ↦ subst (λ k. t'.left (k + 2) ≡ first_covered name (stage_after steps k) (steps k)) (sym e) (ap t'.left (sym count) ∙ wrote.new_left)
    | inr ne ↦ wrote.lefts (k + 2) (omega (arith, count)) ∙ grown.covered.left k (omega arith)
  ]

  right-new : (i : ℕ) → s.first < i → i < s.last → t'.right (g.vertex i) ≡ next_covered name g s i
  right-new i a b = grind (arith, step, cases_lt, kept-right, next-some, Some, next-none)

  right-after : (k i : ℕ) → k < suc n → (steps k).first < i → i < (steps k).last → t'.right ((stage_after steps k).vertex i) ≡ next_covered name (stage_after steps k) (steps k) i
  right-after k i l a b = grind (arith, cases_eq, stage_after, next_covered, right-new, hidden-right, covered-placed, covered-hidden)

  first-new : suc s.first < s.last → IsFrom t' (shift_points steps (suc n)) (n + 2) (g.vertex (suc s.first))
  first-new c = subst (λ v. IsFrom t' (shift_points steps (suc n)) v (g.vertex (suc s.first))) count (wrote.first_x c)

  first-after : (k : ℕ) → k < suc n → suc (steps k).first < (steps k).last → IsFrom t' (shift_points steps (suc n)) (k + 2) ((stage_after steps k).vertex (suc (steps k).first))
  first-after k l c = elim (cases_eq k n) [
    | inl e ↦
        subst (λ k. suc (steps k).first < (steps k).last → IsFrom t' (shift_points steps (suc n)) (k + 2) ((stage_after steps k).vertex (suc (steps k).first))) (sym e) first-new c
    | inr ne ↦
        let m : k < n = omega arith in
        let i = suc (steps k).first in
        from-alike (k + 2) ((stage_after steps k).vertex i) (omega (arith, count)) (covered-placed k i m (omega arith) c) (sym (covered-place k i m (omega arith) c)) (hidden-x ((stage_after steps k).vertex i) (covered-placed k i m (omega arith) c) (covered-hidden k i m (omega arith) c)) (grown.covered.first k m c)
  ]

  next-new : (i : ℕ) → s.first < i → suc i < s.last → IsFrom t' (shift_points steps (suc n)) (g.vertex i) (g.vertex (suc i))
  next-new i a b =
      let w = step.within in
      let m = shift-between s i a (omega arith) in
      let m' = shift-between s (suc i) (omega arith) b in
      let kept = kept-x (suc i) (omega arith) (λ e. omega arith) (λ e. omega arith) in
      let gap = grown.gaps i (omega arith) in
      omega (arith, ints, contour-x i (omega arith), contour-x (suc i) (omega arith), m, m', kept, gap)

  next-after : (k i : ℕ) → k < suc n → (steps k).first < i → suc i < (steps k).last → IsFrom t' (shift_points steps (suc n)) ((stage_after steps k).vertex i) ((stage_after steps k).vertex (suc i))
  next-after k i l a b = grind (arith, cases_eq, IsFrom, shift_points, stage_after, next-new, covered-placed, from-alike, covered-place, hidden-x, covered-hidden)

  heights-after : (k : ℕ) → k < suc n + 2 → t'.y k ≡ pos ((shift_points steps (suc n)).y k)
  heights-after k l = grind (arith, cases_lt, count, pos, y_after-older, at, y_after-new, y_after)

  covered-after : AreCovered name steps (suc n) t'
  covered-after = grind (arith, count, left-after, right-after, first-after, next-after, heights-after, at-zero)

  -- the contour after the step
  along-low : (i : ℕ) → suc i ≤ s.first → t'.right (vertex_after g s i) ≡ Some (name (vertex_after g s (suc i)))
  along-low i a =
      let o = step.order in
      let w = step.within in
      ap t'.right (vertex_after-low g s i (omega arith)) ∙ kept-right i (omega arith) (λ e. omega arith) (λ e x. omega arith) ∙ grown.along i (omega arith) ∙ ap (λ u. Some (name u)) (sym (vertex_after-low g s (suc i) a))

  along-high : (i j : ℕ) → suc s.first < i → s.last ≤ j → suc j < g.width → i + s.last ≡ j + suc (suc s.first) → t'.right (vertex_after g s i) ≡ Some (name (vertex_after g s (suc i)))
  along-high i j a b l e =
      let o = step.order in
      ap t'.right (vertex_after-high g s i j a b e) ∙ kept-right j (omega arith) (λ e. omega arith) (λ e x. omega arith) ∙ grown.along j l ∙ ap (λ u. Some (name u)) (sym (vertex_after-high g s (suc i) (suc j) (omega arith) (omega arith) (omega arith)))

  along-after : (i : ℕ) → suc i < (after g s).width → t'.right (vertex_after g s i) ≡ Some (name (vertex_after g s (suc i)))
  along-after i l =
      elim (cases_lt i s.first) [
        | inl a ↦ along-low i (omega arith)
        | inr a ↦ elim (cases_eq i s.first) [
          | inl e ↦ ap t'.right (vertex_after-low g s i (omega arith) ∙ ap g.vertex e) ∙ wrote.p_right ∙ ap (λ u. Some (name u)) (sym (vertex_after-new g s (suc i) (ap suc e)))
          | inr ne ↦ elim (cases_eq i (suc s.first)) [
            | inl e ↦ ap t'.right (vertex_after-new g s i e) ∙ wrote.new_right ∙ ap (λ u. Some (name u)) (sym (vertex_after-high g s (suc i) s.last (omega arith) (omega arith) (omega arith)))
            | inr ne' ↦ along-high i (i + s.last - (s.first + 2)) (omega arith) (omega arith) (omega arith) (omega arith)
          ]
        ]
      ]

  gap-low : (i : ℕ) → suc i ≤ s.first → IsFrom t' (shift_points steps (suc n)) (vertex_after g s i) (vertex_after g s (suc i))
  gap-low i a = grind (arith, step, contour-x, shift-low, kept-x, IsFrom, shift_points, ints, vertex_after, vertex_after-low)

  gap-high : (i j : ℕ) → suc s.first < i → s.last ≤ j → suc j < g.width → i + s.last ≡ j + suc (suc s.first) → IsFrom t' (shift_points steps (suc n)) (vertex_after g s i) (vertex_after g s (suc i))
  gap-high i j a b l e =
      let o = step.order in
      let z = contour-x j (omega arith) in
      let u = contour-x (suc j) l in
      let m = shift-high s j o b in
      let m' = shift-high s (suc j) o (omega arith) in
      let kept = kept-x (suc j) l (λ e. omega arith) (λ e. omega arith) in
      let from : IsFrom t' (shift_points steps (suc n)) (g.vertex j) (g.vertex (suc j)) = omega (arith, ints, z, u, m, m', kept, grown.gaps j l) in
      subst (λ v. IsFrom t' (shift_points steps (suc n)) v (vertex_after g s (suc i))) (sym (vertex_after-high g s i j a b e)) (subst (IsFrom t' (shift_points steps (suc n)) (g.vertex j)) (sym (vertex_after-high g s (suc i) (suc j) (omega arith) (omega arith) (omega arith))) from)

  gap-new : IsFrom t' (shift_points steps (suc n)) (g.vertex s.first) g.count
  gap-new =
      let o = step.order in
      let w = step.within in
      let new = wrote.new_x in
      omega (arith, ints, contour-x s.first (omega arith), shift-low s s.first (omega arith), new)

  gaps-after : (i : ℕ) → suc i < (after g s).width → IsFrom t' (shift_points steps (suc n)) (vertex_after g s i) (vertex_after g s (suc i))
  gaps-after i l =
      elim (cases_lt i s.first) [
        | inl a ↦ gap-low i (omega arith)
        | inr a ↦ elim (cases_eq i s.first) [
          | inl e ↦
              subst (λ v. IsFrom t' (shift_points steps (suc n)) v (vertex_after g s (suc i))) (sym (vertex_after-low g s i (omega arith) ∙ ap g.vertex e))
              (subst (IsFrom t' (shift_points steps (suc n)) (g.vertex s.first)) (sym (vertex_after-new g s (suc i) (ap suc e))) gap-new)
          | inr ne ↦ elim (cases_eq i (suc s.first)) [
            | inl e ↦
                subst (λ v. IsFrom t' (shift_points steps (suc n)) v (vertex_after g s (suc i))) (sym (vertex_after-new g s i e))
                (subst (IsFrom t' (shift_points steps (suc n)) g.count) (sym (vertex_after-high g s (suc i) s.last (omega arith) (omega arith) (omega arith))) wrote.q_x)
            | inr ne' ↦ gap-high i (i + s.last - (s.first + 2)) (omega arith) (omega arith) (omega arith) (omega arith)
          ]
        ]
      ]

  end-after : t'.right 1 ≡ None
  end-after =
      let o = step.order in
      let w = step.within in
      let last = stage.end (g.width - 1) (omega arith) in
      ap t'.right (sym last) ∙ kept-right (g.width - 1) (omega arith) (λ e. omega arith) (λ e x. omega arith) ∙ ap t.right last ∙ grown.end

  -- the step keeps the tree
  pub IsGrown-after : IsGrown name steps (suc n) t'
  IsGrown-after = grind (arith, covered-after, along-after, end-after, gaps-after)

-- two nodes, of which the first leads to the second
pub IsGrown-base : (name : ℕ → ℕ) (steps : ℕ → Step) (t : Links) → (t.left 0 ≡ None) × (t.left 1 ≡ None) → t.right 0 ≡ Some (name 1) → t.right 1 ≡ None → (t.x 0 ≡ pos 0) × (t.x 1 ≡ pos 0) → (t.y 0 ≡ pos 0) × (t.y 1 ≡ pos 0) → IsGrown name steps 0 t
IsGrown-base name steps t lefts first second xs ys = grind (arith, cases_eq, Some, ints)

-- where the last vertex has covered all but the base, it is the tree of offsets
pub IsOffsetTree-grown : (name : ℕ → ℕ) (steps : ℕ → Step) (n : ℕ) (t : Links) → IsRun steps (suc n) → (stage_after steps (suc n)).width ≡ 3 → IsGrown name steps (suc n) t → IsOffsetTree name steps (suc n) t
IsOffsetTree-grown name steps n t run three grown = record {
  covered = grown.covered;
  first_right = ap t.right (sym begin) ∙ grown.along 0 (omega arith) ∙ ap (λ u. Some (name u)) middle;
  last_right = ap t.right (sym middle) ∙ grown.along 1 (omega arith) ∙ ap (λ u. Some (name u)) (stage.end 2 (omega arith));
  second_right = grown.end;
  last_offset = subst (λ v. IsFrom t (shift_points steps (suc n)) v (suc n + 1)) begin (subst (IsFrom t (shift_points steps (suc n)) (g.vertex 0)) middle (grown.gaps 0 (omega arith)));
  second_offset = subst (λ v. IsFrom t (shift_points steps (suc n)) v 1) middle (subst (IsFrom t (shift_points steps (suc n)) (g.vertex 1)) (stage.end 2 (omega arith)) (grown.gaps 1 (omega arith)));
}
  where
    g : Stage
    g = stage_after steps (suc n)

    stage : IsStage g
    stage = IsStage-run steps (suc n) run

    begin : g.vertex 0 ≡ 0
    begin = stage.begin

    -- the last vertex stands between the two of the base
    middle : g.vertex 1 ≡ suc n + 1
    middle =
        let step = run n (omega arith) in
        let count = count-stage_after steps n in
        vertex_after-new (stage_after steps n) (steps n) 1 (omega (arith, step.order, step.within, three)) ∙ omega (arith, count)
