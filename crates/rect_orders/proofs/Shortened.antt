-- A run whose last step covers all but the base, with that step a place shorter.
use Rattle.std.proofs.Common.{◌≡◌, ◌≢◌, ◌↔◌, ℕ, zero, suc, ◌+◌, ◌-◌, ◌<◌, ◌≤◌, eqb, refl, sym, ap, ap₂, ◌∙◌, subst, inl, inr, arith, eq-eqb, ne_eqb}
use Rattle.std.proofs.lemmas.Bool.{cases_eq, cases_lt, cond-true, cond-false}
use Rattle.contour_runs.specs.Runs.{Step, Stage, after, stage_after, IsStep, IsRun, IsCovered}
use Rattle.contour_runs.specs.Laws.{IsStage}
use Rattle.contour_runs.proofs.Stages.{IsStage-run, IsRun-less, count-stage_after, covered_gone}
use Rattle.contour_runs.proofs.Places.{place_after-new}
use Rattle.rect_runs.specs.Later.{StandsOver, HaveTwoLater}
use Rattle.rect_runs.proofs.Later.{two_later_sort}
use Rattle.rect_runs.specs.Boxes.{IsRectRun}
use Rattle.rect_runs.specs.RectBoxesLaws.{AreJoined}
use Rattle.rect_orders.specs.Runs.{shortened}

-- a vertex over which a step is put is not covered before
pub over_not_covered : (steps : ℕ → Step) (n k m u v : ℕ) → IsRun steps n → m < n → IsCovered steps k u → StandsOver steps m u v → m ≤ k
over_not_covered steps n k m u v run l covered over =
    elim (cases_lt k m) [
      | inr le ↦ le
      | inl less ↦
          let stage = IsStage-run steps m (IsRun-less steps m n (omega arith) run) in
          let w = (run m l).within in
          let hi = over.high in
          let own = stage.own over.place (omega arith) in
          absurd (covered_gone steps k m u (IsRun-less steps m n (omega arith) run) less covered (ap (stage_after steps m).vertex (ap (stage_after steps m).place (sym over.vertex) ∙ own) ∙ over.vertex))
    ]

-- where each vertex that is covered has two others put over it, one of them comes before the one that covers it
pub HaveTwoLater-from : (steps : ℕ → Step) (n : ℕ) → IsRun steps n → ((k v : ℕ) → k < n → IsCovered steps k v → (a : ℕ) × (b : ℕ) × (a ≢ b) × (a < n) × (b < n) × StandsOver steps a v (a + 2) × StandsOver steps b v (b + 2)) → HaveTwoLater steps n
HaveTwoLater-from steps n run two k v l c =
    let h = two k v l c in
    let a = h.0 in
    let b = h.1 in
    let ne = h.2 in
    let u = over_not_covered steps n k a v (a + 2) run h.3 c h.5 in
    let w = over_not_covered steps n k b v (b + 2) run h.4 c h.6 in
    elim (cases_lt a k) [
      | inl less ↦ (a, less, h.5)
      | inr more ↦ (b, (elim (cases_lt b k) [ inl less ↦ less | inr more' ↦ absurd (ne (omega arith)) ]), h.6)
    ]

module _ (steps : ℕ → Step) (n : ℕ) (whole : IsRun steps (suc n)) (some : 2 ≤ n) (end : (stage_after steps (suc n)).width ≡ 3) where
  abbrev short : ℕ → Step
  short = shortened steps n

  pub short-old : (k : ℕ) → k < n → short k ≡ steps k
  short-old k l = cond-false (eqb k n) (record { first = (steps k).first; last = (steps k).last - 1 }) (steps k) (ne_eqb k n (λ e. omega (arith, l, e)))

  pub short-last : short n ≡ record { first = (steps n).first; last = (steps n).last - 1 }
  short-last = cond-true (eqb n n) (record { first = (steps n).first; last = (steps n).last - 1 }) (steps n) (eq-eqb n n refl)

  pub stage-same : (k : ℕ) → k ≤ n → stage_after short k ≡ stage_after steps k
  stage-same zero l = refl
  stage-same (suc k) l = ap₂ after (stage-same k (omega arith)) (short-old k (omega arith))

  -- the last step is put on over all of the contour
  pub last_over_all : ((steps n).first ≡ 0) × (suc (steps n).last ≡ (stage_after steps n).width)
  last_over_all =
      let o = (whole n (omega arith)).order in
      let w = (whole n (omega arith)).within in
      (omega arith, omega arith)

  -- which is wide
  pub wide : (m : ℕ) → suc m ≡ n → 3 ≤ (stage_after steps n).width
  wide m e =
      let w = (whole m (omega arith)).within in
      subst (λ k. 3 ≤ (stage_after steps k).width) e (omega (arith, w))

  pub short_run : IsRun short (suc n)
  short_run k l = grind (arith, cases_eq, last_over_all, wide, Step, short-last, Stage, stage-same, IsStep, stage_after, short, short-old)

  -- what is put over what, but for the last over the second of the base
  over-old : (k u v : ℕ) → k < n → StandsOver steps k u v → StandsOver short k u v
  over-old k u v l h = grind (arith, short-old, stage-same)

  over-short : (k u v : ℕ) → k < n → StandsOver short k u v → StandsOver steps k u v
  over-short k u v l h = grind (arith, short-old, stage-same)

  sound : (k : ℕ) → k ≤ suc n → IsStage (stage_after steps k)
  sound k l = IsStage-run steps k (IsRun-less steps k (suc n) l whole)

  -- the last place of the last contour alone has the second vertex of the base
  second_last : (i : ℕ) → i < (stage_after steps n).width → (stage_after steps n).vertex i ≡ 1 → i ≡ (steps n).last
  second_last i l e =
      let g = sound n (omega arith) in
      let lo = last_over_all.1 in
      let end = g.end (steps n).last lo in
      sym (g.own i l) ∙ (ap (stage_after steps n).place (e ∙ sym end) ∙ g.own (steps n).last (omega arith))

  -- who is joined, but for those two
  pub joined-short : (u v : ℕ) → AreJoined short (suc n) u v ↔ (AreJoined steps (suc n) u v × ¬ ((u ≡ 1) × (v ≡ n + 2)))
  joined-short u v = (to, from)
    where
      lo : (short n).first ≤ (steps n).first × ((steps n).first ≤ (short n).first) × (suc (short n).last ≡ (steps n).last)
      lo =
          let first = ap Step.first short-last in
          let last = ap Step.last short-last in
          let o = (whole n (omega arith)).order in
          (omega arith, omega arith, omega arith)

      g : stage_after short n ≡ stage_after steps n
      g = stage-same n (omega arith)

      in_last : (h : StandsOver short n u v) → StandsOver steps n u v × ¬ ((u ≡ 1) × (v ≡ n + 2))
      in_last h =
          let low = h.low in
          let high = h.high in
          let l = lo in
          let at : (stage_after steps n).vertex h.place ≡ u = sym (ap (λ g. g.vertex h.place) g) ∙ h.vertex in
          let w = last_over_all.1 in (
            record { new = h.new; place = h.place; low = omega arith; high = omega arith; vertex = at },
            λ e. (let q = second_last h.place (omega arith) (at ∙ e.0) in omega arith),
          )

      to : AreJoined short (suc n) u v → AreJoined steps (suc n) u v × ¬ ((u ≡ 1) × (v ≡ n + 2))
      to (inl b) = (inl b, λ e. omega (arith, b.0, e.0))
      to (inr (k, l, h)) =
          elim (cases_eq k n) [
            | inl e ↦ let o = in_last (subst (λ k. StandsOver short k u v) e h) in (inr (n, omega arith, o.0), o.1)
            | inr ne ↦ let new = h.new in (inr (k, l, over-short k u v (omega arith) h), λ e. omega (arith, e.1, new))
          ]

      from : AreJoined steps (suc n) u v × ¬ ((u ≡ 1) × (v ≡ n + 2)) → AreJoined short (suc n) u v
      from (inl b, ne) = inl b
      from (inr (k, l, h), ne) =
          elim (cases_eq k n) [
            | inr nk ↦ inr (k, l, over-old k u v (omega arith) h)
            | inl e ↦
                let h' = subst (λ k. StandsOver steps k u v) e h in
                let low = h'.low in
                let high = h'.high in
                let b = lo in
                inr (
                  n,
                  omega arith,
                  record {
                    new = h'.new;
                    place = h'.place;
                    low = omega arith;
                    high = grind (arith, cases_lt, stage_after, sound, last_over_all);
                    vertex = ap (λ g. g.vertex h'.place) g ∙ h'.vertex;
                  },
                )
          ]

  -- the vertex put on last but one, over the second of the base, is not covered
  pub right_uncovered : ((k : ℕ) → suc k ≡ n → suc (steps k).last ≡ (stage_after steps k).width) → IsCovered short n (n + 1) → ⊥
  right_uncovered right c =
      let m : ℕ = n - 1 in
      let e : suc m ≡ n = omega arith in
      let last = right m e in
      let w = (whole m (omega arith)).within in
      let new : (stage_after steps (suc m)).place (m + 2) ≡ suc (steps m).first = place_after-new (stage_after steps m) (steps m) (m + 2) (sym (count-stage_after steps m)) in
      let width : (stage_after steps (suc m)).width ≡ suc (suc (suc (steps m).first)) = omega arith in
      let width' : (stage_after steps n).width ≡ suc (suc (suc (steps m).first)) = ap (λ k. (stage_after steps k).width) (sym e) ∙ width in
      let f : n + 1 ≡ m + 2 = omega arith in
      let place : (stage_after steps n).place (n + 1) ≡ suc (steps m).first = ap (λ k. (stage_after steps k).place (n + 1)) (sym e) ∙ (ap (stage_after steps (suc m)).place f ∙ new) in
      let short_end = ap Step.last short-last in
      let hi = c.high in
      let over = last_over_all.1 in
      let at : (stage_after steps n).vertex c.place ≡ n + 1 = sym (ap (λ g. g.vertex c.place) (stage-same n (omega arith))) ∙ c.vertex in
      let own = (sound n (omega arith)).own c.place (omega arith) in
      let same : (stage_after steps n).place (n + 1) ≡ c.place = ap (stage_after steps n).place (sym at) ∙ own in
      omega (arith, same, place, width', short_end, hi, over)

  -- so it is a run that boxes can be made of
  pub IsRectRun-short : ((k : ℕ) → suc k ≡ n → suc (steps k).last ≡ (stage_after steps k).width) → HaveTwoLater short (suc n) → IsRectRun short n
  IsRectRun-short right two = grind (arith, last_over_all, Stage, stage-same, Step, short-last, two_later_sort, short, short_run, short-old)
