-- Which vertices of a run lead over an edge on their ways along axis three.
use Rattle.std.proofs.Common.{◌≡◌, ◌≢◌, ◌⊎◌, ℕ, zero, suc, ◌<◌, ◌≤◌, Bool, true, false, leb, refl, sym, ap, ap₂, ◌∙◌, subst, inl, inr, arith}
use Rattle.std.proofs.lemmas.Bool.{cases_lt, cases_eq, cases_order, lt-leb, le-leb}
use Rattle.contour_runs.specs.Runs.{Stage}
use Rattle.contour_runs.specs.Laws.{IsStage}
use Rattle.contour_runs.specs.FaceRuns.{Step, stage_after, IsStep, IsRun, faces_made}
use Rattle.contour_runs.specs.FaceRunsLaws.{GoesAlong}
use Rattle.convex_counts.specs.Counts.{face_counts, two_gain, IsTurned}
use Rattle.convex_counts.specs.Contours.{IsFalling}
use Rattle.convex_counts.specs.FacePointsLaws.{IsWholeRun}
use Rattle.contour_runs.proofs.FaceRunsPlaces.{cut-lt, cut-le, cut-first, cut-last}
use Rattle.contour_runs.proofs.FaceRunsStages.{IsRun-less, count-le}
use Rattle.convex_counts.proofs.Steps.{IsFalling-run}
use Rattle.convex_counts.proofs.Gains.{gain-first, gain-second}
use Rattle.convex_counts.proofs.Kept.{KeepsFirst, KeepsSecond, KeepsSecondThird, KeepsThirdFirst, KeepsFirst-after, KeepsSecond-after, KeepsSecondThird-after, KeepsThirdFirst-after, kept_on}
use Rattle.convex_counts.proofs.Made.{first_made, second_made, second_third_made, third_first_made}
use Rattle.convex_counts.proofs.Leads.{IsOff, LeadsFrom, back, on, over, LeadsThree, covered, to_right, to_left, same_place, off_later}
use Rattle.convex_laws.specs.Walks.{flipped, is_edge}
use Rattle.convex_laws.proofs.Flips.{flipped_assoc, flipped_self}
use Rattle.convex_laws.proofs.EdgeTests.{sound, third_test, third-old, third-new, third-contour, leb_same}
use Rattle.convex_laws.proofs.WayTests.{no_edge, edge_on, edge_back, stays, changes}

-- These are the vertices whose ways along axis three pass the edge.
pub record AreThirdWays (steps : ℕ → Step) (n : ℕ) (whole : IsWholeRun steps n) (some : 0 < n) (x y : ℕ) (three : ℕ → Bool) : Type 0 where
  pub root : (v : ℕ) → suc v ≡ (stage_after steps n).count → three v ≡ false
  pub step : (v u : ℕ) → LeadsThree steps n whole some v u → three v ≡ flipped (is_edge (v, u) x y) (three u)

changes_back : (a b e : Bool) → a ≡ false → b ≡ true → e ≡ true → a ≡ flipped e b
changes_back a b e h g k = h ∙ sym (ap₂ flipped k g)

-- the place after another one, beside an edge
leb-next : (p j : ℕ) → p ≢ j → leb (suc p) j ≡ leb p j
leb-next p j ne = leb_same (suc p) j p j (λ l. omega arith) (λ l. omega arith)

module _ (steps : ℕ → Step) (n : ℕ) (whole : IsWholeRun steps n) (some : 0 < n) where
  abbrev st : ℕ → Stage
  st k = stage_after steps k

  abbrev run : IsRun steps n
  run = whole.turned.run

  stage_at : (k : ℕ) → k ≤ n → IsStage (st k)
  stage_at k l = sound steps n run k l

  fall_at : (k : ℕ) → k < n → IsFalling (st k) (face_counts steps k) (faces_made steps k)
  fall_at k l = IsFalling-run steps k (IsRun-less steps k n (omega arith) run)

  places : (m i j : ℕ) → m ≤ n → i < (st m).width → j < (st m).width → (st m).vertex i ≡ (st m).vertex j → i ≡ j
  places m i j l a b e = same_place steps n whole some m l i j a b e

  -- what is covered has from then on the place of the vertex to which it leads
  together : (k m p u : ℕ) → k < m → m ≤ n → (steps k).first < p → p < (steps k).last → LeadsFrom steps n whole some k p u → (st m).place ((st k).vertex p) ≡ (st m).place u
  together k m p u km mn lo hi h =
      let step = run k (omega arith) in
      let stage = stage_at k (omega arith) in
      let v = stage.placed p (omega arith) in
      go step stage (fall_at k (omega arith)) (whole.turned.turned k (omega arith)) step.within (IsRun-less steps m n mn run) v h
    where
      go : (step : IsStep (st k) (steps k)) (stage : IsStage (st k)) (fall : IsFalling (st k) (face_counts steps k) (faces_made steps k)) (well : IsTurned (st k) (face_counts steps k) (steps k)) → (steps k).last < (st k).width → IsRun steps m → (st k).vertex p < (st k).count → LeadsFrom steps n whole some k p u → (st m).place ((st k).vertex p) ≡ (st m).place u
      go step stage fall well w part v (back i q li a b e f) =
          let lq = stage.placed q (omega arith) in
          let made = first_made (st k) (steps k) (face_counts steps k) (faces_made steps k) stage step fall well i li q p (omega arith) (omega arith) b in
          let kept = kept_on KeepsFirst KeepsFirst-after steps m k ((st k).vertex q) ((st k).vertex p) part km (omega arith) (omega arith) made in
          kept.place ∙ ap (st m).place f
      go step stage fall well w part v (on i li a b f) =
          let lq = stage.placed (suc p) (omega arith) in
          let made = second_made (st k) (steps k) (face_counts steps k) (faces_made steps k) stage step fall well i li p (suc p) a (omega arith) (omega arith) in
          let kept = kept_on KeepsSecond KeepsSecond-after steps m k ((st k).vertex p) ((st k).vertex (suc p)) part km (omega arith) (omega arith) made in
          sym kept.place ∙ ap (st m).place f
      go step stage fall well w part v (over zero li a b f) = absurd (omega arith)
      go step stage fall well w part v (over (suc i) li a b f) =
          let t = step.high i (omega arith) in
          let t' = step.low (suc i) li in
          let c = (st k).count in
          let made = third_first_made (st k) (steps k) (face_counts steps k) (faces_made steps k) stage step fall well (suc i) li c p (omega arith) (omega arith) (omega arith) (omega arith) in
          let made' = second_third_made (st k) (steps k) (face_counts steps k) (faces_made steps k) stage step fall well i (omega arith) p c (omega arith) (omega arith) (omega arith) (omega arith) in
          let kept = kept_on KeepsThirdFirst KeepsThirdFirst-after steps m k c ((st k).vertex p) part km (omega arith) (omega arith) made in
          let kept' = kept_on KeepsSecondThird KeepsSecondThird-after steps m k ((st k).vertex p) c part km (omega arith) (omega arith) made' in
          let e : (st m).place ((st k).vertex p) ≡ (st m).place c = omega arith in
          e ∙ ap (st m).place (sym f)

  -- no turn stands where a covered vertex leads away from
  module _ (m : ℕ) (lm : m < n) where
    abbrev s : Step
    s = steps m

    abbrev g : Stage
    g = st m

    step_at : IsStep g s
    step_at = run m lm

    not_turn_back : (i q i' : ℕ) → i < s.faces → i' < s.faces → s.cut i ≤ q → q < s.turn i → q ≢ s.turn i'
    not_turn_back i q i' li li' a b e =
        let y = gain-first g s step_at i' (s.turn i') li' (step_at.low i' li') (omega arith) in
        omega (arith, ap s.turn (sym (gain-first g s step_at i q li a (omega arith)) ∙ ap (two_gain s) e ∙ y))

    not_turn_on : (i p i' : ℕ) → i < s.faces → i' < s.faces → s.turn i < p → p < s.cut (suc i) → p ≢ s.turn i'
    not_turn_on i p i' li li' a b e =
        let t = step_at.low i' li' in
        let y = gain-first g s step_at i' (s.turn i') li' t (omega arith) in
        omega (arith, ap s.cut (sym (gain-second g s step_at i p li a (omega arith)) ∙ ap (two_gain s) e ∙ y))

  -- An edge that the step m covers, or that lies between two of its faces; the test `c` says of a covered place whether its way along axis three passes the edge.
  pub record IsDone (m x y : ℕ) (c : ℕ → Bool) : Type 0 where
    pub earlier : m < n
    pub outside : (p : ℕ) → (p ≤ (steps m).first) ⊎ ((steps m).last ≤ p) → c p ≡ false
    pub clear_x : (v : ℕ) → v < (st m).count → IsOff (st m) v → v ≢ x
    pub clear_y : (v : ℕ) → v < (st m).count → IsOff (st m) v → v ≢ y
    pub small_x : x < (st (suc m)).count
    pub small_y : y < (st (suc m)).count
    pub gone : (l p : ℕ) → m < l → l ≤ n → ¬ GoesAlong (st l) x y p
    pub gone_back : (l p : ℕ) → m < l → l ≤ n → ¬ GoesAlong (st l) y x p
    pub here : (p u : ℕ) → (steps m).first < p → p < (steps m).last → LeadsFrom steps n whole some m p u → c p ≡ flipped (is_edge ((st m).vertex p, u) x y) (third_test steps m c u)

  module _ (m x y : ℕ) (c : ℕ → Bool) (d : IsDone m x y c) where
    abbrev third : ℕ → Bool
    third v = third_test steps m c v

    old : (v : ℕ) → v < (st m).count → third v ≡ c ((st m).place v)
    old v l = third-old steps n run m d.earlier c d.outside v l

    new : (v : ℕ) → (st m).count ≤ v → third v ≡ false
    new v l = third-new steps n run m d.earlier c d.outside v l

    contour : (l p v : ℕ) → m < l → l ≤ n → p < (st l).width → (st l).vertex p ≡ v → third v ≡ false
    contour l p v a b lp e = ap third (sym e) ∙ third-contour steps n run m d.earlier c d.outside l p a b lp

    -- two neighbours of a later contour
    apart : (l p v u : ℕ) → m < l → l ≤ n → suc p < (st l).width → (st l).vertex p ≡ v → (st l).vertex (suc p) ≡ u → (is_edge (v, u) x y ≡ false) × (is_edge (u, v) x y ≡ false)
    apart l p v u a b lp e f = grind (arith, GoesAlong, st, no_edge)

    later_from : (k p u : ℕ) → m < k → k < n → (steps k).first < p → p < (steps k).last → LeadsFrom steps n whole some k p u → third ((st k).vertex p) ≡ flipped (is_edge ((st k).vertex p, u) x y) (third u)
    later_from k p u a b lo hi (back i q li c1 c2 e f) = grind (arith, run, st, stays, third, is_edge, contour, apart)
    later_from k p u a b lo hi (on i li c1 c2 f) = grind (arith, run, st, stays, third, is_edge, contour, apart)
    later_from k p u a b lo hi (over i li c1 c2 f) =
        let w = (run k b).within in
        let v = (st k).vertex p in
        let q = count-le steps (suc m) k a in
        stays (third v) (third u) (is_edge (v, u) x y) (contour k p v a (omega arith) (omega arith) refl ∙ sym (new u (omega arith)))
        (no_edge v u x y (λ ev eu. omega arith) (λ ev eu. omega arith))

    placed_from : (k p u : ℕ) → k < n → (steps k).first < p → p < (steps k).last → LeadsFrom steps n whole some k p u → u < (st (suc k)).count
    placed_from k p u l lo hi (back i q li c1 c2 e f) = let w = (run k l).within in let z = (stage_at k (omega arith)).placed q (omega arith) in omega arith
    placed_from k p u l lo hi (on i li c1 c2 f) = let w = (run k l).within in let z = (stage_at k (omega arith)).placed (suc p) (omega arith) in omega arith
    placed_from k p u l lo hi (over i li c1 c2 f) = let z = (run k l).some_vertex in omega arith

    earlier_from : (k p u : ℕ) → k < m → (steps k).first < p → p < (steps k).last → LeadsFrom steps n whole some k p u → third ((st k).vertex p) ≡ flipped (is_edge ((st k).vertex p, u) x y) (third u)
    earlier_from k p u a lo hi h =
        let w = (run k (omega arith)).within in
        let v = (st k).vertex p in
        let q = count-le steps (suc k) m a in
        let lv = (stage_at k (omega arith)).placed p (omega arith) in
        let lu = placed_from k p u (omega arith) lo hi h in
        let off = off_later steps n whole some k m p v a (omega arith) lo hi refl in
        stays (third v) (third u) (is_edge (v, u) x y) (old v (omega arith) ∙ (ap c (together k m p u a (omega arith) lo hi h) ∙ sym (old u (omega arith))))
        (no_edge v u x y (λ ev eu. (d.clear_x v (omega arith) off) ev) (λ ev eu. (d.clear_y v (omega arith) off) ev))

    here_from : (k p u : ℕ) → m ≡ k → (steps k).first < p → p < (steps k).last → LeadsFrom steps n whole some k p u → third ((st k).vertex p) ≡ flipped (is_edge ((st k).vertex p, u) x y) (third u)
    here_from k p u same lo hi h =
        let to : (z : ℕ) → Type 0 = λ z. (steps z).first < p → p < (steps z).last → LeadsFrom steps n whole some z p u → third ((st z).vertex p) ≡ flipped (is_edge ((st z).vertex p, u) x y) (third u) in
        (subst to same (λ a b f.
        let w = (run m d.earlier).within in
        let stage = stage_at m (omega arith) in
        old ((st m).vertex p) (stage.placed p (omega arith)) ∙ (ap c (stage.own p (omega arith)) ∙ d.here p u a b f))) lo hi h

    from_at : (k p u : ℕ) → k < n → (steps k).first < p → p < (steps k).last → LeadsFrom steps n whole some k p u → third ((st k).vertex p) ≡ flipped (is_edge ((st k).vertex p, u) x y) (third u)
    from_at k p u l lo hi h = elim (cases_order m k) [
      | inl same ↦ here_from k p u same lo hi h
      | inr (inl after) ↦ later_from k p u after l lo hi h
      | inr (inr before) ↦ earlier_from k p u before lo hi h
    ]

    steps_three : (v u : ℕ) → LeadsThree steps n whole some v u → third v ≡ flipped (is_edge (v, u) x y) (third u)
    steps_three v u (covered k p l a b e h) = subst (λ v. third v ≡ flipped (is_edge (v, u) x y) (third u)) e (from_at k p u l a b h)
    steps_three v u (to_right p a e f) =
        let l = d.earlier in
        stays (third v) (third u) (is_edge (v, u) x y) (contour n p v l (omega arith) (omega arith) e ∙ sym (contour n (suc p) u l (omega arith) (omega arith) f)) (apart n p v u l (omega arith) (omega arith) e f).0
    steps_three v u (to_left p a b e f) =
        let l = d.earlier in
        stays (third v) (third u) (is_edge (v, u) x y) (contour n (suc p) v l (omega arith) b e ∙ sym (contour n p u l (omega arith) (omega arith) f)) (apart n p u v l (omega arith) b f e).1

    pub ways_done : AreThirdWays steps n whole some x y (third_test steps m c)
    ways_done = record {
      root = λ v e. let z = whole.last in contour n whole.top v d.earlier (omega arith) whole.within (omega arith);
      step = steps_three;
    }

  -- an edge of the contour that a step covers
  module _ (m j i : ℕ) (lm : m < n) (li : i < (steps m).faces) (low : (steps m).cut i ≤ j) (high : j < (steps m).cut (suc i)) where
    abbrev x : ℕ
    x = (st m).vertex j

    abbrev y : ℕ
    y = (st m).vertex (suc j)

    abbrev pub over_test : ℕ → Bool
    over_test p = flipped (leb p j) (leb p ((steps m).turn i))

    bounds : (suc j < (st m).width) × (x < (st m).count) × (y < (st m).count) × ((steps m).first ≤ j) × (j < (steps m).last)
    bounds =
        let step = run m lm in
        let stage = stage_at m (omega arith) in
        let a = cut-first (st m) (steps m) step i (omega arith) in
        let b = cut-last (st m) (steps m) step (suc i) li in
        (omega arith, stage.placed j (omega arith), stage.placed (suc j) (omega arith), omega arith, omega arith)

    pub over_outside : (p : ℕ) → (p ≤ (steps m).first) ⊎ ((steps m).last ≤ p) → over_test p ≡ false
    over_outside p (inl l) =
        let step = run m lm in
        let a = cut-first (st m) (steps m) step i (omega arith) in
        ap₂ flipped (le-leb p j (omega arith)) (le-leb p ((steps m).turn i) (omega (arith, step.low i li)))
    over_outside p (inr l) =
        let step = run m lm in
        let b = cut-last (st m) (steps m) step (suc i) li in
        ap₂ flipped (lt-leb p j (omega arith)) (lt-leb p ((steps m).turn i) (omega (arith, step.high i li)))

    over_old : (q u : ℕ) → q < (st m).width → (st m).vertex q ≡ u → third_test steps m over_test u ≡ over_test q
    over_old q u l e =
        let stage = stage_at m (omega arith) in
        ap (λ v. third_test steps m over_test v) (sym e) ∙ (third-old steps n run m lm over_test over_outside ((st m).vertex q) (stage.placed q l) ∙ ap over_test (stage.own q l))

    over_here : (p u : ℕ) → (steps m).first < p → p < (steps m).last → LeadsFrom steps n whole some m p u → over_test p ≡ flipped (is_edge ((st m).vertex p, u) x y) (third_test steps m over_test u)
    over_here p u lo hi (back i' q li' a b e f) =
        let w = (run m lm).within in
        let bd = bounds.0 in
        let v = (st m).vertex p in
        let edge = is_edge (v, u) x y in
        let t = (steps m).turn i in
        let turns : leb p t ≡ leb q t = ap (λ p. leb p t) (sym e) ∙ leb-next q t (not_turn_back m lm i' q i li' li (omega arith) (omega arith)) in
        let flips : leb p j ≡ flipped edge (leb q j) = grind (arith, leb, flipped, cases_eq, changes_back, lt-leb, le-leb, edge_back, st, stays, leb-next, no_edge, places) in
        ap₂ flipped flips turns ∙ (sym (flipped_assoc edge (leb q j) (leb q t)) ∙ ap (flipped edge) (sym (over_old q u (omega arith) f)))
    over_here p u lo hi (on i' li' a b f) =
        let w = (run m lm).within in
        let bd = bounds.0 in
        let v = (st m).vertex p in
        let edge = is_edge (v, u) x y in
        let t = (steps m).turn i in
        let q : ℕ = suc p in
        let turns : leb p t ≡ leb q t = sym (leb-next p t (not_turn_on m lm i' p i li' li a b)) in
        let flips : leb p j ≡ flipped edge (leb q j) = grind (arith, leb, flipped, cases_eq, changes, le-leb, lt-leb, edge_on, st, stays, leb-next, no_edge, places) in
        ap₂ flipped flips turns ∙ (sym (flipped_assoc edge (leb q j) (leb q t)) ∙ ap (flipped edge) (sym (over_old q u (omega arith) f)))
    over_here p u lo hi (over i' li' a b f) =
        let step = run m lm in
        let v = (st m).vertex p in
        let bd = bounds in
        let t = (steps m).turn i in
        let tl = step.low i li in
        let th = step.high i li in
        let same : leb p j ≡ leb p t = elim (cases_lt i i') [
          | inl above ↦ let z = cut-le (st m) (steps m) step (suc i) i' above (omega arith) in lt-leb p j (omega arith) ∙ sym (lt-leb p t (omega arith))
          | inr below ↦ let z = cut-le (st m) (steps m) step i' i below (omega arith) in le-leb p j (omega arith) ∙ sym (le-leb p t (omega arith))
        ] in
        stays (over_test p) (third_test steps m over_test u) (is_edge (v, u) x y)
        (ap (λ z. flipped z (leb p t)) same ∙ (flipped_self (leb p t) ∙ sym (third-new steps n run m lm over_test over_outside u (omega arith))))
        (no_edge v u x y (λ ev eu. omega arith) (λ ev eu. omega arith))

    pub over_done : ((l p : ℕ) → m < l → l ≤ n → ¬ GoesAlong (st l) x y p) → ((l p : ℕ) → m < l → l ≤ n → ¬ GoesAlong (st l) y x p) → IsDone m x y over_test
    over_done gone gone_back =
        let bd = bounds in
        record {
          earlier = lm;
          outside = over_outside;
          clear_x = λ v l off e. off j (omega arith) (sym e);
          clear_y = λ v l off e. off (suc j) bd.0 (sym e);
          small_x = omega arith;
          small_y = omega arith;
          gone = gone;
          gone_back = gone_back;
          here = over_here;
        }

  -- an edge between two faces of a step
  module _ (m i : ℕ) (lm : m < n) (li : suc i < (steps m).faces) where
    abbrev mx : ℕ
    mx = (st m).vertex ((steps m).cut (suc i))

    abbrev my : ℕ
    my = (st m).count

    abbrev pub middle_test : ℕ → Bool
    middle_test p = flipped (leb p ((steps m).turn i)) (leb p ((steps m).turn (suc i)))

    middle_bounds : ((steps m).cut (suc i) < (st m).width) × (mx < (st m).count)
    middle_bounds =
        let step = run m lm in
        let b = cut-last (st m) (steps m) step (suc i) (omega arith) in
        (omega arith, (stage_at m (omega arith)).placed ((steps m).cut (suc i)) (omega arith))

    pub middle_outside : (p : ℕ) → (p ≤ (steps m).first) ⊎ ((steps m).last ≤ p) → middle_test p ≡ false
    middle_outside p (inl l) =
        let step = run m lm in
        let a = cut-first (st m) (steps m) step i (omega arith) in
        let a' = cut-first (st m) (steps m) step (suc i) (omega arith) in
        let t' = step.low (suc i) li in
        ap₂ flipped (le-leb p ((steps m).turn i) (omega (arith, step.low i (omega arith)))) (le-leb p ((steps m).turn (suc i)) (omega arith))
    middle_outside p (inr l) =
        let step = run m lm in
        let b = cut-last (st m) (steps m) step (suc i) (omega arith) in
        let b' = cut-last (st m) (steps m) step (suc (suc i)) li in
        let t' = step.high (suc i) li in
        ap₂ flipped (lt-leb p ((steps m).turn i) (omega (arith, step.high i (omega arith)))) (lt-leb p ((steps m).turn (suc i)) (omega arith))

    middle_old : (q u : ℕ) → q < (st m).width → (st m).vertex q ≡ u → third_test steps m middle_test u ≡ middle_test q
    middle_old q u l e =
        let stage = stage_at m (omega arith) in
        ap (λ v. third_test steps m middle_test v) (sym e) ∙ (third-old steps n run m lm middle_test middle_outside ((st m).vertex q) (stage.placed q l) ∙ ap middle_test (stage.own q l))

    middle_here : (p u : ℕ) → (steps m).first < p → p < (steps m).last → LeadsFrom steps n whole some m p u → middle_test p ≡ flipped (is_edge ((st m).vertex p, u) mx my) (third_test steps m middle_test u)
    middle_here p u lo hi (back i' q li' a b e f) =
        let w = (run m lm).within in
        let stage = stage_at m (omega arith) in
        let v = (st m).vertex p in
        let t = (steps m).turn i in
        let t' = (steps m).turn (suc i) in
        let one : leb p t ≡ leb q t = ap (λ p. leb p t) (sym e) ∙ leb-next q t (not_turn_back m lm i' q i li' (omega arith) (omega arith) (omega arith)) in
        let two : leb p t' ≡ leb q t' = ap (λ p. leb p t') (sym e) ∙ leb-next q t' (not_turn_back m lm i' q (suc i) li' li (omega arith) (omega arith)) in
        stays (middle_test p) (third_test steps m middle_test u) (is_edge (v, u) mx my) (ap₂ flipped one two ∙ sym (middle_old q u (omega arith) f)) (no_edge v u mx my (λ ev eu. omega arith) (λ ev eu. omega arith))
    middle_here p u lo hi (on i' li' a b f) =
        let w = (run m lm).within in
        let stage = stage_at m (omega arith) in
        let v = (st m).vertex p in
        let t = (steps m).turn i in
        let t' = (steps m).turn (suc i) in
        let one : leb p t ≡ leb (suc p) t = sym (leb-next p t (not_turn_on m lm i' p i li' (omega arith) a b)) in
        let two : leb p t' ≡ leb (suc p) t' = sym (leb-next p t' (not_turn_on m lm i' p (suc i) li' li a b)) in
        stays (middle_test p) (third_test steps m middle_test u) (is_edge (v, u) mx my) (ap₂ flipped one two ∙ sym (middle_old (suc p) u (omega arith) f)) (no_edge v u mx my (λ ev eu. omega arith) (λ ev eu. omega arith))
    middle_here p u lo hi (over i' li' a b f) =
        let step = run m lm in
        let v = (st m).vertex p in
        let lv = (stage_at m (omega arith)).placed p (omega arith) in
        let wx = middle_bounds.0 in
        let t = (steps m).turn i in
        let t' = (steps m).turn (suc i) in
        let tl = step.low i (omega arith) in
        let th = step.high i (omega arith) in
        let tl' = step.low (suc i) li in
        let th' = step.high (suc i) li in
        let none = third-new steps n run m lm middle_test middle_outside u (omega arith) in
        elim (cases_order i' (suc i)) [
          | inl same ↦
              let z = ap (steps m).cut same in
              changes (middle_test p) (third_test steps m middle_test u) (is_edge (v, u) mx my) (ap₂ flipped (lt-leb p t (omega arith)) (le-leb p t' (omega arith))) none (edge_on v u mx my (ap (st m).vertex (b ∙ z)) f)
          | inr (inl below) ↦
              let z' = cut-le (st m) (steps m) step i' i (omega arith) (omega arith) in
              stays (middle_test p) (third_test steps m middle_test u) (is_edge (v, u) mx my) (ap₂ flipped (le-leb p t (omega arith)) (le-leb p t' (omega arith)) ∙ sym none)
              (no_edge v u mx my (λ ev eu. let k = places m p ((steps m).cut (suc i)) (omega arith) (omega arith) wx ev in omega arith) (λ ev eu. omega arith))
          | inr (inr above) ↦
              let z' = cut-le (st m) (steps m) step (suc (suc i)) i' above (omega arith) in
              stays (middle_test p) (third_test steps m middle_test u) (is_edge (v, u) mx my) (ap₂ flipped (lt-leb p t (omega arith)) (lt-leb p t' (omega arith)) ∙ sym none)
              (no_edge v u mx my (λ ev eu. let k = places m p ((steps m).cut (suc i)) (omega arith) (omega arith) wx ev in omega arith) (λ ev eu. omega arith))
        ]

    pub middle_done : ((l p : ℕ) → m < l → l ≤ n → ¬ GoesAlong (st l) mx my p) → ((l p : ℕ) → m < l → l ≤ n → ¬ GoesAlong (st l) my mx p) → IsDone m mx my middle_test
    middle_done gone gone_back =
        record {
          earlier = lm;
          outside = middle_outside;
          clear_x = λ v l off e. off ((steps m).cut (suc i)) middle_bounds.0 (sym e);
          clear_y = λ v l off e. omega arith;
          small_x = omega (arith, middle_bounds.1);
          small_y = omega (arith, (run m lm).some_vertex);
          gone = gone;
          gone_back = gone_back;
          here = middle_here;
        }

  -- an edge of the last contour
  module _ (x y j : ℕ) (along : GoesAlong (st n) x y j) where
    abbrev pub last_test : ℕ → Bool
    last_test v = flipped (leb ((st n).place v) j) (leb whole.top j)

    last_at : (p v : ℕ) → p < (st n).width → (st n).vertex p ≡ v → last_test v ≡ flipped (leb p j) (leb whole.top j)
    last_at p v l e = ap (λ z. flipped (leb z j) (leb whole.top j)) (ap (st n).place (sym e) ∙ (stage_at n (omega arith)).own p l)

    last_step : (p q v u : ℕ) → p < (st n).width → q < (st n).width → (st n).vertex p ≡ v → (st n).vertex q ≡ u → leb p j ≡ flipped (is_edge (v, u) x y) (leb q j) → last_test v ≡ flipped (is_edge (v, u) x y) (last_test u)
    last_step p q v u lp lq e f h =
        let t = leb whole.top j in
        last_at p v lp e ∙ (ap (λ z. flipped z t) h ∙ (sym (flipped_assoc (is_edge (v, u) x y) (leb q j) t) ∙ ap (flipped (is_edge (v, u) x y)) (sym (last_at q u lq f))))

    last_steps : (v u : ℕ) → LeadsThree steps n whole some v u → last_test v ≡ flipped (is_edge (v, u) x y) (last_test u)
    last_steps v u (covered k p l a b e h) =
        let off = off_later steps n whole some k n p v l (omega arith) a b e in
        stays (last_test v) (last_test u) (is_edge (v, u) x y) (ap (λ z. flipped (leb z j) (leb whole.top j)) (ap (st n).place (sym e) ∙ together k n p u l (omega arith) a b h))
        (no_edge v u x y (λ ev eu. off j (omega arith) (along.tail ∙ sym ev)) (λ ev eu. off (suc j) along.within (along.head ∙ sym ev)))
    last_steps v u (to_right p a e f) = grind (arith, last_step, cases_eq, changes, leb, is_edge, le-leb, lt-leb, edge_on, st, stays, leb-next, no_edge)
    last_steps v u (to_left p a b e f) = grind (arith, last_step, cases_eq, changes_back, leb, is_edge, lt-leb, le-leb, edge_back, st, stays, leb-next, no_edge)

    pub ways_last : AreThirdWays steps n whole some x y last_test
    ways_last = record {
      root = λ v e. let z = whole.last in last_at whole.top v whole.within (omega arith) ∙ flipped_self (leb whole.top j);
      step = last_steps;
    }
