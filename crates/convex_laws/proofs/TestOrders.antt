-- No vertex counts a face in both coordinates: along a contour those that count it as one come before those that count it as two.
use Rattle.std.proofs.Common.{◌≡◌, ◌⊎◌, ℕ, zero, suc, ◌+◌, ◌-◌, ◌<◌, ◌≤◌, Bool, true, refl, sym, ap, ◌∙◌, subst, inl, inr, arith, ltb, leb}
use Rattle.std.proofs.lemmas.Bool.{cases_lt, lt-ltb, le-ltb, lt-leb, le-leb, ltb-true, leb-true, both_ways}
use Rattle.contour_runs.specs.Runs.{Stage}
use Rattle.contour_runs.specs.Laws.{IsStage}
use Rattle.contour_runs.specs.FaceRuns.{Step, stage_after, IsStep, IsRun, faces_made}
use Rattle.contour_runs.proofs.FaceRunsPlaces.{order, cut-first, cut-last, vertex_after-low, vertex_after-new, vertex_after-high, cases_place}
use Rattle.contour_runs.proofs.FaceRunsStages.{IsStage-run, IsRun-less}
use Rattle.convex_laws.proofs.FaceTests.{one_counted, two_counted, one_hits, two_hits, counted-older, counted-later, counted-hits, counted-new}

module _ (steps : ℕ → Step) where
  abbrev st : ℕ → Stage
  st k = stage_after steps k

  abbrev O : ℕ → ℕ → ℕ → Bool
  O n f v = one_counted steps n f v

  abbrev T : ℕ → ℕ → ℕ → Bool
  T n f v = two_counted steps n f v

  -- the place of an older contour of which a vertex of the next one has the test
  record From (n i : ℕ) : Type 0 where
    pub one : ℕ
    pub two : ℕ
    pub one_in : one < (st n).width
    pub two_in : two < (st n).width
    pub ones : (f : ℕ) → f < faces_made steps n → O (suc n) f ((st (suc n)).vertex i) ≡ O n f ((st n).vertex one)
    pub twos : (f : ℕ) → f < faces_made steps n → T (suc n) f ((st (suc n)).vertex i) ≡ T n f ((st n).vertex two)
    pub kind : ((i ≤ (steps n).first) × (one ≡ i) × (two ≡ i)) ⊎ ((((steps n).first < i) × (i ≤ (steps n).first + (steps n).vertices) × (one ≡ (steps n).last) × (two ≡ (steps n).first)) ⊎ (((steps n).first + (steps n).vertices < i) × ((steps n).last ≤ one) × (two ≡ one) × (i + (steps n).last ≡ one + (steps n).first + (steps n).vertices + 1)))

  from_at : (n i : ℕ) → IsStage (st n) → IsStep (st n) (steps n) → i < (st (suc n)).width → From n i
  from_at n i stage step l =
      let o = order (st n) (steps n) step in
      let g = st n in
      let s = steps n in
      elim (cases_place g s i step l) [
        | inl c ↦
            let e = vertex_after-low g s i c.low in
            let p = stage.placed i (omega arith) in
            record {
              one = i;
              two = i;
              one_in = omega arith;
              two_in = omega arith;
              ones = λ f lf. ap (O (suc n) f) e ∙ counted-older (λ s. s.last) one_hits steps n f (g.vertex i) lf p;
              twos = λ f lf. ap (T (suc n) f) e ∙ counted-older (λ s. s.first) two_hits steps n f (g.vertex i) lf p;
              kind = inl (c.low, refl, refl);
            }
        | inr (inl c) ↦
            let e = vertex_after-new g s i c.low c.high in
            record {
              one = s.last;
              two = s.first;
              one_in = step.within;
              two_in = omega arith;
              ones = λ f lf. counted-later (λ s. s.last) one_hits steps n f ((st (suc n)).vertex i) lf (omega arith);
              twos = λ f lf. counted-later (λ s. s.first) two_hits steps n f ((st (suc n)).vertex i) lf (omega arith);
              kind = inr (inl (c.low, c.high, refl, refl));
            }
        | inr (inr c) ↦ grind (arith, vertex_after-high, counted-older, one_hits, two_hits)
      ]

  one_order : (n i j : ℕ) → (steps n).first < (steps n).last → i ≤ j → (x : From n i) → (y : From n j) → x.one ≤ y.one
  one_order n i j o l x y = grind arith

  two_order : (n i j : ℕ) → (steps n).first < (steps n).last → i ≤ j → (x : From n i) → (y : From n j) → x.two ≤ y.two
  two_order n i j o l x y = grind arith

  -- of a new face those up to the first place count it as one, those from the last on as two, and the new vertices neither
  module _ (n i : ℕ) (stage : IsStage (st n)) (step : IsStep (st n) (steps n)) (li : i < (steps n).faces) where
    abbrev F : ℕ
    F = faces_made steps n + i

    bounds : ((steps n).first ≤ (steps n).turn i) × ((steps n).turn i < (steps n).last)
    bounds =
        let a = cut-first (st n) (steps n) step i (omega arith) in
        let b = cut-last (st n) (steps n) step (suc i) li in
        (omega (arith, step.low i li), omega (arith, step.high i li))

    at_older : (p q : ℕ) → p < (st n).width → (st (suc n)).vertex q ≡ (st n).vertex p → (O (suc n) F ((st (suc n)).vertex q) ≡ leb p ((steps n).turn i)) × (T (suc n) F ((st (suc n)).vertex q) ≡ ltb ((steps n).turn i) p)
    at_older p q l e = grind (arith, st, counted-hits, one_hits, leb, two_hits, ltb)

    record Known (q : ℕ) : Type 0 where
      pub one : O (suc n) F ((st (suc n)).vertex q) ≡ true → q ≤ (steps n).first
      pub one_back : q ≤ (steps n).first → O (suc n) F ((st (suc n)).vertex q) ≡ true
      pub two : T (suc n) F ((st (suc n)).vertex q) ≡ true → (steps n).first + (steps n).vertices < q
      pub two_back : (steps n).first + (steps n).vertices < q → T (suc n) F ((st (suc n)).vertex q) ≡ true

    known : (q : ℕ) → q < (st (suc n)).width → Known q
    known q l =
        let b = bounds in
        let t = (steps n).turn i in
        elim (cases_place (st n) (steps n) q step l) [
          | inl c ↦
              let h = at_older q q (omega arith) (vertex_after-low (st n) (steps n) q c.low) in
              record {
                one = λ e. c.low;
                one_back = λ e. h.0 ∙ le-leb q t (omega arith);
                two = λ e. absurd (both_ways (ltb t q) (le-ltb t q (omega arith)) (sym h.1 ∙ e));
                two_back = λ m. absurd (omega arith);
              }
          | inr (inl c) ↦ grind (arith, vertex_after-new, st, counted-new, one_hits, two_hits, both_ways)
          | inr (inr c) ↦
              let h = at_older c.from q c.within (vertex_after-high (st n) (steps n) q c.from (omega arith) c.to) in
              record {
                one = λ e. absurd (both_ways (leb c.from t) (lt-leb c.from t (omega arith)) (sym h.0 ∙ e));
                one_back = λ m. absurd (omega arith);
                two = λ e. omega arith;
                two_back = λ m. h.1 ∙ lt-ltb t c.from (omega arith);
              }
        ]

  record InOrder (n f : ℕ) : Type 0 where
    pub one : (i j : ℕ) → i ≤ j → j < (st n).width → O n f ((st n).vertex j) ≡ true → O n f ((st n).vertex i) ≡ true
    pub two : (i j : ℕ) → i ≤ j → j < (st n).width → T n f ((st n).vertex i) ≡ true → T n f ((st n).vertex j) ≡ true
    pub apart : (v : ℕ) → v < (st n).count → O n f v ≡ true → T n f v ≡ true → ⊥

  in_order : (n f : ℕ) → IsRun steps n → f < faces_made steps n → InOrder n f
  in_order zero f run l = absurd (omega arith)
  in_order (suc n) f run l =
      let less = IsRun-less steps n (suc n) (omega arith) run in
      let stage = IsStage-run steps n less in
      let step = run n (omega arith) in
      let o = order (st n) (steps n) step in
      elim (cases_lt f (faces_made steps n)) [
        | inl old ↦
            let before = in_order n f less old in
            record {
              one = λ i j a b e.
                  let x = from_at n i stage step (omega arith) in
                  let y = from_at n j stage step b in
                  x.ones f old ∙ before.one x.one y.one (one_order n i j o a x y) y.one_in (sym (y.ones f old) ∙ e);
              two = λ i j a b e.
                  let x = from_at n i stage step (omega arith) in
                  let y = from_at n j stage step b in
                  y.twos f old ∙ before.two x.two y.two (two_order n i j o a x y) y.two_in (sym (x.twos f old) ∙ e);
              apart = λ v lv e e'. elim (cases_lt v (st n).count) [
                | inl older ↦ before.apart v older (sym (counted-older (λ s. s.last) one_hits steps n f v old older) ∙ e) (sym (counted-older (λ s. s.first) two_hits steps n f v old older) ∙ e')
                | inr new ↦ grind (arith, st, counted-later, one_hits, two_hits)
              ];
            }
        | inr fresh ↦
            let i : ℕ = f - faces_made steps n in
            let is : faces_made steps n + i ≡ f = omega arith in
            let li : i < (steps n).faces = omega arith in
            subst (InOrder (suc n)) is record {
              one = λ p q a b e. let x = known n i stage step li p (omega arith) in let y = known n i stage step li q b in x.one_back (let z = y.one e in omega arith);
              two = λ p q a b e. let x = known n i stage step li p (omega arith) in let y = known n i stage step li q b in y.two_back (let z = x.two e in omega arith);
              apart = λ v lv e e'. elim (cases_lt v (st n).count) [
                | inl older ↦ grind (arith, st, ltb-true, counted-hits, two_hits, leb-true, one_hits)
                | inr new ↦ both_ways (O (suc n) (faces_made steps n + i) v) (counted-new (λ s. s.last) one_hits steps n i v new) e
              ];
            }
      ]

  pub tests_apart : (n f v : ℕ) → IsRun steps n → f < faces_made steps n → v < (st n).count → O n f v ≡ true → T n f v ≡ true → ⊥
  tests_apart n f v run l lv e e' = (in_order n f run l).apart v lv e e'
