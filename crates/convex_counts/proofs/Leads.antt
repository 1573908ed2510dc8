-- The edges that lead out of a vertex, one along each axis.
use Rattle.std.proofs.Common.{◌≡◌, ◌≢◌, ℕ, suc, ◌+◌, ◌<◌, ◌≤◌, refl, sym, ap, ◌∙◌, subst, inl, inr, arith}
use Rattle.std.proofs.lemmas.Bool.{cases_order}
use Rattle.contour_runs.specs.Runs.{Stage}
use Rattle.contour_runs.specs.Laws.{IsStage}
use Rattle.contour_runs.proofs.Upward.{upward}
use Rattle.contour_runs.specs.Wood.{Coordinates}
use Rattle.contour_runs.specs.FaceRuns.{Step, after, stage_after, IsStep, IsRun}
use Rattle.contour_runs.proofs.FaceRunsPlaces.{order, cut-lt, cut-first, cut-last, vertex_after-low, vertex_after-new, vertex_after-high, cases_place}
use Rattle.contour_runs.proofs.FaceRunsStages.{IsStage-run, IsRun-less, count-le}
use Rattle.contour_runs.proofs.FaceRunsFaces.{one_place}
use Rattle.convex_counts.specs.Counts.{face_counts}
use Rattle.convex_counts.specs.FacePointsLaws.{IsWholeRun}
use Rattle.convex_counts.proofs.Gains.{gain-first, gain-second}
use Rattle.convex_counts.specs.declared.face_woods.axis.Axis.{Axis}
use Rattle.convex_counts.specs.declared.face_woods.axis.Axis.TheVariants.{One, Two, Three}
use Rattle.convex_counts.specs.Rising.{IsRising, IsDart}
use Rattle.convex_counts.proofs.DartKinds.{first, turn, second, up_last, up_middle, across, down_first, down_middle, IsAnyKind, made, right, left, base, any_kind}

-- v stands nowhere on the contour
abbrev pub IsOff : Stage → ℕ → Type 0
IsOff g v = (p : ℕ) → p < g.width → g.vertex p ≢ v

module _ (g : Stage) (s : Step) (stage : IsStage g) (step : IsStep g s) where
  pub off_after : (v : ℕ) → v < g.count → IsOff g v → IsOff (after g s) v
  off_after v older off p l e =
      elim (cases_place g s p step l) [
        | inl c ↦ let a = c.low in off p (omega (arith, order g s step)) (sym (vertex_after-low g s p a) ∙ e)
        | inr (inl c) ↦ let m = vertex_after-new g s p c.low c.high in let a = c.low in absurd (omega arith)
        | inr (inr c) ↦ let a = c.high in off c.from c.within (sym (vertex_after-high g s p c.from (omega arith) c.to) ∙ e)
      ]

  pub off_covered : (q : ℕ) → s.first < q → q < s.last → IsOff (after g s) (g.vertex q)
  off_covered q low high p l e =
      let older = stage.placed q (omega arith) in
      elim (cases_place g s p step l) [
        | inl c ↦ let a = c.low in let z = one_place g s stage step p q (omega arith) (omega arith) (sym (vertex_after-low g s p a) ∙ e) in absurd (omega arith)
        | inr (inl c) ↦ let m = vertex_after-new g s p c.low c.high in let a = c.low in absurd (omega arith)
        | inr (inr c) ↦ let a = c.high in let t = c.to in let z = one_place g s stage step c.from q c.within (omega arith) (sym (vertex_after-high g s p c.from (omega arith) t) ∙ e) in absurd (omega arith)
      ]

module _ (steps : ℕ → Step) (n : ℕ) (whole : IsWholeRun steps n) (some : 0 < n) where
  abbrev at : Coordinates
  at = face_counts steps n

  abbrev st : ℕ → Stage
  st k = stage_after steps k

  abbrev run : IsRun steps n
  run = whole.turned.run

  sound : (k : ℕ) → k ≤ n → IsStage (st k)
  sound k l = IsStage-run steps k (IsRun-less steps k n l run)

  pub same_place : (k : ℕ) → k ≤ n → (i j : ℕ) → i < (st k).width → j < (st k).width → (st k).vertex i ≡ (st k).vertex j → i ≡ j
  same_place k l i j a b e = sym ((sound k l).own i a) ∙ ap (st k).place e ∙ (sound k l).own j b

  -- a vertex is new in one step
  pub new_once : (v k l : ℕ) → (st k).count ≤ v → v < (st k).count + (steps k).vertices → (st l).count ≤ v → v < (st l).count + (steps l).vertices → k ≡ l
  new_once v k l a b c d = elim (cases_order k l) [
    | inl e ↦ e
    | inr (inl m) ↦ let z = count-le steps (suc k) l m in absurd (omega arith)
    | inr (inr m) ↦ let z = count-le steps (suc l) k m in absurd (omega arith)
  ]

  two_vertices : (k : ℕ) → 2 ≤ (st k).count
  two_vertices k = let z = count-le steps 0 k (omega arith) in omega arith

  -- along axis one to the vertex before, along axis two to that behind
  pub data LeadsOne (v w : ℕ) : Type 0 where
    base_one : v ≡ 1 → w ≡ 0 → LeadsOne v w
    first_one : (k : ℕ) → k < n → v ≡ (st k).count → (st k).vertex (steps k).first ≡ w → LeadsOne v w
    next_one : (k : ℕ) → k < n → (st k).count ≤ w → suc w ≡ v → v < (st k).count + (steps k).vertices → LeadsOne v w

  pub data LeadsTwo (v w : ℕ) : Type 0 where
    base_two : v ≡ 0 → w ≡ 1 → LeadsTwo v w
    last_two : (k : ℕ) → k < n → (st k).count + (steps k).vertices ≡ suc v → (st k).vertex (steps k).last ≡ w → LeadsTwo v w
    next_two : (k : ℕ) → k < n → (st k).count ≤ v → suc v ≡ w → w < (st k).count + (steps k).vertices → LeadsTwo v w

  at_step : (k l : ℕ) → k ≡ l → (st k).count ≡ (st l).count
  at_step k l e = ap (λ z. (st z).count) e

  news_at : (k l : ℕ) → k ≡ l → (steps k).vertices ≡ (steps l).vertices
  news_at k l e = ap (λ z. (steps z).vertices) e

  new_in : (k : ℕ) → k < n → 0 < (steps k).vertices
  new_in k l = (run k l).some_vertex

  one_alone : (v u w : ℕ) → LeadsOne v u → LeadsOne v w → u ≡ w
  one_alone v u w x3 x4 = grind (arith, two_vertices, new_in, new_once, st, first, at_step)

  two_alone : (v u w : ℕ) → LeadsTwo v u → LeadsTwo v w → u ≡ w
  two_alone v u w x3 x4 = grind (arith, two_vertices, new_in, new_once, st, news_at, at_step)

  -- along axis three, from under a face along the contour away from its turn, or from between two faces to the new vertex
  pub data LeadsFrom (k p w : ℕ) : Type 0 where
    back : (i q : ℕ) → i < (steps k).faces → (steps k).cut i < p → p ≤ (steps k).turn i → suc q ≡ p → (st k).vertex q ≡ w → LeadsFrom k p w
    on : (i : ℕ) → i < (steps k).faces → (steps k).turn i < p → p < (steps k).cut (suc i) → (st k).vertex (suc p) ≡ w → LeadsFrom k p w
    over : (i : ℕ) → i < (steps k).faces → 0 < i → p ≡ (steps k).cut i → w ≡ (st k).count → LeadsFrom k p w

  -- and along the last contour to the last vertex
  pub data LeadsThree (v w : ℕ) : Type 0 where
    covered : (k p : ℕ) → k < n → (steps k).first < p → p < (steps k).last → (st k).vertex p ≡ v → LeadsFrom k p w → LeadsThree v w
    to_right : (p : ℕ) → p < whole.top → (st n).vertex p ≡ v → (st n).vertex (suc p) ≡ w → LeadsThree v w
    to_left : (p : ℕ) → whole.top ≤ p → suc p < (st n).width → (st n).vertex (suc p) ≡ v → (st n).vertex p ≡ w → LeadsThree v w

  from_alone : (k p u w : ℕ) → k < n → LeadsFrom k p u → LeadsFrom k p w → u ≡ w
  from_alone k p u w l (back i q li a b e f) (back i' q' li' a' b' e' f') = let z : q ≡ q' = omega arith in sym f ∙ ap (st k).vertex z ∙ f'
  from_alone k p u w l (back i q li a b e f) (on i' li' a' b' f') =
      let z' = gain-second (st k) (steps k) (run k l) i' p li' a' (omega arith) in
      absurd (omega (arith, ap (steps k).cut (sym (gain-first (st k) (steps k) (run k l) i p li (omega arith) b) ∙ z')))
  from_alone k p u w l (back i q li a b e f) (over i' li' a' b' f') =
      let z' = gain-first (st k) (steps k) (run k l) i' p li' (omega arith) (omega (arith, (run k l).low i' li')) in
      absurd (omega (arith, ap (steps k).cut (sym (gain-first (st k) (steps k) (run k l) i p li (omega arith) b) ∙ z')))
  from_alone k p u w l (on i li a b f) (back i' q' li' a' b' e' f') =
      let z = gain-first (st k) (steps k) (run k l) i' p li' (omega arith) b' in
      absurd (omega (arith, ap (steps k).cut (sym z ∙ (gain-second (st k) (steps k) (run k l) i p li a (omega arith)))))
  from_alone k p u w l (on i li a b f) (on i' li' a' b' f') = sym f ∙ f'
  from_alone k p u w l (on i li a b f) (over i' li' a' b' f') =
      let z' = gain-first (st k) (steps k) (run k l) i' p li' (omega arith) (omega (arith, (run k l).low i' li')) in
      absurd (omega (arith, ap (steps k).cut (sym (gain-second (st k) (steps k) (run k l) i p li a (omega arith)) ∙ z')))
  from_alone k p u w l (over i li a b f) (back i' q' li' a' b' e' f') =
      let z' = gain-first (st k) (steps k) (run k l) i p li (omega arith) (omega (arith, (run k l).low i li)) in
      absurd (omega (arith, ap (steps k).cut (sym (gain-first (st k) (steps k) (run k l) i' p li' (omega arith) b') ∙ z')))
  from_alone k p u w l (over i li a b f) (on i' li' a' b' f') =
      let z' = gain-first (st k) (steps k) (run k l) i p li (omega arith) (omega (arith, (run k l).low i li)) in
      absurd (omega (arith, ap (steps k).cut (sym (gain-second (st k) (steps k) (run k l) i' p li' a' (omega arith)) ∙ z')))
  from_alone k p u w l (over i li a b f) (over i' li' a' b' f') = f ∙ sym f'

  -- what is covered stands on no later contour
  pub off_later : (k m p v : ℕ) → k < m → m ≤ n → (steps k).first < p → p < (steps k).last → (st k).vertex p ≡ v → IsOff (st m) v
  off_later k m p v l b low high e =
      let step = run k (omega arith) in
      let older = (sound k (omega arith)).placed p (omega arith) in
      upward (λ z. IsOff (st z) v) (suc k) m l (subst (IsOff (st (suc k))) e (off_covered (st k) (steps k) (sound k (omega arith)) step p low high))
      (λ z a c off. let m = count-le steps k z (omega arith) in off_after (st z) (steps z) (sound z (omega arith)) (run z (omega arith)) v (omega arith) off)

  three_alone : (v u w : ℕ) → LeadsThree v u → LeadsThree v w → u ≡ w
  three_alone v u w (covered k p l a b e h) (covered k' p' l' a' b' e' h') = elim (cases_order k k') [
    | inl z ↦ at_one z h'
    | inr (inl m) ↦ let x = (run k' l').within in absurd (off_later k k' p v m (omega arith) a b e p' (omega arith) e')
    | inr (inr m) ↦ let x = (run k l).within in absurd (off_later k' k p' v m (omega arith) a' b' e' p (omega arith) e)
  ]
    where
      at_one : k ≡ k' → LeadsFrom k' p' w → u ≡ w
      at_one z h' =
          let x' = (run k' l').within in
          let there : (st k').vertex p ≡ v = ap (λ z. (st z).vertex p) (sym z) ∙ e in
          let last = ap (λ z. (steps z).last) z in
          let q : p' ≡ p = same_place k' (omega (arith, ap (λ z. (st z).width) z)) p' p (omega arith) (omega arith) (e' ∙ sym there) in
          from_alone k p u w l h (subst (λ z. LeadsFrom z p w) (sym z) (subst (λ p. LeadsFrom k' p w) q h'))
  three_alone v u w (covered k p l a b e h) (to_right p' a' e' f') = let x = whole.within in absurd (off_later k n p v l (omega arith) a b e p' (omega arith) e')
  three_alone v u w (covered k p l a b e h) (to_left p' a' b' e' f') = absurd (off_later k n p v l (omega arith) a b e (suc p') b' e')
  three_alone v u w (to_right p a e f) (covered k' p' l' a' b' e' h') = let x = whole.within in absurd (off_later k' n p' v l' (omega arith) a' b' e' p (omega arith) e)
  three_alone v u w (to_right p a e f) (to_right p' a' e' f') =
      sym f ∙ ap (λ p. (st n).vertex (suc p)) (same_place n (omega (arith, whole.within)) p p' (omega arith) (omega arith) (e ∙ sym e')) ∙ f'
  three_alone v u w (to_right p a e f) (to_left p' a' b' e' f') =
      absurd (omega (arith, same_place n (omega (arith, whole.within)) p (suc p') (omega arith) b' (e ∙ sym e')))
  three_alone v u w (to_left p a b e f) (covered k' p' l' a' b' e' h') = absurd (off_later k' n p' v l' (omega arith) a' b' e' (suc p) b e)
  three_alone v u w (to_left p a b e f) (to_right p' a' e' f') =
      absurd (omega (arith, same_place n (omega (arith, whole.within)) p' (suc p) (omega arith) b (e' ∙ sym e)))
  three_alone v u w (to_left p a b e f) (to_left p' a' b' e' f') =
      sym f ∙ ap (st n).vertex (let y : p ≡ p' = omega (arith, same_place n (omega arith) (suc p) (suc p') b b' (e ∙ sym e')) in y) ∙ f'

  -- What rises alone leads so. Along axis one the dart itself says it, along axis two its twin.
  pub one_leads : (v u : ℕ) → IsAnyKind steps n whole v u → IsRising at One v u → LeadsOne v u
  one_leads v u (made k i l li (first p a b e f h)) r = let x = h.one in absurd (omega arith)
  one_leads v u (made k i l li (turn p a e f h)) r = let x = h.one in absurd (omega arith)
  one_leads v u (made k i l li (second p a b e f h)) r = let x = h.one in absurd (omega arith)
  one_leads v u (made k i l li (up_last a e f h m)) r = let x = h.sum in absurd (omega arith)
  one_leads v u (made k i l li (up_middle a e f h h')) r = let x = h.sum in absurd (omega arith)
  one_leads v u (made k i l li (across a e b h)) r = next_one k l a e b
  one_leads v u (made k i l li (down_first a e f h m)) r = first_one k l e f
  one_leads v u (made k i l li (down_middle a e f h h')) r = let x = h'.two in absurd (omega arith)
  one_leads v u (right p l a h) r = let x = h.one in absurd (omega arith)
  one_leads v u (left p l a h) r = let x = h.one in absurd (omega arith)
  one_leads v u (base a b h) r = base_one a b

  pub two_leads : (v u : ℕ) → IsAnyKind steps n whole u v → IsRising at Two v u → LeadsTwo v u
  two_leads v u (made k i l li (first p a b e f h)) r = let x = h.two in absurd (omega arith)
  two_leads v u (made k i l li (turn p a e f h)) r = let x = h.two in absurd (omega arith)
  two_leads v u (made k i l li (second p a b e f h)) r = let x = h.two in absurd (omega arith)
  two_leads v u (made k i l li (up_last a e f h m)) r = last_two k l f e
  two_leads v u (made k i l li (up_middle a e f h h')) r = let x = h'.one in absurd (omega arith)
  two_leads v u (made k i l li (across a e b h)) r = next_two k l a e b
  two_leads v u (made k i l li (down_first a e f h m)) r = let x = h.sum in absurd (omega arith)
  two_leads v u (made k i l li (down_middle a e f h h')) r = let x = h.sum in absurd (omega arith)
  two_leads v u (right p l a h) r = let x = h.two in absurd (omega arith)
  two_leads v u (left p l a h) r = let x = h.two in absurd (omega arith)
  two_leads v u (base a b h) r = base_two b a

  -- along axis three either says it
  back_leads : (v u : ℕ) → IsAnyKind steps n whole u v → at.one v ≤ at.one u → IsRising at Three v u → LeadsThree v u
  back_leads v u (made k i l li (first p a b e f h)) m r =
      let step = run k l in
      let c = cut-first (st k) (steps k) step i (omega arith) in
      let d = cut-last (st k) (steps k) step (suc i) li in
      covered k (suc p) l (omega arith) (omega (arith, step.high i li)) f (back i p li (omega arith) b refl e)
  back_leads v u (made k i l li (turn p a e f h)) m r = let x = h.one in absurd (omega arith)
  back_leads v u (made k i l li (second p a b e f h)) m r = let x = h.two in absurd (omega arith)
  back_leads v u (made k i l li (up_last a e f h y)) m r = let x = h.two in absurd (omega arith)
  back_leads v u (made k i l li (up_middle a e f h h')) m r = let x = h.two in absurd (omega arith)
  back_leads v u (made k i l li (across a e b h)) m r = let x = h.one in absurd (omega arith)
  back_leads v u (made k i l li (down_first a e f h y)) m r = let x = h.one in absurd (omega arith)
  back_leads v u (made k i l li (down_middle a e f h h')) m r = let x = h.one in absurd (omega arith)
  back_leads v u (right p l a h) m r = let x = h.two in let y = h.one in absurd (omega arith)
  back_leads v u (left p l a h) m r = to_left p l a.within a.head a.tail
  back_leads v u (base a b h) m r = let x = h.one in absurd (omega arith)

  pub three_leads : (v u : ℕ) → IsAnyKind steps n whole v u → IsAnyKind steps n whole u v → IsRising at Three v u → LeadsThree v u
  three_leads v u (made k i l li (first p a b e f h)) z r = let x = h.two in absurd (omega arith)
  three_leads v u (made k i l li (turn p a e f h)) z r = let x = h.two in absurd (omega arith)
  three_leads v u (made k i l li (second p a b e f h)) z r =
      let step = run k l in
      let c = cut-first (st k) (steps k) step i (omega arith) in
      let d = cut-last (st k) (steps k) step (suc i) li in
      covered k p l (omega (arith, step.low i li)) (omega arith) e (on i li a b f)
  three_leads v u (made k i l li (up_last a e f h m)) z r = back_leads v u z m r
  three_leads v u (made k i l li (up_middle a e f h h')) z r =
      let step = run k l in
      let c = cut-lt (st k) (steps k) step 0 (suc i) (omega arith) (omega arith) in
      let d = cut-lt (st k) (steps k) step (suc i) (steps k).faces a (omega arith) in
      covered k ((steps k).cut (suc i)) l (omega arith) (omega arith) e (over (suc i) a (omega arith) refl f)
  three_leads v u (made k i l li (across a e b h)) z r = let x = h.one in absurd (omega arith)
  three_leads v u (made k i l li (down_first a e f h m)) z r = let x = h.one in absurd (omega arith)
  three_leads v u (made k i l li (down_middle a e f h h')) z r = let x = h.one in absurd (omega arith)
  three_leads v u (right p l a h) z r = to_right p l a.tail a.head
  three_leads v u (left p l a h) z r = let x = h.two in absurd (omega arith)
  three_leads v u (base a b h) z r = let x = h.one in absurd (omega arith)

  -- so just one edge at a vertex does
  pub one_rising_at : (v u w : ℕ) (c : Axis) → IsDart steps n v u → IsDart steps n u v → IsDart steps n v w → IsDart steps n w v → IsRising at c v u → IsRising at c v w → u ≡ w
  one_rising_at v u w One a b c d r r' = one_alone v u w (one_leads v u (any_kind steps n whole v u some a) r) (one_leads v w (any_kind steps n whole v w some c) r')
  one_rising_at v u w Two a b c d r r' = two_alone v u w (two_leads v u (any_kind steps n whole u v some b) r) (two_leads v w (any_kind steps n whole w v some d) r')
  one_rising_at v u w Three a b c d r r' =
      three_alone v u w (three_leads v u (any_kind steps n whole v u some a) (any_kind steps n whole u v some b) r)
      (three_leads v w (any_kind steps n whole v w some c) (any_kind steps n whole w v some d) r')
