-- All darts of a run are darts of its map.
use Rattle.std.proofs.Common.{◌≡◌, ℕ, zero, suc, ◌+◌, ◌-◌, ◌<◌, ◌≤◌, length, refl, sym, ap, ap₂, ◌∙◌, subst, inl, inr, arith}
use Rattle.std.proofs.lemmas.Bool.{cases_order}
use Rattle.map_lists.specs.Lists.{Lists}
use Rattle.map_theory.specs.Maps.{HasDart, IsSimpleMap, follows}
use Rattle.map_theory.proofs.DartLemmas.{HasDart-face_step}
use Rattle.contour_runs.specs.Runs.{Stage}
use Rattle.contour_runs.specs.Laws.{IsStage}
use Rattle.contour_runs.proofs.Upward.{upward}
use Rattle.contour_runs.specs.FaceRuns.{Step, stage_after, IsStep, IsRun, IsDartOf, faces_made}
use Rattle.contour_runs.specs.FaceRunsLaws.{GoesAlong}
use Rattle.contour_runs.proofs.FaceRunsPlaces.{cut-last}
use Rattle.contour_runs.proofs.FaceRunsStages.{IsStage-run, IsRun-less, count-le}
use Rattle.contour_runs.proofs.FaceRunsFaces.{one_place, cases_along, face_made_once, none_along_later}
use Rattle.convex_laws.specs.ConvexDrawings.{IsRunMap}
use Rattle.convex_counts.specs.Rising.{IsRunEdge, along, back, over, IsDart}
use Rattle.convex_laws.proofs.FaceNumbers.{made-less}

module _ (steps : ℕ → Step) (n : ℕ) (run : IsRun steps n) where
  abbrev at_stage : ℕ → Stage
  at_stage k = stage_after steps k

  sound_at : (k : ℕ) → k ≤ n → IsStage (at_stage k)
  sound_at k l = IsStage-run steps k (IsRun-less steps k n l run)

  -- the base from its second vertex to its first is on no face that is made
  pub base_outside : (k i x y : ℕ) → k < n → IsDartOf (at_stage k) (steps k) i x y → x ≡ 1 → y ≡ 0 → ⊥
  base_outside k i x y l h ex ey =
      let g = sound_at k (omega arith) in
      elim h.dart [
        | inl a ↦
            let c = cut-last (at_stage k) (steps k) (run k l) (suc i) h.within in
            let w = (run k l).within in
            let end : ℕ = (at_stage k).width - 1 in
            let z = one_place (at_stage k) (steps k) g (run k l) a.place end (omega arith) (omega arith) (a.tail ∙ ex ∙ sym (g.end end (omega arith))) in
            omega arith
        | inr (inl a) ↦ let e = a.head in omega arith
        | inr (inr (inl a)) ↦ let e = a.low in omega arith
        | inr (inr (inr a)) ↦ let e = a.tail in omega arith
      ]

module _ (lists : Lists) (s d : ℕ) (steps : ℕ → Step) (n : ℕ) (rank : ℕ → ℕ) (face : ℕ → ℕ → ℕ) (at : ℕ → ℕ) (run : IsRun steps n) (map : IsRunMap lists (s, d) steps n rank face) (all : (stage_after steps n).count ≡ length lists) (below : (r : ℕ) → r < length lists → at r < length lists) (one : (r q : ℕ) → r < length lists → q < length lists → at r ≡ at q → r ≡ q) (named : (v : ℕ) → v < length lists → at (rank v) ≡ v) where
  abbrev st : ℕ → Stage
  st k = stage_after steps k

  abbrev simple : IsSimpleMap lists
  simple = map.simple

  sound : (k : ℕ) → k ≤ n → IsStage (st k)
  sound k l = IsStage-run steps k (IsRun-less steps k n l run)

  -- a rank is that of its vertex
  pub rank_at : (r : ℕ) → r < length lists → rank (at r) ≡ r
  rank_at r l =
      one (rank (at r)) r (omega arith) l (named (at r) (below r l))

  small : (k r : ℕ) → k ≤ n → r < (st k).count → r < length lists
  small k r l m = let c = count-le steps k n l in omega arith

  -- a number is that of one face
  number_once : (k i l j : ℕ) → i < (steps k).faces → j < (steps l).faces → faces_made steps k + i ≡ faces_made steps l + j → (k ≡ l) × (i ≡ j)
  number_once k i l j a b e = elim (cases_order k l) [
    | inl same ↦ let z = ap (faces_made steps) same in (same, omega arith)
    | inr (inl m) ↦ let up = upward (λ z. faces_made steps (suc k) ≤ faces_made steps z) (suc k) l m (omega arith) (λ z a b c. omega arith) in absurd (omega arith)
    | inr (inr m) ↦ let up = upward (λ z. faces_made steps (suc l) ≤ faces_made steps z) (suc l) k m (omega arith) (λ z a b c. omega arith) in absurd (omega arith)
  ]

  IsDartOf-at : (k k' i i' x y : ℕ) → k ≡ k' → i ≡ i' → IsDartOf (st k) (steps k) i x y → IsDartOf (st k') (steps k') i' x y
  IsDartOf-at k k' i i' x y ek ei h = subst (λ k. IsDartOf (st k) (steps k) i' x y) ek (subst (λ i. IsDartOf (st k) (steps k) i x y) ei h)

  -- a dart on a face that is made has its number, and the next dart is on that face too
  pub numbered : (k i x y : ℕ) → k < n → HasDart lists x y → IsDartOf (st k) (steps k) i (rank x) (rank y) → face x y ≡ faces_made steps k + i
  numbered k i x y l has h = elim (map.on_face x y has) [
    | inl m ↦ let z = face_made_once steps n m.step k m.place i (rank x) (rank y) run m.earlier l m.dart h in m.number ∙ ap₂ (λ k i. faces_made steps k + i) z.0 z.1
    | inr (inl out) ↦ absurd (none_along_later steps n k i out.place (rank x) (rank y) run l h out.along)
    | inr (inr base) ↦ absurd (base_outside steps n run k i (rank x) (rank y) l h base.tail base.head)
  ]

  pub on_number : (k i x y : ℕ) → k < n → i < (steps k).faces → HasDart lists x y → face x y ≡ faces_made steps k + i → IsDartOf (st k) (steps k) i (rank x) (rank y)
  on_number k i x y l li has e =
      let less = made-less steps n k i l li in
      elim (map.on_face x y has) [
        | inl m ↦ let z = number_once m.step m.place k i m.dart.within li (sym m.number ∙ e) in IsDartOf-at m.step k m.place i (rank x) (rank y) z.0 z.1 m.dart
        | inr (inl out) ↦ let q = out.number in absurd (omega arith)
        | inr (inr base) ↦ let q = base.number in absurd (omega arith)
      ]

  -- a dart of the map into the vertex of a rank, on such a face
  record Into (k i r : ℕ) : Type 0 where
    pub from : ℕ
    pub dart : HasDart lists from (at r)
    pub on : IsDartOf (st k) (steps k) i (rank from) r

  -- and the next one
  record OutOf (k i r : ℕ) : Type 0 where
    pub to : ℕ
    pub dart : HasDart lists (at r) to
    pub on : IsDartOf (st k) (steps k) i r (rank to)

  next_of : (k i r : ℕ) → k < n → r < length lists → Into k i r → OutOf k i r
  next_of k i r l small h =
      let e = rank_at r small in
      let on = subst (λ q. IsDartOf (st k) (steps k) i (rank h.from) q) (sym e) h.on in
      let f = numbered k i h.from (at r) l h.dart on in
      let z = follows lists (at r) h.from in
      let has = HasDart-face_step lists (h.from, at r) simple h.dart in
      record { to = z; dart = has; on = subst (λ q. IsDartOf (st k) (steps k) i q (rank z)) e (on_number k i (at r) z l h.on.within has (map.faces h.from (at r) h.dart ∙ f)) }

  into_of : (k i r q : ℕ) → k < n → q < length lists → (o : OutOf k i r) → rank o.to ≡ q → r < length lists → Into k i q
  into_of k i r q l small o e lr =
      let same : o.to ≡ at q = sym (named o.to (simple.in_range (at r) o.to o.dart)) ∙ ap at e in
      record { from = at r; dart = subst (HasDart lists (at r)) same o.dart; on = subst (λ p. IsDartOf (st k) (steps k) i p q) (sym (rank_at r lr)) (subst (IsDartOf (st k) (steps k) i r) e o.on) }

  module _ (k i : ℕ) (l : k < n) (li : i < (steps k).faces) where
    abbrev g : Stage
    g = st k

    abbrev t : Step
    t = steps k

    step : IsStep g t
    step = run k l

    stage : IsStage g
    stage = sound k (omega arith)

    placed : (p : ℕ) → p ≤ t.last → g.vertex p < g.count
    placed p m = let w = step.within in stage.placed p (omega arith)

    same : (p q : ℕ) → p ≤ t.last → q ≤ t.last → g.vertex p ≡ g.vertex q → p ≡ q
    same p q a b e = let w = step.within in one_place g t stage step p q (omega arith) (omega arith) e

    abbrev corner : ℕ
    corner = t.cut (suc i)

    corner_in : corner ≤ t.last
    corner_in = cut-last g t step (suc i) li

    -- from the last place under the face up to the last new vertex
    up_after : (o : OutOf k i (g.vertex corner)) → suc (rank o.to) ≡ g.count + t.vertices
    up_after o = grind (arith, corner_in, placed, corner, same)

    -- down from one new vertex to the one before
    across_after : (r : ℕ) → g.count < r → (o : OutOf k i r) → suc (rank o.to) ≡ r
    across_after r m o = grind (arith, corner_in, placed, corner)

    -- and from the first to the first place under the face
    down_after : (o : OutOf k i g.count) → g.vertex (t.cut i) ≡ rank o.to
    down_after o = grind (arith, corner_in, placed, corner)

    new_small : (r : ℕ) → r < g.count + t.vertices → r < length lists
    new_small r m = small (suc k) r l m

    -- so each new vertex is come to
    reached : (d r : ℕ) → r + d + 1 ≡ g.count + t.vertices → g.count ≤ r → HasDart lists (at (g.vertex corner)) (at (g.count + t.vertices - 1)) → Into k i r
    reached zero r e m up =
        let p = placed corner corner_in in
        let here : g.count + t.vertices - 1 ≡ r = omega arith in
        record { from = at (g.vertex corner); dart = subst (λ r. HasDart lists (at (g.vertex corner)) (at r)) here up; on = record { within = li; dart = inr (inl record { tail = sym (rank_at (g.vertex corner) (small k (g.vertex corner) (omega arith) p)); head = omega arith }) } }
    reached (suc d) r e m up =
        let o = next_of k i (suc r) l (new_small (suc r) (omega arith)) (reached d (suc r) (omega arith) (omega arith) up) in
        let f = across_after (suc r) (omega arith) o in
        into_of k i (suc r) r l (new_small r (omega arith)) o (omega arith) (new_small (suc r) (omega arith))

    module _ (last : HasDart lists (at (g.vertex (corner - 1))) (at (g.vertex corner))) where
      pub up_dart : HasDart lists (at (g.vertex corner)) (at (g.count + t.vertices - 1))
      up_dart =
          let b = corner_in in
          let p = placed corner b in
          let lo = step.low i li in
          let hi = step.high i li in
          let q : ℕ = corner - 1 in
          let e : suc q ≡ corner = omega arith in
          let pq = placed q (omega arith) in
          let into : Into k i (g.vertex corner) = record { from = at (g.vertex q); dart = last; on = record { within = li; dart = inl record { place = q; low = omega arith; high = omega arith; tail = sym (rank_at (g.vertex q) (small k (g.vertex q) (omega arith) pq)); head = ap g.vertex e } } } in
          let o = next_of k i (g.vertex corner) l (small k (g.vertex corner) (omega arith) p) into in
          let f = up_after o in
          let there : rank o.to ≡ g.count + t.vertices - 1 = omega arith in
          subst (HasDart lists (at (g.vertex corner))) (sym (named o.to (simple.in_range (at (g.vertex corner)) o.to o.dart)) ∙ ap at there) o.dart

      pub across_dart : (r : ℕ) → g.count ≤ r → suc r < g.count + t.vertices → HasDart lists (at (suc r)) (at r)
      across_dart r m b =
          let d : ℕ = g.count + t.vertices - 1 - suc r in
          let h = reached d (suc r) (omega arith) (omega arith) up_dart in
          let o = next_of k i (suc r) l (new_small (suc r) b) h in
          let f = across_after (suc r) (omega arith) o in
          let there : rank o.to ≡ r = omega arith in
          subst (HasDart lists (at (suc r))) (sym (named o.to (simple.in_range (at (suc r)) o.to o.dart)) ∙ ap at there) o.dart

      pub down_dart : HasDart lists (at g.count) (at (g.vertex (t.cut i)))
      down_dart =
          let some = step.some_vertex in
          let d : ℕ = t.vertices - 1 in
          let h = reached d g.count (omega arith) (omega arith) up_dart in
          let o = next_of k i g.count l (new_small g.count (omega arith)) h in
          subst (HasDart lists (at g.count)) (sym (named o.to (simple.in_range (at g.count) o.to o.dart)) ∙ ap at (sym (down_after o))) o.dart

  abbrev Goes : ℕ → Type 0
  Goes k = (x y p : ℕ) → GoesAlong (st k) x y p → HasDart lists (at x) (at y)

  -- the last dart under a face
  last_under : (k i : ℕ) → k < n → i < (steps k).faces → Goes k → HasDart lists (at ((st k).vertex ((steps k).cut (suc i) - 1))) (at ((st k).vertex ((steps k).cut (suc i))))
  last_under k i l li goes =
      let step = run k l in
      let c = cut-last (st k) (steps k) step (suc i) li in
      let q : ℕ = (steps k).cut (suc i) - 1 in
      let e : suc q ≡ (steps k).cut (suc i) = omega (arith, step.high i li) in
      goes ((st k).vertex q) ((st k).vertex ((steps k).cut (suc i))) q record { within = omega arith; tail = refl; head = ap (st k).vertex e }

  goes_after : (k : ℕ) → k < n → Goes k → Goes (suc k)
  goes_after k l goes x y p a =
      let step = run k l in
      let f = step.some_face in
      elim (cases_along (st k) (steps k) (sound k (omega arith)) step x y p a) [
        | inl b ↦ goes x y b.place b.along
        | inr (inl b) ↦
            let h = simple.both_ways (at (st k).count) (at ((st k).vertex ((steps k).cut 0))) (down_dart k 0 l f (last_under k 0 l f goes)) in
            subst (λ x. HasDart lists (at x) (at y)) (ap (st k).vertex step.begin ∙ sym b.tail) (subst (λ y. HasDart lists (at ((st k).vertex ((steps k).cut 0))) (at y)) (sym b.head) h)
        | inr (inr (inl b)) ↦
            let q = (sound (suc k) l).placed (suc p) a.within in
            let h = simple.both_ways (at (suc x)) (at x) (across_dart k 0 l f (last_under k 0 l f goes) x b.new (omega arith)) in
            subst (λ y. HasDart lists (at x) (at y)) b.next h
        | inr (inr (inr b)) ↦
            let i : ℕ = (steps k).faces - 1 in
            let li : i < (steps k).faces = omega arith in
            let e : suc i ≡ (steps k).faces = omega arith in
            let z : (st k).count + (steps k).vertices - 1 ≡ x = omega arith in
            let h = simple.both_ways (at ((st k).vertex ((steps k).cut (suc i)))) (at ((st k).count + (steps k).vertices - 1)) (up_dart k i l li (last_under k i l li goes)) in
            subst (λ x. HasDart lists (at x) (at y)) z (subst (λ y. HasDart lists (at ((st k).count + (steps k).vertices - 1)) (at y)) (ap (st k).vertex (ap (steps k).cut e ∙ step.end) ∙ sym b.head) h)
      ]

  goes_first : Goes 0
  goes_first x y p a =
      let ex : d ≡ at x = sym (named d (simple.in_range s d map.dart)) ∙ ap at (map.first ∙ omega arith) in
      let ey : s ≡ at y = sym (named s map.dart.0) ∙ ap at (map.second ∙ omega arith) in
      subst (λ z. HasDart lists z (at y)) ex (subst (HasDart lists d) ey (simple.both_ways s d map.dart))

  pub goes_all : (k : ℕ) → k ≤ n → Goes k
  goes_all k l = upward (λ z. z ≤ n → Goes z) 0 k (omega arith) (λ m. goes_first) (λ z a b h m. goes_after z m (h (omega arith))) l

  -- each edge of the run is one of the map, and goes to a vertex of it
  pub edge_dart : (v u : ℕ) → IsRunEdge steps n v u → HasDart lists (at v) (at u) × (u < length lists)
  edge_dart v u (along k p l a) = let w = a.within in let e = a.head in let q = (sound k l).placed (suc p) w in (goes_all k l v u p a, small k u l (omega arith))
  edge_dart v u (back k p l a) = let w = a.within in let e = a.tail in let q = (sound k l).placed p (omega arith) in (simple.both_ways (at u) (at v) (goes_all k l u v p a), small k u l (omega arith))
  edge_dart v u (over k i l li e f m) =
      let h = simple.both_ways (at (st k).count) (at ((st k).vertex ((steps k).cut i))) (down_dart k i l li (last_under k i l li (goes_all k (omega arith)))) in (
        subst (λ v. HasDart lists (at v) (at u)) e (subst (λ u. HasDart lists (at ((st k).vertex ((steps k).cut i))) (at u)) (sym f) h),
        small (suc k) u l (omega (arith, (run k l).some_vertex)),
      )

  -- a dart of the map is one of the run
  pub run_dart : (x y : ℕ) → HasDart lists x y → IsDart steps n (rank x) (rank y)
  run_dart x y has = elim (map.on_face x y has) [
    | inl m ↦ inl (m.step, m.place, m.earlier, m.dart)
    | inr (inl out) ↦ inr (inl (out.place, out.along))
    | inr (inr base) ↦ inr (inr (base.tail, base.head))
  ]
