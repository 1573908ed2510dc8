-- Which vertices of a run lead over an edge on their ways along axes one and two.
use Rattle.std.proofs.Common.{◌≡◌, ◌≢◌, ◌⊎◌, ℕ, zero, suc, ◌+◌, ◌<◌, ◌≤◌, Bool, true, false, ◌&&◌, ltb, leb, eqb, if◌then◌else◌, refl, sym, ap, ap₂, ◌∙◌, inl, inr, arith}
use Rattle.std.proofs.lemmas.Bool.{cases_lt, cases_order, cond-true, cond-false, lt-ltb, le-ltb, lt-leb, le-leb, eq-eqb, eqb-true, and_parts, false_from_ne_true, or_left, or_right, or_from, and_from}
use Rattle.contour_runs.specs.Runs.{Stage}
use Rattle.contour_runs.specs.Laws.{IsStage}
use Rattle.contour_runs.specs.FaceRuns.{Step, stage_after, IsRun}
use Rattle.contour_runs.specs.FaceRunsLaws.{GoesAlong}
use Rattle.convex_counts.specs.FacePointsLaws.{IsWholeRun}
use Rattle.contour_runs.proofs.FaceRunsPlaces.{order, cut-lt, vertex_after-low, vertex_after-new, vertex_after-high}
use Rattle.contour_runs.proofs.FaceRunsStages.{count-le}
use Rattle.convex_counts.proofs.Leads.{LeadsOne, base_one, first_one, next_one, LeadsTwo, base_two, last_two, next_two, same_place}
use Rattle.map_theory.specs.Maps.{same_dart}
use Rattle.convex_laws.specs.Walks.{flipped, is_edge}
use Rattle.convex_laws.proofs.FaceTests.{AreLater}
use Rattle.convex_laws.proofs.EdgeTests.{sound}

-- whether a dart is on an edge
no_dart : (v u x y : ℕ) → (v ≡ x → u ≡ y → ⊥) → same_dart (v, u) (x, y) ≡ false
no_dart v u x y h = false_from_ne_true (same_dart (v, u) (x, y)) (λ e. let p = and_parts (eqb v x) (eqb u y) e in h (eqb-true v x p.0) (eqb-true u y p.1))

some_dart : (v u x y : ℕ) → v ≡ x → u ≡ y → same_dart (v, u) (x, y) ≡ true
some_dart v u x y e f = and_from (eqb v x) (eqb u y) (eq-eqb v x e) (eq-eqb u y f)

pub no_edge : (v u x y : ℕ) → (v ≡ x → u ≡ y → ⊥) → (v ≡ y → u ≡ x → ⊥) → is_edge (v, u) x y ≡ false
no_edge v u x y h g = or_from (same_dart (v, u) (x, y)) (same_dart (v, u) (y, x)) (no_dart v u x y h) (no_dart v u y x g)

pub edge_on : (v u x y : ℕ) → v ≡ x → u ≡ y → is_edge (v, u) x y ≡ true
edge_on v u x y e f = or_left (same_dart (v, u) (x, y)) (same_dart (v, u) (y, x)) (some_dart v u x y e f)

pub edge_back : (v u x y : ℕ) → v ≡ y → u ≡ x → is_edge (v, u) x y ≡ true
edge_back v u x y e f = or_right (same_dart (v, u) (x, y)) (same_dart (v, u) (y, x)) (some_dart v u y x e f)

-- the equations that a step along an axis asks for
pub stays : (a b e : Bool) → a ≡ b → e ≡ false → a ≡ flipped e b
stays a b e h g = h ∙ ap (λ z. flipped z b) (sym g)

pub changes : (a b e : Bool) → a ≡ true → b ≡ false → e ≡ true → a ≡ flipped e b
changes a b e h g k = h ∙ sym (ap₂ flipped k g)

-- a test that begins so at stage k, and goes on
pub record IsBegun (end : Step → ℕ) (steps : ℕ → Step) (n k : ℕ) (start T : ℕ → Bool) : Type 0 where
  pub begun : (v : ℕ) → v < (stage_after steps k).count → T v ≡ start v
  pub later : AreLater end steps n k T

pub some_begun : (end : Step → ℕ) (steps : ℕ → Step) (n k : ℕ) (start : ℕ → Bool) → ((m : ℕ) → m < n → (stage_after steps m).vertex (end (steps m)) < (stage_after steps m).count) → k ≤ n → (T : ℕ → Bool) × IsBegun end steps n k start T
some_begun end steps zero k start placed l = (start, record { begun = λ v a. refl; later = λ m v a b c d. absurd (omega arith) })
some_begun end steps (suc n) k start placed l = elim (cases_lt n k) [
  | inl whole ↦ (start, record { begun = λ v a. refl; later = λ m v a b c d. absurd (omega arith) })
  | inr less ↦ go less (some_begun end steps n k start (λ m a. placed m (omega arith)) less)
]
  where
    go : k ≤ n → (T : ℕ → Bool) × IsBegun end steps n k start T → (T : ℕ → Bool) × IsBegun end steps (suc n) k start T
    go less h =
        let g = stage_after steps n in
        let w = g.vertex (end (steps n)) in
        let T : ℕ → Bool = λ v. if ltb v g.count then h.0 v else h.0 w in
        let old : (v : ℕ) → v < g.count → T v ≡ h.0 v = λ v a. cond-true (ltb v g.count) (h.0 v) (h.0 w) (lt-ltb v g.count a) in
        let new : (v : ℕ) → g.count ≤ v → T v ≡ h.0 w = λ v a. cond-false (ltb v g.count) (h.0 v) (h.0 w) (le-ltb v g.count a) in (
          T,
          record {
            begun = λ v a. let c = count-le steps k n (omega arith) in old v (omega arith) ∙ h.1.begun v a;
            later = λ m v a b c d. elim (cases_lt m n) [
              | inl before ↦
                  let q = count-le steps (suc m) n before in
                  old v (omega arith) ∙ (h.1.later m v a before c d ∙ sym (old ((stage_after steps m).vertex (end (steps m))) (omega arith)))
              | inr at ↦ grind (arith, stage_after)
            ];
          },
        )

-- These are the vertices whose ways along axes one and two pass the edge.
pub record AreWays (steps : ℕ → Step) (n : ℕ) (whole : IsWholeRun steps n) (some : 0 < n) (x y : ℕ) (one two : ℕ → Bool) : Type 0 where
  pub one_root : one 0 ≡ false
  pub two_root : two 1 ≡ false
  pub one_step : (v u : ℕ) → LeadsOne steps n whole some v u → one v ≡ flipped (is_edge (v, u) x y) (one u)
  pub two_step : (v u : ℕ) → LeadsTwo steps n whole some v u → two v ≡ flipped (is_edge (v, u) x y) (two u)

module _ (steps : ℕ → Step) (n : ℕ) (whole : IsWholeRun steps n) (some : 0 < n) where
  abbrev st : ℕ → Stage
  st k = stage_after steps k

  abbrev run : IsRun steps n
  run = whole.turned.run

  stage_at : (k : ℕ) → k ≤ n → IsStage (st k)
  stage_at k l = sound steps n run k l

  two_at_least : (k : ℕ) → 2 ≤ (st k).count
  two_at_least k = let z = count-le steps 0 k (omega arith) in omega arith

  abbrev pub begins : ℕ → ℕ
  begins k = (st k).vertex (steps k).first

  abbrev pub ends : ℕ → ℕ
  ends k = (st k).vertex (steps k).last

  pub ends_placed : (k : ℕ) → k < n → (begins k < (st k).count) × (ends k < (st k).count)
  ends_placed k l =
      let step = run k l in
      let o = order (st k) (steps k) step in
      let s = stage_at k (omega arith) in
      (s.placed (steps k).first (omega arith), s.placed (steps k).last step.within)

  ends_apart : (k : ℕ) → k < n → begins k ≢ ends k
  ends_apart k l e =
      let step = run k l in
      let o = order (st k) (steps k) step in
      omega (arith, same_place steps n whole some k (omega arith) (steps k).first (steps k).last (omega arith) step.within e)

  -- An edge that is new in the step k, at place j of the contour after it.
  pub record IsBorn (k j x y : ℕ) : Type 0 where
    pub earlier : k < n
    pub low : (steps k).first ≤ j
    pub high : j ≤ (steps k).first + (steps k).vertices
    pub tail : ((j ≡ (steps k).first) × (x ≡ begins k)) ⊎ (((steps k).first < j) × (x + suc (steps k).first ≡ (st k).count + j))
    pub head : ((j < (steps k).first + (steps k).vertices) × (y + (steps k).first ≡ (st k).count + j)) ⊎ ((j ≡ (steps k).first + (steps k).vertices) × (y ≡ ends k))

  pub born : (k j x y : ℕ) → k < n → (steps k).first ≤ j → j ≤ (steps k).first + (steps k).vertices → GoesAlong (st (suc k)) x y j → IsBorn k j x y
  born k j x y l a b along = grind (arith, cases_lt, vertex_after-new, st, vertex_after-low, vertex_after-high)

  module _ (k j x y : ℕ) (b : IsBorn k j x y) where
    abbrev c : ℕ
    c = (st k).count

    abbrev p : ℕ
    p = (steps k).first

    lk : k < n
    lk = b.earlier

    -- it has a new end
    older : (v u : ℕ) → v < c → u < c → is_edge (v, u) x y ≡ false
    older v u lv lu = grind (arith, run, lk, no_edge)

    -- and no end that is newer
    newer : (v u : ℕ) → c + (steps k).vertices ≤ v → is_edge (v, u) x y ≡ false
    newer v u lv =
        let q = ends_placed k lk in
        no_edge v u x y (λ e f. omega arith) (λ e f. omega arith)

    abbrev pub one_start : ℕ → Bool
    one_start v = leb c v && ltb (c + j) (v + suc p)

    abbrev pub two_start : ℕ → Bool
    two_start v = leb c v && leb (v + suc p) (c + j)

    module _ (one two : ℕ → Bool) (h : IsBegun (λ s. s.first) steps n (suc k) one_start one) (g : IsBegun (λ s. s.last) steps n (suc k) two_start two) where
      pub one_old : (v : ℕ) → v < c → one v ≡ false
      one_old v l = h.begun v (omega arith) ∙ ap (λ z. z && ltb (c + j) (v + suc p)) (lt-leb c v l)

      pub two_old : (v : ℕ) → v < c → two v ≡ false
      two_old v l = g.begun v (omega arith) ∙ ap (λ z. z && leb (v + suc p) (c + j)) (lt-leb c v l)

      pub one_new : (v : ℕ) → c ≤ v → v < c + (steps k).vertices → one v ≡ ltb (c + j) (v + suc p)
      one_new v l m = h.begun v m ∙ ap (λ z. z && ltb (c + j) (v + suc p)) (le-leb c v l)

      pub two_new : (v : ℕ) → c ≤ v → v < c + (steps k).vertices → two v ≡ leb (v + suc p) (c + j)
      two_new v l m = g.begun v m ∙ ap (λ z. z && leb (v + suc p) (c + j)) (le-leb c v l)

      abbrev OneStep : ℕ → ℕ → Type 0
      OneStep v u = one v ≡ flipped (is_edge (v, u) x y) (one u)

      abbrev TwoStep : ℕ → ℕ → Type 0
      TwoStep v u = two v ≡ flipped (is_edge (v, u) x y) (two u)

      one_earlier : (v u : ℕ) → v < c → u < c → OneStep v u
      one_earlier v u a d = stays (one v) (one u) (is_edge (v, u) x y) (one_old v a ∙ sym (one_old u d)) (older v u a d)

      two_earlier : (v u : ℕ) → v < c → u < c → TwoStep v u
      two_earlier v u a d = stays (two v) (two u) (is_edge (v, u) x y) (two_old v a ∙ sym (two_old u d)) (older v u a d)

      -- in the step itself: from the first new vertex, and from another one
      one_begin : (v u : ℕ) → v ≡ c → begins k ≡ u → OneStep v u
      one_begin v u e f =
          let q = ends_placed k lk in
          let q0 = q.0 in
          let q1 = q.1 in
          let s = (run k lk).some_vertex in
          let lo = b.low in
          elim b.tail [
            | inl t ↦
                let t0 = t.0 in
                let y_is : v ≡ y = elim b.head [ inl z ↦ (let z1 = z.1 in omega arith) | inr z ↦ (let z0 = z.0 in absurd (omega arith)) ] in
                changes (one v) (one u) (is_edge (v, u) x y) (one_new v (omega arith) (omega arith) ∙ lt-ltb (c + j) (v + suc p) (omega arith)) (one_old u (omega arith)) (edge_back v u x y y_is (sym f ∙ sym t.1))
            | inr t ↦
                let t0 = t.0 in
                let t1 = t.1 in
                stays (one v) (one u) (is_edge (v, u) x y) (one_new v (omega arith) (omega arith) ∙ (le-ltb (c + j) (v + suc p) (omega arith) ∙ sym (one_old u (omega arith))))
                (no_edge v u x y (λ ev eu. elim b.head [ inl z ↦ (let z1 = z.1 in omega arith) | inr z ↦ ends_apart k lk (f ∙ eu ∙ z.1) ]) (λ ev eu. omega arith))
          ]

      one_next : (v u : ℕ) → c ≤ u → suc u ≡ v → v < c + (steps k).vertices → OneStep v u
      one_next v u a e l =
          let q = ends_placed k lk in
          let q0 = q.0 in
          let q1 = q.1 in
          let lo = b.low in
          let hi = b.high in
          elim (cases_order (u + suc p) (c + j)) [
            | inl same ↦
                let x_is : u ≡ x = elim b.tail [ inl t ↦ (let t0 = t.0 in absurd (omega arith)) | inr t ↦ (let t1 = t.1 in omega arith) ] in
                let y_is : v ≡ y = elim b.head [ inl t ↦ (let t1 = t.1 in omega arith) | inr t ↦ (let t0 = t.0 in absurd (omega arith)) ] in
                changes (one v) (one u) (is_edge (v, u) x y) (one_new v (omega arith) l ∙ lt-ltb (c + j) (v + suc p) (omega arith)) (one_new u a (omega arith) ∙ le-ltb (c + j) (u + suc p) (omega arith)) (edge_back v u x y y_is x_is)
            | inr (inl less) ↦
                stays (one v) (one u) (is_edge (v, u) x y) (one_new v (omega arith) l ∙ (le-ltb (c + j) (v + suc p) (omega arith) ∙ sym (one_new u a (omega arith) ∙ le-ltb (c + j) (u + suc p) (omega arith)))) (apart u v a (sym e) (omega arith))
            | inr (inr more) ↦
                stays (one v) (one u) (is_edge (v, u) x y) (one_new v (omega arith) l ∙ (lt-ltb (c + j) (v + suc p) (omega arith) ∙ sym (one_new u a (omega arith) ∙ lt-ltb (c + j) (u + suc p) (omega arith)))) (apart u v a (sym e) (omega arith))
          ]
        where
          -- two new neighbours that are not at the edge
          apart : (u v : ℕ) → c ≤ u → v ≡ suc u → u + suc p ≢ c + j → is_edge (v, u) x y ≡ false
          apart u v a e ne =
              let q = ends_placed k lk in
              let q0 = q.0 in
              let q1 = q.1 in
              no_edge v u x y
              (λ ev eu. elim b.tail [ inl t ↦ (let t1 = t.1 in omega arith) | inr t ↦ (let t1 = t.1 in elim b.head [ inl z ↦ (let z1 = z.1 in omega arith) | inr z ↦ (let z1 = z.1 in omega arith) ]) ])
              (λ ev eu. elim b.tail [ inl t ↦ (let t1 = t.1 in omega arith) | inr t ↦ (let t1 = t.1 in ne (omega arith)) ])

      two_end : (v u : ℕ) → c + (steps k).vertices ≡ suc v → ends k ≡ u → TwoStep v u
      two_end v u e f =
          let q = ends_placed k lk in
          let q0 = q.0 in
          let q1 = q.1 in
          let s = (run k lk).some_vertex in
          let hi = b.high in
          elim b.head [
            | inr t ↦
                let t0 = t.0 in
                let x_is : v ≡ x = elim b.tail [ inl z ↦ (let z0 = z.0 in absurd (omega arith)) | inr z ↦ (let z1 = z.1 in omega arith) ] in
                changes (two v) (two u) (is_edge (v, u) x y) (two_new v (omega arith) (omega arith) ∙ le-leb (v + suc p) (c + j) (omega arith)) (two_old u (omega arith)) (edge_on v u x y x_is (sym f ∙ sym t.1))
            | inl t ↦
                let t0 = t.0 in
                let t1 = t.1 in
                let lo = b.low in
                stays (two v) (two u) (is_edge (v, u) x y) (two_new v (omega arith) (omega arith) ∙ (lt-leb (v + suc p) (c + j) (omega arith) ∙ sym (two_old u (omega arith))))
                (no_edge v u x y (λ ev eu. omega arith) (λ ev eu. elim b.tail [ inl z ↦ ends_apart k lk (sym z.1 ∙ sym eu ∙ sym f) | inr z ↦ (let z1 = z.1 in let z0 = z.0 in omega arith) ]))
          ]

      two_next : (v u : ℕ) → c ≤ v → suc v ≡ u → u < c + (steps k).vertices → TwoStep v u
      two_next v u a e l =
          let q = ends_placed k lk in
          let q0 = q.0 in
          let q1 = q.1 in
          let lo = b.low in
          let hi = b.high in
          elim (cases_order (v + suc p) (c + j)) [
            | inl same ↦
                let x_is : v ≡ x = elim b.tail [ inl t ↦ (let t0 = t.0 in absurd (omega arith)) | inr t ↦ (let t1 = t.1 in omega arith) ] in
                let y_is : u ≡ y = elim b.head [ inl t ↦ (let t1 = t.1 in omega arith) | inr t ↦ (let t0 = t.0 in absurd (omega arith)) ] in
                changes (two v) (two u) (is_edge (v, u) x y) (two_new v a (omega arith) ∙ le-leb (v + suc p) (c + j) (omega arith)) (two_new u (omega arith) l ∙ lt-leb (u + suc p) (c + j) (omega arith)) (edge_on v u x y x_is y_is)
            | inr (inl less) ↦
                stays (two v) (two u) (is_edge (v, u) x y) (two_new v a (omega arith) ∙ (le-leb (v + suc p) (c + j) (omega arith) ∙ sym (two_new u (omega arith) l ∙ le-leb (u + suc p) (c + j) (omega arith)))) (beside v u a (sym e) (omega arith))
            | inr (inr more) ↦
                stays (two v) (two u) (is_edge (v, u) x y) (two_new v a (omega arith) ∙ (lt-leb (v + suc p) (c + j) (omega arith) ∙ sym (two_new u (omega arith) l ∙ lt-leb (u + suc p) (c + j) (omega arith)))) (beside v u a (sym e) (omega arith))
          ]
        where
          beside : (v u : ℕ) → c ≤ v → u ≡ suc v → v + suc p ≢ c + j → is_edge (v, u) x y ≡ false
          beside v u a e ne =
              let q = ends_placed k lk in
              let q0 = q.0 in
              let q1 = q.1 in
              no_edge v u x y
              (λ ev eu. elim b.tail [ inl t ↦ (let t1 = t.1 in omega arith) | inr t ↦ (let t1 = t.1 in ne (omega arith)) ])
              (λ ev eu. elim b.tail [ inl t ↦ (let t1 = t.1 in omega arith) | inr t ↦ (let t1 = t.1 in elim b.head [ inl z ↦ (let z1 = z.1 in omega arith) | inr z ↦ (let z1 = z.1 in omega arith) ]) ])

      one_steps : (v u : ℕ) → LeadsOne steps n whole some v u → OneStep v u
      one_steps v u (base_one e f) = let t = two_at_least k in one_earlier v u (omega arith) (omega arith)
      one_steps v u (first_one m l e f) =
          let q = (ends_placed m l).0 in
          let s = (run m l).some_vertex in
          elim (cases_order k m) [
            | inl same ↦ one_begin v u (e ∙ ap (λ z. (st z).count) (sym same)) (ap begins same ∙ f)
            | inr (inl after) ↦
                let w = count-le steps (suc k) m after in
                stays (one v) (one u) (is_edge (v, u) x y) (h.later m v after l (omega arith) (omega arith) ∙ ap one f) (newer v u (omega arith))
            | inr (inr before) ↦ let w = count-le steps (suc m) k before in one_earlier v u (omega arith) (omega arith)
          ]
      one_steps v u (next_one m l e f d) =
          elim (cases_order k m) [
            | inl same ↦
                let z = ap (λ z. (st z).count) same in
                let z' = ap (λ z. (steps z).vertices) same in
                one_next v u (omega arith) f (omega arith)
            | inr (inl after) ↦
                let w = count-le steps (suc k) m after in
                stays (one v) (one u) (is_edge (v, u) x y) (h.later m v after l (omega arith) d ∙ sym (h.later m u after l e (omega arith))) (newer v u (omega arith))
            | inr (inr before) ↦ let w = count-le steps (suc m) k before in one_earlier v u (omega arith) (omega arith)
          ]

      two_steps : (v u : ℕ) → LeadsTwo steps n whole some v u → TwoStep v u
      two_steps v u (base_two e f) = let t = two_at_least k in two_earlier v u (omega arith) (omega arith)
      two_steps v u (last_two m l e f) =
          let q = (ends_placed m l).1 in
          let s = (run m l).some_vertex in
          elim (cases_order k m) [
            | inl same ↦
                let z = ap (λ z. (st z).count) same in
                let z' = ap (λ z. (steps z).vertices) same in
                two_end v u (omega arith) (ap ends same ∙ f)
            | inr (inl after) ↦
                let w = count-le steps (suc k) m after in
                stays (two v) (two u) (is_edge (v, u) x y) (g.later m v after l (omega arith) (omega arith) ∙ ap two f) (newer v u (omega arith))
            | inr (inr before) ↦ let w = count-le steps (suc m) k before in two_earlier v u (omega arith) (omega arith)
          ]
      two_steps v u (next_two m l e f d) =
          elim (cases_order k m) [
            | inl same ↦
                let z = ap (λ z. (st z).count) same in
                let z' = ap (λ z. (steps z).vertices) same in
                two_next v u (omega arith) f (omega arith)
            | inr (inl after) ↦
                let w = count-le steps (suc k) m after in
                stays (two v) (two u) (is_edge (v, u) x y) (g.later m v after l e (omega arith) ∙ sym (g.later m u after l (omega arith) d)) (newer v u (omega arith))
            | inr (inr before) ↦ let w = count-le steps (suc m) k before in two_earlier v u (omega arith) (omega arith)
          ]

      pub ways_born : AreWays steps n whole some x y one two
      ways_born = let t = two_at_least k in record { one_root = one_old 0 (omega arith); two_root = two_old 1 (omega arith); one_step = one_steps; two_step = two_steps }

  -- the base
  module _ (one two : ℕ → Bool) (h : IsBegun (λ s. s.first) steps n 0 (λ v. ltb 0 v) one) (g : IsBegun (λ s. s.last) steps n 0 (λ v. leb v 0) two) where
    after_base : (v u : ℕ) → 2 ≤ v → is_edge (v, u) 0 1 ≡ false
    after_base v u l = no_edge v u 0 1 (λ e f. omega arith) (λ e f. omega arith)

    base_ones : (v u : ℕ) → LeadsOne steps n whole some v u → one v ≡ flipped (is_edge (v, u) 0 1) (one u)
    base_ones v u (base_one e f) = changes (one v) (one u) (is_edge (v, u) 0 1) (h.begun v (omega arith) ∙ lt-ltb 0 v (omega arith)) (h.begun u (omega arith) ∙ le-ltb 0 u (omega arith)) (edge_back v u 0 1 e f)
    base_ones v u (first_one m l e f) =
        let t = two_at_least m in
        let s = (run m l).some_vertex in
        stays (one v) (one u) (is_edge (v, u) 0 1) (h.later m v (omega arith) l (omega arith) (omega arith) ∙ ap one f) (after_base v u (omega arith))
    base_ones v u (next_one m l e f d) =
        let t = two_at_least m in
        stays (one v) (one u) (is_edge (v, u) 0 1) (h.later m v (omega arith) l (omega arith) d ∙ sym (h.later m u (omega arith) l e (omega arith))) (after_base v u (omega arith))

    base_twos : (v u : ℕ) → LeadsTwo steps n whole some v u → two v ≡ flipped (is_edge (v, u) 0 1) (two u)
    base_twos v u (base_two e f) = changes (two v) (two u) (is_edge (v, u) 0 1) (g.begun v (omega arith) ∙ le-leb v 0 (omega arith)) (g.begun u (omega arith) ∙ lt-leb u 0 (omega arith)) (edge_on v u 0 1 e f)
    base_twos v u (last_two m l e f) =
        let t = two_at_least m in
        let s = (run m l).some_vertex in
        stays (two v) (two u) (is_edge (v, u) 0 1) (g.later m v (omega arith) l (omega arith) (omega arith) ∙ ap two f) (after_base v u (omega arith))
    base_twos v u (next_two m l e f d) =
        let t = two_at_least m in
        stays (two v) (two u) (is_edge (v, u) 0 1) (g.later m v (omega arith) l e (omega arith) ∙ sym (g.later m u (omega arith) l (omega arith) d)) (after_base v u (omega arith))

    pub ways_base : AreWays steps n whole some 0 1 one two
    ways_base = record { one_root = h.begun 0 (omega arith) ∙ le-ltb 0 0 (omega arith); two_root = g.begun 1 (omega arith) ∙ lt-leb 1 0 (omega arith); one_step = base_ones; two_step = base_twos }

  -- An edge from a place between two faces of a step to its new vertex is on no way along axes one and two.
  module _ (k i : ℕ) (lk : k < n) (low : 0 < i) (high : i < (steps k).faces) where
    abbrev x : ℕ
    x = (st k).vertex ((steps k).cut i)

    abbrev y : ℕ
    y = (st k).count

    between : ((steps k).first < (steps k).cut i) × ((steps k).cut i < (steps k).last)
    between =
        let step = run k lk in
        let a = cut-lt (st k) (steps k) step 0 i low (omega arith) in
        let b = cut-lt (st k) (steps k) step i (steps k).faces high (omega arith) in
        (omega arith, omega arith)

    one_vertex : (steps k).vertices ≡ 1
    one_vertex = elim (run k lk).single [ inl e ↦ e | inr e ↦ absurd (omega arith) ]

    x_old : x < y
    x_old = let w = (run k lk).within in let b = between.1 in (stage_at k (omega arith)).placed ((steps k).cut i) (omega arith)

    not_begin : begins k ≢ x
    not_begin e =
        let w = (run k lk).within in
        let a = between.0 in
        let b = between.1 in
        omega (arith, same_place steps n whole some k (omega arith) (steps k).first ((steps k).cut i) (omega arith) (omega arith) e)

    not_end : ends k ≢ x
    not_end e =
        let w = (run k lk).within in
        let b = between.1 in
        omega (arith, same_place steps n whole some k (omega arith) (steps k).last ((steps k).cut i) w (omega arith) e)

    older_than : (v u : ℕ) → v < y → u < y → is_edge (v, u) x y ≡ false
    older_than v u a b = no_edge v u x y (λ e f. omega arith) (λ e f. omega arith)

    newer_than : (v u : ℕ) → suc y ≤ v → is_edge (v, u) x y ≡ false
    newer_than v u a = let l = x_old in no_edge v u x y (λ e f. omega arith) (λ e f. omega arith)

    middle_ones : (v u : ℕ) → LeadsOne steps n whole some v u → false ≡ flipped (is_edge (v, u) x y) false
    middle_ones v u (base_one e f) = let t = two_at_least k in stays false false (is_edge (v, u) x y) refl (older_than v u (omega arith) (omega arith))
    middle_ones v u (first_one m l e f) = stays false false (is_edge (v, u) x y) refl (elim (cases_order k m) [
      | inl same ↦
          no_edge v u x y (λ ev eu. omega (arith, ap (λ z. (st z).count) same, x_old)) (λ ev eu. not_begin (ap begins same ∙ f ∙ eu))
      | inr (inl after) ↦ let w = count-le steps (suc k) m after in let o = one_vertex in newer_than v u (omega arith)
      | inr (inr before) ↦ let w = count-le steps (suc m) k before in let s = (run m l).some_vertex in let q = (ends_placed m l).0 in older_than v u (omega arith) (omega arith)
    ])
    middle_ones v u (next_one m l e f d) = stays false false (is_edge (v, u) x y) refl (elim (cases_order k m) [
      | inl same ↦ let z = ap (λ z. (st z).count) same in let z' = ap (λ z. (steps z).vertices) same in let o = one_vertex in absurd (omega arith)
      | inr (inl after) ↦ let w = count-le steps (suc k) m after in let o = one_vertex in newer_than v u (omega arith)
      | inr (inr before) ↦ let w = count-le steps (suc m) k before in older_than v u (omega arith) (omega arith)
    ])

    middle_twos : (v u : ℕ) → LeadsTwo steps n whole some v u → false ≡ flipped (is_edge (v, u) x y) false
    middle_twos v u (base_two e f) = let t = two_at_least k in stays false false (is_edge (v, u) x y) refl (older_than v u (omega arith) (omega arith))
    middle_twos v u (last_two m l e f) = stays false false (is_edge (v, u) x y) refl (elim (cases_order k m) [
      | inl same ↦
          let z = ap (λ z. (st z).count) same in
          no_edge v u x y (λ ev eu. omega (arith, one_vertex, ap (λ z. (steps z).vertices) same, x_old)) (λ ev eu. not_end (ap ends same ∙ f ∙ eu))
      | inr (inl after) ↦ let w = count-le steps (suc k) m after in let o = one_vertex in let s = (run m l).some_vertex in newer_than v u (omega arith)
      | inr (inr before) ↦ let w = count-le steps (suc m) k before in let q = (ends_placed m l).1 in older_than v u (omega arith) (omega arith)
    ])
    middle_twos v u (next_two m l e f d) = stays false false (is_edge (v, u) x y) refl (elim (cases_order k m) [
      | inl same ↦ let z = ap (λ z. (st z).count) same in let z' = ap (λ z. (steps z).vertices) same in let o = one_vertex in absurd (omega arith)
      | inr (inl after) ↦ let w = count-le steps (suc k) m after in let o = one_vertex in newer_than v u (omega arith)
      | inr (inr before) ↦ let w = count-le steps (suc m) k before in older_than v u (omega arith) (omega arith)
    ])

    pub ways_middle : AreWays steps n whole some x y (λ v. false) (λ v. false)
    ways_middle = record { one_root = refl; two_root = refl; one_step = middle_ones; two_step = middle_twos }
