-- Which faces of a map lie inside the closed paths of its regions, by what the vertices count over a run.
use Rattle.std.proofs.Common.{◌≡◌, ◌≢◌, ℕ, zero, suc, ◌+◌, ◌-◌, ◌<◌, ◌≤◌, Bool, true, false, not, ◌&&◌, ltb, leb, eqb, List, [], ◌∷◌, ◌++◌, length, refl, sym, ap, ap₂, ◌∙◌, subst, inl, inr, arith}
use Rattle.std.proofs.Math.Bool.{and-true}
use Rattle.std.proofs.lemmas.Bool.{cases_lt, cases_eq, cases_order, lt-ltb, le-ltb, lt-leb, le-leb, eq-eqb, ne_eqb, and_left, and_right, and_from}
use Rattle.map_lists.specs.Lists.{Lists}
use Rattle.map_theory.specs.Maps.{Dart, HasDart, IsSimpleMap}
use Rattle.map_theory.specs.Paths.{SameFace}
use Rattle.contour_runs.specs.Runs.{Stage}
use Rattle.contour_runs.specs.Laws.{IsStage}
use Rattle.contour_runs.specs.FaceRuns.{Step, stage_after, IsRun, faces_made}
use Rattle.contour_runs.specs.FaceRunsLaws.{GoesAlong}
use Rattle.convex_counts.specs.Counts.{face_counts}
use Rattle.contour_runs.proofs.FaceRunsStages.{IsStage-run, count-le}
use Rattle.convex_counts.specs.declared.face_woods.axis.Axis.{Axis}
use Rattle.convex_counts.specs.declared.face_woods.axis.Axis.TheVariants.{One, Two, Three}
use Rattle.convex_counts.specs.Axes.{next, previous}
use Rattle.convex_counts.specs.Rising.{IsRising, IsDart}
use Rattle.convex_counts.proofs.DartKinds.{any_kind}
use Rattle.convex_counts.proofs.Leads.{one_leads, two_leads, three_leads}
use Rattle.convex_peeling.proofs.Faces.{SameFace-labels}
use Rattle.convex_laws.specs.ConvexWoods.{AreRoots, IsOut}
use Rattle.convex_laws.specs.ConvexWoodsLaws.{AreRisingOut}
use Rattle.convex_laws.specs.Walks.{flipped, turned, is_edge, is_odd_on}
use Rattle.convex_laws.specs.Regions.{IsAxisWay, IsOuterWay, IsRegionWalk}
use Rattle.convex_laws.proofs.Flips.{flipped_comm, flipped_false}
use Rattle.convex_laws.proofs.WalkLemmas.{is_odd_on-append, is_odd_on-turned_walk}
use Rattle.convex_laws.proofs.AllDarts.{rank_at, run_dart, goes_all}
use Rattle.convex_laws.proofs.OuterFace.{outer-SameFace}
use Rattle.convex_laws.proofs.Outs.{IsWoodRun, rank_one, rank_two, rank_three, root_in, out_rises}
use Rattle.convex_laws.proofs.Heights.{height}
use Rattle.convex_laws.proofs.ConvexWoodsWhole.{out_higher, most}
use Rattle.convex_laws.proofs.WayTests.{no_edge, edge_on, edge_back}
use Rattle.convex_laws.proofs.EdgeTests.{ltb_not}
use Rattle.convex_laws.proofs.FaceTests.{test-outer, one_hits, two_hits}
use Rattle.convex_laws.proofs.RunSides.{ones, twos, IsBy, inner, last, base, IsSided, sided_at, one_number, base_off, base_behind}
use Rattle.convex_laws.proofs.Degrees.{is_odd_on-turned}

inner_three : (p q r : Bool) → flipped (flipped (flipped q r) false) (flipped (flipped p r) false) ≡ flipped p (flipped false q)
inner_three x0 x1 x2 = grind arith

both_nots : (a b c d : Bool) → flipped (not (flipped a b)) (not (flipped c d)) ≡ flipped (flipped a c) (flipped b d)
both_nots x0 x1 x2 x3 = grind arith

outer_last : (p q r t : Bool) → not (flipped (flipped (flipped q r) t) (flipped (flipped p r) (not t))) ≡ flipped p (flipped false q)
outer_last x0 x1 x2 x3 = grind arith

outer_base : (p q r : Bool) → not (flipped (flipped (flipped q r) false) (flipped (flipped p r) false)) ≡ flipped p (flipped true q)
outer_base x0 x1 x2 = grind arith

side_first : (p q o : Bool) → flipped (flipped p q) o ≡ flipped p (flipped o q)
side_first x0 x1 x2 = grind arith

side_second : (p q o : Bool) → flipped (flipped p q) o ≡ flipped q (flipped o p)
side_second x0 x1 x2 = grind arith

-- the darts from a place of a walk to the next, so many from place a on
abbrev pub darts_along : (ℕ → ℕ) → ℕ → ℕ → List Dart
darts_along w a zero = []
darts_along w a (suc k) = (w a, w (suc a)) ∷ darts_along w (suc a) k

none_odd : (w : ℕ → ℕ) (x y a k : ℕ) → ((j : ℕ) → a ≤ j → j < a + k → is_edge (w j, w (suc j)) x y ≡ false) → is_odd_on (darts_along w a k) x y ≡ false
none_odd w x y a zero h = refl
none_odd w x y a (suc k) h = ap₂ flipped (h a (omega arith) (omega arith)) (none_odd w x y (suc a) k (λ j l m. h j (omega arith) (omega arith)))

some_odd : (w : ℕ → ℕ) (x y i a k : ℕ) → ((j : ℕ) → a ≤ j → j < a + k → is_edge (w j, w (suc j)) x y ≡ eqb j i) → is_odd_on (darts_along w a k) x y ≡ (leb a i && ltb i (a + k))
some_odd w x y i a zero h = grind (arith, cases_lt, and_left, leb, ltb, lt-leb, and_right, le-ltb)
some_odd w x y i a (suc k) h =
    let e : a + suc k ≡ suc a + k = omega arith in
    ap₂ flipped (h a (omega arith) (omega arith)) (some_odd w x y i (suc a) k (λ j l m. h j (omega arith) (omega arith)))
    ∙ elim (cases_order a i) [
      | inl same ↦ ap₂ flipped (eq-eqb a i same) (and_left (leb (suc a) i) (ltb i (suc a + k)) (lt-leb (suc a) i (omega arith))) ∙ sym (and_from (leb a i) (ltb i (a + suc k)) (le-leb a i (omega arith)) (lt-ltb i (a + suc k) (omega arith)))
      | inr (inl less) ↦ ap (λ z. flipped z (leb (suc a) i && ltb i (suc a + k))) (ne_eqb a i (λ q. omega arith)) ∙ ap₂ (λ p q. p && q) (le-leb (suc a) i (omega arith) ∙ sym (le-leb a i (omega arith))) (ap (ltb i) (sym e))
      | inr (inr more) ↦ ap₂ flipped (ne_eqb a i (λ q. omega arith)) (and_left (leb (suc a) i) (ltb i (suc a + k)) (lt-leb (suc a) i (omega arith))) ∙ sym (and_left (leb a i) (ltb i (a + suc k)) (lt-leb a i (omega arith)))
    ]

module _ (lists : Lists) (s d : ℕ) (steps : ℕ → Step) (n : ℕ) (rank : ℕ → ℕ) (face : ℕ → ℕ → ℕ) (at : ℕ → ℕ) (h : IsWoodRun lists s d steps n rank face at) (root : Axis → ℕ) (roots : AreRoots lists (s, d) root) (out_of : Axis → ℕ → ℕ) (are : AreRisingOut lists (face_counts steps n) rank root out_of) where
  abbrev simple : IsSimpleMap lists
  simple = h.map.simple

  abbrev run : IsRun steps n
  run = h.whole.turned.run

  abbrev g : Stage
  g = stage_after steps n

  stage : IsStage g
  stage = IsStage-run steps n run

  abbrev pub many : ℕ
  many = faces_made steps n

  abbrev top : ℕ
  top = h.whole.top

  of_rank : (r : ℕ) → r < length lists → rank (at r) ≡ r
  of_rank r l = rank_at lists s d steps n rank face at run h.map h.all h.below h.one h.named r l

  head_in : (x y : ℕ) → HasDart lists x y → y < length lists
  head_in x y has = simple.in_range x y has

  -- edges by ranks
  eqb-rank : (v x : ℕ) → v < length lists → x < length lists → eqb (rank v) (rank x) ≡ eqb v x
  eqb-rank v x lv lx = grind (arith, lx, cases_eq, eq-eqb, ne_eqb)

  is_edge-rank : (v u x y : ℕ) → v < length lists → u < length lists → x < length lists → y < length lists → is_edge (rank v, rank u) (rank x) (rank y) ≡ is_edge (v, u) x y
  is_edge-rank v u x y lv lu lx ly = grind (arith, lx, ly, ap₂, eqb-rank)

  -- ---- ways along an axis
  abbrev up : Axis → ℕ → ℕ
  up c v = height (face_counts steps n) many c (rank v)

  out_at : (c : Axis) (v : ℕ) → v < length lists → v ≢ root c → IsOut lists root out_of c v (out_of c v)
  out_at c v l ne = record { vertex = l; other = ne; is = refl }

  way_from : (k : ℕ) (c : Axis) (v : ℕ) → v < length lists → many ≤ up c v + k → (ds : List Dart) × IsAxisWay lists root out_of c v (root c) ds
  way_from zero c v l a = elim (cases_eq v (root c)) [
    | inl e ↦ ([], e)
    | inr ne ↦
        let o = out_at c v l ne in
        let u = out_of c v in
        let b = most lists s d steps n rank face at h root roots out_of are c u (head_in v u (out_rises lists s d steps n rank face at h root roots out_of are c v u o).0) in
        absurd (omega (arith, out_higher lists s d steps n rank face at h root roots out_of are c v u o))
  ]
  way_from (suc k) c v l a = elim (cases_eq v (root c)) [
    | inl e ↦ ([], e)
    | inr ne ↦
        let o = out_at c v l ne in
        let u = out_of c v in
        let rise = out_higher lists s d steps n rank face at h root roots out_of are c v u o in
        let rest = way_from k c u (head_in v u (out_rises lists s d steps n rank face at h root roots out_of are c v u o).0) (omega arith) in
        ((v, u) ∷ rest.0, (refl, o, rest.1))
  ]

  way : (c : Axis) (v : ℕ) → v < length lists → (ds : List Dart) × IsAxisWay lists root out_of c v (root c) ds
  way c v l = way_from many c v l (omega arith)

  -- ---- ways along the outer face
  abbrev w : ℕ → ℕ
  w j = at (g.vertex j)

  in_all : (j : ℕ) → j < g.width → g.vertex j < length lists
  in_all j l = let p = stage.placed j l in let a = h.all in omega arith

  rank_w : (j : ℕ) → j < g.width → rank (w j) ≡ g.vertex j
  rank_w j l = of_rank (g.vertex j) (in_all j l)

  along_has : (j : ℕ) → suc j < g.width → HasDart lists (w j) (w (suc j))
  along_has j l = goes_all lists s d steps n rank face at run h.map h.all h.below h.one h.named n (omega arith) (g.vertex j) (g.vertex (suc j)) j record { within = l; tail = refl; head = refl }

  along_outer : (j : ℕ) → suc j < g.width → SameFace lists (s, d) (w j, w (suc j))
  along_outer j l =
      let has = along_has j l in
      let goes : GoesAlong g (rank (w j)) (rank (w (suc j))) j = record { within = l; tail = sym (rank_w j (omega arith)); head = sym (rank_w (suc j) l) } in
      outer-SameFace lists s d steps n rank face run h.map (w j) (w (suc j)) has
      (one_number steps n h.whole h.some (rank (w j)) (rank (w (suc j))) (face (w j) (w (suc j))) many (h.map.on_face (w j) (w (suc j)) has) (inr (inl record { place = j; along = goes; number = refl })))

  outer_from : (avoided a k b : ℕ) → a + k ≡ b → b < g.width → ((j : ℕ) → a ≤ j → j < b → w j ≢ avoided) → IsOuterWay lists (s, d) avoided (w a) (w b) (darts_along w a k)
  outer_from avoided a zero b e l ne = let z : a ≡ b = omega arith in ap w z
  outer_from avoided a (suc k) b e l ne = (refl, along_has a (omega arith), along_outer a (omega arith), ne a (omega arith) (omega arith), outer_from avoided (suc a) k b (omega arith) l (λ j p q. ne j (omega arith) q))

  abbrev end : ℕ
  end = g.width - 1

  many_vertices : 3 ≤ g.count
  many_vertices = let c = count-le steps 1 n h.some in let v = (run 0 h.some).some_vertex in omega arith

  top_vertex : suc (g.vertex top) ≡ g.count
  top_vertex = h.whole.last

  top_positive : 0 < top
  top_positive = grind (arith, cases_lt, top, stage, many_vertices, top_vertex)

  top_before : top < end
  top_before = grind (arith, cases_lt, top, end, stage, many_vertices, top_vertex)

  w_is : (j v : ℕ) → v < length lists → g.vertex j ≡ rank v → w j ≡ v
  w_is j v l e = ap at e ∙ h.named v l

  root_lt : (c : Axis) → root c < length lists
  root_lt c = root_in lists s d steps n rank face at h root roots c

  w_first : w 0 ≡ root One
  w_first = w_is 0 (root One) (root_lt One) (stage.begin ∙ sym (rank_one lists s d steps n rank face at h root roots))

  w_top : w top ≡ root Three
  w_top =
      w_is top (root Three) (root_lt Three) (omega (arith, rank_three lists s d steps n rank face at h root roots))

  w_end : w end ≡ root Two
  w_end =
      w_is end (root Two) (root_lt Two) (stage.end end (omega arith) ∙ sym (rank_two lists s d steps n rank face at h root roots))

  vertex_once : (i j : ℕ) → i < g.width → j < g.width → g.vertex i ≡ g.vertex j → i ≡ j
  vertex_once i j l m e = sym (stage.own i l) ∙ (ap g.place e ∙ stage.own j m)

  w_once : (i j : ℕ) → i < g.width → j < g.width → w i ≡ w j → i ≡ j
  w_once i j l m e = vertex_once i j l m (sym (rank_w i l) ∙ (ap rank e ∙ rank_w j m))

  abbrev pub outer_list : Axis → List Dart
  outer_list One = darts_along w top (end - top)
  outer_list Two = darts_along w 0 top
  outer_list Three = (s, d) ∷ []

  outer_way : (c : Axis) → IsOuterWay lists (s, d) (root c) (root (previous c)) (root (next c)) (outer_list c)
  outer_way One = grind (arith, top_positive, IsOuterWay, One, Two, outer_list, w_top, top, w_end, outer_from, end, w_once, w_first)
  outer_way Two =
      subst (λ v. IsOuterWay lists (s, d) (root Two) v (root Three) (outer_list Two)) w_first (subst (λ u. IsOuterWay lists (s, d) (root Two) (w 0) u (outer_list Two)) w_top
      (outer_from (root Two) 0 top top (omega arith) (omega arith) (λ j a b e. let z = w_once j end (omega arith) (omega arith) (e ∙ sym w_end) in omega arith)))
  outer_way Three =
      let r = rank_three lists s d steps n rank face at h root roots in
      (sym roots.two, h.map.dart, SameFace-labels lists s d s d refl, (λ e. let z = ap rank e in omega (arith, many_vertices)), sym roots.one)

  -- the closed path of a region
  pub region_walk : (c : Axis) (v : ℕ) → v < length lists → (walk : List Dart) × IsRegionWalk lists (s, d) root out_of c v walk
  region_walk c v l =
      let a = way (next c) v l in
      let b = way (previous c) v l in
      (a.0 ++ (turned (outer_list c) ++ turned b.0), record { ahead = a.0; outer = outer_list c; back = b.0; along_next = a.1; along_outer = outer_way c; along_previous = b.1; is = refl })

  -- ---- which faces a vertex counts, in the coordinate of an axis
  abbrev pub ones_at : ℕ → ℕ → Bool
  ones_at f v = ones steps n h.whole h.some f (rank v)

  abbrev pub twos_at : ℕ → ℕ → Bool
  twos_at f v = twos steps n h.whole h.some f (rank v)

  abbrev pub label : Axis → ℕ → ℕ → Bool
  label One f v = ones_at f v
  label Two f v = twos_at f v
  label Three f v = ltb f many && not (flipped (ones_at f v) (twos_at f v))

  no_ones : (f v : ℕ) → f ≡ many → ones_at f v ≡ false
  no_ones f v e = ap (λ f. ones_at f v) e ∙ test-outer (λ s. s.last) one_hits steps n (rank v)

  no_twos : (f v : ℕ) → f ≡ many → twos_at f v ≡ false
  no_twos f v e = ap (λ f. twos_at f v) e ∙ test-outer (λ s. s.first) two_hits steps n (rank v)

  pub three_inner : (f v : ℕ) → f < many → label Three f v ≡ not (flipped (ones_at f v) (twos_at f v))
  three_inner f v l = ap (λ b. b && not (flipped (ones_at f v) (twos_at f v))) (lt-ltb f many l)

  three_outer : (f v : ℕ) → f ≡ many → label Three f v ≡ false
  three_outer f v e = ap (λ b. b && not (flipped (ones_at f v) (twos_at f v))) (le-ltb f many (omega arith))

  pub label-outer : (c : Axis) (f v : ℕ) → f ≡ many → label c f v ≡ false
  label-outer One f v e = no_ones f v e
  label-outer Two f v e = no_twos f v e
  label-outer Three f v e = three_outer f v e

  -- ---- whether they pass an edge
  abbrev Sided : ℕ → ℕ → Type 0
  Sided x y = IsSided steps n h.whole h.some (rank x) (rank y) (face x y) (face y x)

  module _ (x y : ℕ) (has : HasDart lists x y) (q : Sided x y) where
    abbrev passing : Axis → ℕ → Bool
    passing One v = q.one v
    passing Two v = q.two v
    passing Three v = q.three v

    abbrev outer_passing : Axis → Bool
    outer_passing One = q.outer_one
    outer_passing Two = q.outer_two
    outer_passing Three = q.outer_three

    lx : x < length lists
    lx = has.0

    ly : y < length lists
    ly = head_in x y has

    passing-root : (c : Axis) → passing c (rank (root c)) ≡ false
    passing-root One = ap q.one (rank_one lists s d steps n rank face at h root roots) ∙ q.ways.one_root
    passing-root Two = ap q.two (rank_two lists s d steps n rank face at h root roots) ∙ q.ways.two_root
    passing-root Three = q.third.root (rank (root Three)) (rank_three lists s d steps n rank face at h root roots ∙ sym h.all)

    on_run : (v u : ℕ) → HasDart lists v u → IsDart steps n (rank v) (rank u)
    on_run v u a = run_dart lists s d steps n rank face at run h.map h.all h.below h.one h.named v u a

    passing-ranks : (c : Axis) (v u : ℕ) → HasDart lists v u → IsRising (face_counts steps n) c (rank v) (rank u) → passing c (rank v) ≡ flipped (is_edge (rank v, rank u) (rank x) (rank y)) (passing c (rank u))
    passing-ranks One v u a r = q.ways.one_step (rank v) (rank u) (one_leads steps n h.whole h.some (rank v) (rank u) (any_kind steps n h.whole (rank v) (rank u) h.some (on_run v u a)) r)
    passing-ranks Two v u a r = q.ways.two_step (rank v) (rank u) (two_leads steps n h.whole h.some (rank v) (rank u) (any_kind steps n h.whole (rank u) (rank v) h.some (on_run u v (simple.both_ways v u a))) r)
    passing-ranks Three v u a r = q.third.step (rank v) (rank u) (three_leads steps n h.whole h.some (rank v) (rank u) (any_kind steps n h.whole (rank v) (rank u) h.some (on_run v u a)) (any_kind steps n h.whole (rank u) (rank v) h.some (on_run u v (simple.both_ways v u a))) r)

    passing-step : (c : Axis) (v u : ℕ) → IsOut lists root out_of c v u → passing c (rank v) ≡ flipped (is_edge (v, u) x y) (passing c (rank u))
    passing-step c v u o =
        let r = out_rises lists s d steps n rank face at h root roots out_of are c v u o in
        passing-ranks c v u r.0 r.1 ∙ ap (λ z. flipped z (passing c (rank u))) (is_edge-rank v u x y o.vertex (head_in v u r.0) lx ly)

    way_odd : (c : Axis) (v : ℕ) (ds : List Dart) → IsAxisWay lists root out_of c v (root c) ds → is_odd_on ds x y ≡ passing c (rank v)
    way_odd c v [] e = sym (ap (λ z. passing c (rank z)) e ∙ passing-root c)
    way_odd c v (e ∷ ds) a =
        ap₂ flipped (ap (λ z. is_edge (z, e.1) x y) a.0) (way_odd c e.1 ds a.2) ∙ sym (passing-step c v e.1 a.1)

    edge_w : (j : ℕ) → suc j < g.width → is_edge (w j, w (suc j)) x y ≡ is_edge (g.vertex j, g.vertex (suc j)) (rank x) (rank y)
    edge_w j l =
        let a = along_has j l in
        sym (is_edge-rank (w j) (w (suc j)) x y a.0 (head_in (w j) (w (suc j)) a) lx ly) ∙ ap₂ (λ p q. is_edge (p, q) (rank x) (rank y)) (rank_w j (omega arith)) (rank_w (suc j) l)

    off_w : ((p : ℕ) → ¬ GoesAlong g (rank x) (rank y) p) → ((p : ℕ) → ¬ GoesAlong g (rank y) (rank x) p) → (j : ℕ) → suc j < g.width → is_edge (w j, w (suc j)) x y ≡ false
    off_w a b j l =
        edge_w j l ∙ no_edge (g.vertex j) (g.vertex (suc j)) (rank x) (rank y) (λ e f. a j record { within = l; tail = e; head = f }) (λ e f. b j record { within = l; tail = e; head = f })

    on_w : (i : ℕ) → GoesAlong g (rank x) (rank y) i → (j : ℕ) → suc j < g.width → is_edge (w j, w (suc j)) x y ≡ eqb j i
    on_w i a j l = grind (arith, edge_w, cases_eq, edge_on, eq-eqb, no_edge, vertex_once, ne_eqb)

    -- the base
    base_w : is_odd_on ((s, d) ∷ []) x y ≡ is_edge (1, 0) (rank x) (rank y)
    base_w =
        flipped_false (is_edge (s, d) x y) ∙ (sym (is_edge-rank s d x y h.map.dart.0 (head_in s d h.map.dart) lx ly) ∙ ap₂ (λ p q. is_edge (p, q) (rank x) (rank y)) h.map.second h.map.first)

    is_base : (v u : ℕ) → v < length lists → u < length lists → 1 ≡ rank v → 0 ≡ rank u → face v u ≡ many
    is_base v u lv lu e f =
        let b : u ≡ d = h.map.ranks u d lu (head_in s d h.map.dart) (sym f ∙ sym h.map.first) in
        ap₂ face (h.map.ranks v s lv h.map.dart.0 (sym e ∙ sym h.map.second)) b ∙ h.map.outer

    back : rank x ≡ 0 → rank y ≡ 1 → (p : ℕ) → ¬ GoesAlong g (rank y) (rank x) p
    back ex ey p a = base_behind steps n h.whole h.some n p (omega arith) (subst (λ z. GoesAlong g z 0 p) ey (subst (λ z. GoesAlong g (rank y) z p) ex a))

    outer_odd : (c : Axis) → is_odd_on (outer_list c) x y ≡ outer_passing c
    outer_odd c = by_kind c q.by
      where
        by_kind : (c : Axis) → IsBy steps n h.whole h.some (rank x) (rank y) (face x y) (face y x) q.outer_one q.outer_two q.outer_three → is_odd_on (outer_list c) x y ≡ outer_passing c
        by_kind One (inner lf lg a b e1 e2 e3) = let t = top_before in none_odd w x y top (end - top) (λ j p r. off_w a b j (omega arith)) ∙ sym e1
        by_kind Two (inner lf lg a b e1 e2 e3) = let t = top_before in none_odd w x y 0 top (λ j p r. off_w a b j (omega arith)) ∙ sym e2
        by_kind Three (inner lf lg a b e1 e2 e3) =
            base_w ∙ (no_edge 1 0 (rank x) (rank y) (λ e f. let z = is_base x y lx ly e f in omega arith) (λ e f. let z = is_base y x ly lx e f in omega arith) ∙ sym e3)
        by_kind One (last i a ef lg e1 e2 e3) =
            some_odd w x y i top (end - top) (λ j p r. on_w i a j (omega arith)) ∙ (ap (λ z. leb top i && z) (lt-ltb i (top + (end - top)) (omega arith)) ∙ (and-true (leb top i) ∙ sym e1))
        by_kind Two (last i a ef lg e1 e2 e3) =
            let z : 0 + top ≡ top = omega arith in
            some_odd w x y i 0 top (λ j p r. on_w i a j (omega arith)) ∙ (ap₂ (λ p q. p && q) (le-leb 0 i (omega arith)) (ap (ltb i) z) ∙ (ltb_not i top ∙ sym e2))
        by_kind Three (last i a ef lg e1 e2 e3) =
            base_w ∙ (no_edge 1 0 (rank x) (rank y)
            (λ e f. base_behind steps n h.whole h.some n i (omega arith) (subst (λ z. GoesAlong g z 0 i) (sym e) (subst (λ z. GoesAlong g (rank x) z i) (sym f) a)))
            (λ e f. base_off steps n h.whole h.some i (subst (λ z. GoesAlong g z 1 i) (sym f) (subst (λ z. GoesAlong g (rank x) z i) (sym e) a)))
            ∙ sym e3)
        by_kind One (base ex ey lf eg a e1 e2 e3) = let t = top_before in none_odd w x y top (end - top) (λ j p r. off_w a (back ex ey) j (omega arith)) ∙ sym e1
        by_kind Two (base ex ey lf eg a e1 e2 e3) = let t = top_before in none_odd w x y 0 top (λ j p r. off_w a (back ex ey) j (omega arith)) ∙ sym e2
        by_kind Three (base ex ey lf eg a e1 e2 e3) = base_w ∙ (edge_back 1 0 (rank x) (rank y) (sym ey) (sym ex) ∙ sym e3)

    -- the faces on both sides, and the closed path
    three_sides : (v : ℕ) → v < length lists → IsBy steps n h.whole h.some (rank x) (rank y) (face x y) (face y x) q.outer_one q.outer_two q.outer_three → flipped (label Three (face x y) v) (label Three (face y x) v) ≡ flipped (q.one (rank v)) (flipped q.outer_three (q.two (rank v)))
    three_sides v l (inner lf lg a b e1 e2 e3) = grind (arith, flipped, ap₂, three_inner, both_nots, ones_at, twos_at, inner_three)
    three_sides v l (last i a ef lg e1 e2 e3) = grind (arith, leb, top, ones_at, flipped, no_ones, twos_at, not, no_twos, ap₂, three_outer, three_inner, outer_last)
    three_sides v l (base ex ey lf eg a e1 e2 e3) = grind (arith, ones_at, flipped, no_ones, flipped_false, twos_at, no_twos, ap₂, three_inner, three_outer, not, outer_base)

    labels_differ : (c : Axis) (v : ℕ) → v < length lists → flipped (label c (face x y) v) (label c (face y x) v) ≡ flipped (passing (next c) (rank v)) (flipped (outer_passing c) (passing (previous c) (rank v)))
    labels_differ One v l = q.side_one (rank v) (h.map.placed v l) ∙ side_first (q.two (rank v)) (q.three (rank v)) q.outer_one
    labels_differ Two v l = q.side_two (rank v) (h.map.placed v l) ∙ side_second (q.one (rank v)) (q.three (rank v)) q.outer_two
    labels_differ Three v l = three_sides v l q.by

    sides_told : (c : Axis) (v : ℕ) (l : v < length lists) → flipped (label c (face x y) v) (label c (face y x) v) ≡ is_odd_on (region_walk c v l).0 x y
    unfolding region_walk
    sides_told c v l =
        let a = way (next c) v l in
        let b = way (previous c) v l in
        let o = outer_list c in
        labels_differ c v l
        ∙ sym (is_odd_on-append a.0 (turned o ++ turned b.0) x y
        ∙ ap₂ flipped (way_odd (next c) v a.0 a.1)
        (is_odd_on-append (turned o) (turned b.0) x y ∙ ap₂ flipped (is_odd_on-turned_walk o x y ∙ outer_odd c) (is_odd_on-turned_walk b.0 x y ∙ way_odd (previous c) v b.0 b.1)))

  -- The closed path passes an edge an odd number of times just where the vertex counts one of the faces on its two sides, and not the other.
  pub label_sides : (c : Axis) (v x y : ℕ) (l : v < length lists) → HasDart lists x y → flipped (label c (face x y) v) (label c (face y x) v) ≡ is_odd_on (region_walk c v l).0 x y
  label_sides c v x y l has =
      let back = simple.both_ways x y has in
      elim (sided_at steps n h.whole h.some (rank x) (rank y) (face x y) (face y x) (h.map.on_face x y has) (h.map.on_face y x back)) [
        | inl q ↦ sides_told x y has q c v l
        | inr q ↦ flipped_comm (label c (face x y) v) (label c (face y x) v) ∙ (sides_told y x back q c v l ∙ is_odd_on-turned (region_walk c v l).0 x y)
      ]
