-- The coordinates of a run are the face counts of the regions of its wood.
use Rattle.std.proofs.Common.{◌≡◌, ◌≢◌, ◌⊎◌, ℕ, zero, suc, ◌+◌, ◌-◌, ◌<◌, ◌≤◌, pos, Bool, true, false, not, ◌&&◌, eqb, List, length, refl, sym, ap, ap₂, ◌∙◌, subst, inl, inr, arith}
use Rattle.std.proofs.lemmas.Bool.{cases_lt, cases_eq, lt-ltb, eq-eqb, ne_eqb, and_from}
use Rattle.std.proofs.Math.Bool.{and_comm}
use Rattle.classes.specs.Classes.{count_below, same_class, label as label_in}
use Rattle.classes.proofs.Counting.{one_if, count_below_same, count_below_into, count_below_not, count_below_split}
use Rattle.classes.proofs.Classes.{IsLabels, label-lt}
use Rattle.classes.proofs.Orbits.{length-orbits, IsLabels-orbits}
use Rattle.map_lists.specs.Lists.{Lists}
use Rattle.map_theory.specs.Maps.{Dart, HasDart, IsSimpleMap, IsPlane, face_classes, face_images, face_count, dart_count, dart_number, component_count}
use Rattle.map_theory.proofs.DartLemmas.{dart_number-lt, get_or-dart_number, length-face_images, IsPermutationOfBelow-face_images, HasDart-face_step}
use Rattle.map_theory.proofs.DartPermutations.{dart_of, dart_of-number}
use Rattle.pg_plane.specs.declared.grid_points.Point.{Point}
use Rattle.plane_drawings.specs.Drawing.{place}
use Rattle.contour_runs.specs.Wood.{Coordinates, point_of}
use Rattle.contour_runs.specs.FaceRuns.{Step, stage_after, IsRun, IsDartOf, faces_made}
use Rattle.convex_counts.specs.Counts.{face_counts}
use Rattle.convex_counts.specs.Turns.{well_turned}
use Rattle.convex_counts.proofs.Steps.{IsFalling-run}
use Rattle.contour_runs.proofs.FaceRunsPlaces.{cut-last, cut-next}
use Rattle.contour_runs.proofs.FaceRunsStages.{IsStage-run, IsRun-less, count-le}
use Rattle.convex_counts.specs.Rising.{IsRising}
use Rattle.convex_counts.specs.declared.face_woods.axis.Axis.{Axis}
use Rattle.convex_counts.specs.declared.face_woods.axis.Axis.TheVariants.{One, Two, Three}
use Rattle.convex_peeling.specs.Contours.{face_of}
use Rattle.convex_peeling.proofs.Faces.{along_face}
use Rattle.convex_laws.specs.ConvexWoods.{AreRoots}
use Rattle.convex_laws.specs.ConvexWoodsLaws.{IsNamedRun, AreRisingOut}
use Rattle.convex_laws.specs.RegionDrawings.{IsCoordinate, IsRegionDrawing}
use Rattle.convex_laws.specs.Signs.{IsRisingBy}
use Rattle.convex_laws.proofs.SignLemmas.{IsRising-points}
use Rattle.convex_laws.specs.Walks.{flipped, is_odd_on, IsWalk}
use Rattle.euler_faces.specs.Chains.{GoesOn, along, over, ReachesBy, Reaches}
use Rattle.convex_laws.specs.ClosedWalksLaws.{HasSide}
use Rattle.convex_laws.specs.Inside.{is_other_face}
use Rattle.convex_laws.specs.Regions.{IsRegionWalk, IsFaceRegion}
use Rattle.convex_laws.proofs.Flips.{flipped_twice, flipped_comm}
use Rattle.convex_laws.proofs.Sides.{sides_are_known}
use Rattle.convex_laws.proofs.RegionWalks.{IsRegionWalk-closed}
use Rattle.convex_laws.proofs.AllDarts.{rank_at, goes_all, numbered}
use Rattle.convex_laws.proofs.Outs.{IsWoodRun, rises_out}
use Rattle.convex_laws.proofs.Heights.{height}
use Rattle.convex_laws.proofs.ConvexWoodsWhole.{wood_at, IsWoodRun-named, some_out}
use Rattle.convex_laws.proofs.FaceTests.{one_counted, two_counted, one_is_count, two_is_count}
use Rattle.convex_laws.proofs.TestOrders.{tests_apart}
use Rattle.convex_laws.proofs.WoodSides.{label, label-outer, label_sides, region_walk, three_inner}
use Rattle.convex_laws.specs.ConvexDrawings.{AreCountPoints}

flip_back : (p q o : Bool) → flipped p q ≡ o → q ≡ flipped o p
flip_back p q o e = sym (flipped_twice p q) ∙ (ap (flipped p) e ∙ flipped_comm p o)

one_if_flipped : (x y : Bool) → (x ≡ true → y ≡ true → ⊥) → one_if (flipped x y) ≡ one_if x + one_if y
one_if_flipped true true h = absurd (h refl refl)
one_if_flipped true false h = refl
one_if_flipped false y h = omega arith

count_below-flipped : (p q : ℕ → Bool) (n : ℕ) → ((i : ℕ) → i < n → p i ≡ true → q i ≡ true → ⊥) → count_below (λ i. flipped (p i) (q i)) n ≡ count_below p n + count_below q n
count_below-flipped p q zero h = refl
count_below-flipped p q (suc n) h = omega (arith, count_below-flipped p q n (λ i l. h i (omega arith)), one_if_flipped (p n) (q n) (h n (omega arith)))

-- the step and the place of a face
made_by : (steps : ℕ → Step) (n f : ℕ) → f < faces_made steps n → (k : ℕ) × (i : ℕ) × (k < n) × (i < (steps k).faces) × (f ≡ faces_made steps k + i)
made_by steps zero f l = absurd (omega arith)
made_by steps (suc n) f l = elim (cases_lt f (faces_made steps n)) [
  | inl old ↦ let z = made_by steps n f old in (z.0, z.1, let m = z.2 in omega arith, z.3, z.4)
  | inr new ↦ (n, f - faces_made steps n, omega arith, omega arith, omega arith)
]

module _ (lists : Lists) (s d : ℕ) (steps : ℕ → Step) (n : ℕ) (rank : ℕ → ℕ) (face : ℕ → ℕ → ℕ) (at : ℕ → ℕ) (h : IsWoodRun lists s d steps n rank face at) (root : Axis → ℕ) (roots : AreRoots lists (s, d) root) (out_of : Axis → ℕ → ℕ) (are : AreRisingOut lists (face_counts steps n) rank root out_of) (plane : IsPlane lists) (connected : component_count lists ≡ 1) (all_faces : faces_made steps n + 1 ≡ face_count lists) where
  abbrev simple : IsSimpleMap lists
  simple = h.map.simple

  abbrev run : IsRun steps n
  run = h.whole.turned.run

  abbrev many : ℕ
  many = faces_made steps n

  abbrev C : List ℕ
  C = face_classes lists

  C_labels : IsLabels C
  C_labels = IsLabels-orbits (face_images lists) (IsPermutationOfBelow-face_images lists simple).within

  C_length : length C ≡ dart_count lists
  C_length = length-orbits (face_images lists) ∙ length-face_images lists

  abbrev K : ℕ
  K = dart_count lists

  abbrev tail : ℕ → ℕ
  tail i = (dart_of lists i).0

  abbrev head : ℕ → ℕ
  head i = (dart_of lists i).1

  abbrev other : ℕ → Bool
  other i = is_other_face lists (s, d) i

  -- the least number of a dart on each face that is made
  record Picked (f m : ℕ) : Type 0 where
    pub within : m < K
    pub number : face (tail m) (head m) ≡ f
    pub is_other : other m ≡ true

  picked : (f : ℕ) → f < many → (m : ℕ) × Picked f m
  picked f l =
      let z = made_by steps n f l in
      let k = z.0 in
      let i = z.1 in
      let li = z.3 in
      let g = stage_after steps k in
      let step = run k z.2 in
      let stage = IsStage-run steps k (IsRun-less steps k n (omega arith) run) in
      let j = (steps k).cut i in
      let c = cut-last g (steps k) step (suc i) li in
      let c' = cut-next g (steps k) step i li in
      let x = at (g.vertex j) in
      let y = at (g.vertex (suc j)) in
      let has = goes_all lists s d steps n rank face at run h.map h.all h.below h.one h.named k (omega arith) (g.vertex j) (g.vertex (suc j)) j record { within = omega arith; tail = refl; head = refl } in
      let q = count-le steps k n (omega arith) in
      let rx = rank_at lists s d steps n rank face at run h.map h.all h.below h.one h.named (g.vertex j) (let p = stage.placed j (omega arith) in omega arith) in
      let ry = rank_at lists s d steps n rank face at run h.map h.all h.below h.one h.named (g.vertex (suc j)) (let p = stage.placed (suc j) (omega arith) in omega arith) in
      let dart : IsDartOf g (steps k) i (rank x) (rank y) = record { within = li; dart = inl record { place = j; low = omega arith; high = c'; tail = sym rx; head = sym ry } } in
      let e : face x y ≡ f = numbered lists s d steps n rank face at run h.map h.all h.below h.one h.named k i x y z.2 has dart ∙ sym z.4 in
      (label_in C (dart_number lists (x, y)), picked_of f x y l has e)
    where
      picked_of : (f x y : ℕ) → f < many → HasDart lists x y → face x y ≡ f → Picked f (label_in C (dart_number lists (x, y)))
      picked_of f x y l has e =
          let i = dart_number lists (x, y) in
          let m = label_in C i in
          let size = C_length in
          let within : m < K = let low = label-lt C C_labels i (let k = dart_number-lt lists x y has in omega arith) in omega arith in
          let own : label_in C m ≡ m = C_labels.own i in
          let at_m = dart_of-number lists simple m within in
          let same : face_of lists (tail m) (head m) ≡ m = ap (label_in C) at_m.number ∙ own in
          let number : face (tail m) (head m) ≡ f = along_face lists simple (λ p q. face p q ≡ f) (λ p q on e. h.map.faces p q on ∙ e) x y (tail m) (head m) has at_m.is_dart (sym same) e in
          let apart : label_in C (dart_number lists (s, d)) ≢ label_in C m = λ z.
          let outer = along_face lists simple (λ p q. face p q ≡ many) (λ p q on e. h.map.faces p q on ∙ e) s d (tail m) (head m) h.map.dart at_m.is_dart (z ∙ (own ∙ sym same)) h.map.outer in
          omega arith in
          record {
            within = within;
            number = number;
            is_other = and_from (eqb (label_in C m) m) (not (same_class C (dart_number lists (s, d)) m)) (eq-eqb (label_in C m) m own) (ap not (ne_eqb (label_in C (dart_number lists (s, d))) (label_in C m) apart));
          }

  choose : (f : ℕ) → (f < many) ⊎ (many ≤ f) → ℕ
  choose f (inl l) = (picked f l).0
  choose f (inr l) = 0

  choose-is : (f : ℕ) (z : (f < many) ⊎ (many ≤ f)) → f < many → Picked f (choose f z)
  unfolding choose
  choose-is f (inl l) m = (picked f l).1
  choose-is f (inr l) m = absurd (omega arith)

  abbrev pick : ℕ → ℕ
  pick f = choose f (cases_lt f many)

  pick-is : (f : ℕ) → f < many → Picked f (pick f)
  pick-is f l = choose-is f (cases_lt f many) l

  pick-once : (f g : ℕ) → f < many → g < many → pick f ≡ pick g → f ≡ g
  pick-once f g l m e = sym (pick-is f l).number ∙ (ap (λ i. face (tail i) (head i)) e ∙ (pick-is g m).number)

  -- there are no more of them than faces made
  others_few : count_below other K ≤ many
  unfolding face_count
  others_few =
      let own : ℕ → Bool = λ i. eqb (label_in C i) i in
      let ours : ℕ → Bool = λ i. same_class C (dart_number lists (s, d)) i in
      let m = label_in C (dart_number lists (s, d)) in
      let size = C_length in
      let within : m < K = let low = label-lt C C_labels (dart_number lists (s, d)) (let k = dart_number-lt lists s d h.map.dart in omega arith) in omega arith in
      let is_own : label_in C m ≡ m = C_labels.own (dart_number lists (s, d)) in
      let some = count_below_into (λ i. m) (λ i. true) (λ i. ours i && own i) 1 K (λ i a b. (within, and_from (ours m) (own m) (eq-eqb m (label_in C m) (sym is_own)) (eq-eqb (label_in C m) m is_own))) (λ i j a b e f g. omega arith) in
      let rest = count_below_same (λ i. not (ours i) && own i) other K (λ i l. and_comm (not (ours i)) (own i)) in
      omega (arith, some, count_below_split own ours K, rest, ap (count_below own) size, all_faces)

  module _ (c : Axis) (v : ℕ) (lv : v < length lists) where
    abbrev lab : ℕ → Bool
    lab f = label lists s d steps n rank face at h root roots out_of are c f v

    abbrev walk : List Dart
    walk = (region_walk lists s d steps n rank face at h root roots out_of are c v lv).0

    region : IsRegionWalk lists (s, d) root out_of c v walk
    region = (region_walk lists s d steps n rank face at h root roots out_of are c v lv).1

    closed : IsWalk lists v v walk
    closed = IsRegionWalk-closed lists (s, d) root out_of simple (wood_at lists s d steps n rank face at h root roots out_of are) c v walk region

    -- a chain tells whether the face to which it leads is counted
    reached : (k x y : ℕ) (odd : Bool) → ReachesBy lists (is_odd_on walk) (s, d) k x y odd → HasDart lists x y × (lab (face x y) ≡ odd)
    reached zero x y odd r =
        let has = subst (λ z. HasDart lists z y) (sym r.0) (subst (HasDart lists s) (sym r.1) h.map.dart) in
        (has, label-outer lists s d steps n rank face at h root roots out_of are c (face x y) v (ap₂ face r.0 r.1 ∙ h.map.outer) ∙ sym r.2)
    reached (suc k) x y odd r =
        let before = reached k r.0 r.1 r.2 r.3 in
        goes r.0 r.1 r.2 before.0 before.1 r.4
      where
        goes : (x' y' : ℕ) (odd' : Bool) → HasDart lists x' y' → lab (face x' y') ≡ odd' → GoesOn lists (is_odd_on walk) x' y' odd' x y odd → HasDart lists x y × (lab (face x y) ≡ odd)
        goes x' y' odd' has e (along ex ey eo) =
            let on = HasDart-face_step lists (x', y') simple has in
            (subst (λ z. HasDart lists z y) (sym ex) (subst (HasDart lists y') (sym ey) on), ap lab (ap₂ face ex ey ∙ h.map.faces x' y' has) ∙ (e ∙ sym eo))
        goes x' y' odd' has e (over ex ey eo) =
            let told = label_sides lists s d steps n rank face at h root roots out_of are c v x' y' lv has in (
              subst (λ z. HasDart lists z y) (sym ex) (subst (HasDart lists y') (sym ey) (simple.both_ways x' y' has)),
              ap lab (ap₂ face ex ey) ∙ (flip_back (lab (face x' y')) (lab (face y' x')) (is_odd_on walk x' y') told ∙ (ap (flipped (is_odd_on walk x' y')) e ∙ sym eo)),
            )

    abbrev inside : ℕ → Bool
    inside i = lab (face (tail i) (head i))

    inside-number : (x y : ℕ) → HasDart lists x y → inside (dart_number lists (x, y)) ≡ lab (face x y)
    inside-number x y has = ap (λ (e : Dart). lab (face e.0 e.1)) (get_or-dart_number lists x y (0, 0) has)

    side_is : (x y : ℕ) → HasDart lists x y → HasSide lists (is_odd_on walk) (s, d) x y (inside (dart_number lists (x, y)))
    side_is x y has =
        let known = sides_are_known lists (s, d) v walk x y simple plane connected h.map.dart closed has in
        let at_it = inside-number x y has in
        let is : (odd : Bool) → Reaches lists (is_odd_on walk) (s, d) x y odd → odd ≡ inside (dart_number lists (x, y)) = λ odd r. sym (at_it ∙ (reached r.0 x y odd r.1).1) in
        record { some = subst (Reaches lists (is_odd_on walk) (s, d) x y) (is known.0 known.1.some) known.1.some; only = is }

    -- as many faces lie inside as are counted
    inside_count : count_below (λ i. other i && inside i) K ≡ count_below lab many
    inside_count =
        let yes = count_below_into pick lab (λ i. other i && inside i) many K
        (λ f l e. let p = pick-is f l in (p.within, and_from (other (pick f)) (inside (pick f)) p.is_other (ap lab p.number ∙ e)))
        (λ f g l m a b e. pick-once f g l m e) in
        let no = count_below_into pick (λ f. not (lab f)) (λ i. other i && not (inside i)) many K
        (λ f l e. let p = pick-is f l in (p.within, and_from (other (pick f)) (not (inside (pick f))) p.is_other (ap (λ f. not (lab f)) p.number ∙ e)))
        (λ f g l m a b e. pick-once f g l m e) in
        let one = count_below_same (λ i. inside i && other i) (λ i. other i && inside i) K (λ i l. and_comm (inside i) (other i)) in
        let two = count_below_same (λ i. not (inside i) && other i) (λ i. other i && not (inside i)) K (λ i l. and_comm (not (inside i)) (other i)) in
        omega (arith, yes, no, count_below_not lab many, count_below_split other inside K, one, two, others_few)

    region_is : (k : ℕ) → count_below lab many ≡ k → IsFaceRegion lists (s, d) root out_of c v k
    region_is k e = record { walk = walk; closed = region; count = record { inside = inside; sides = side_is; count = inside_count ∙ e } }

  -- and so many are counted
  ones_count : (v : ℕ) → count_below (λ f. label lists s d steps n rank face at h root roots out_of are One f v) many ≡ (face_counts steps n).one (rank v)
  ones_count v =
      count_below_same (λ f. label lists s d steps n rank face at h root roots out_of are One f v) (λ f. one_counted steps n f (rank v)) many (λ f l. ap (λ b. b && one_counted steps n f (rank v)) (lt-ltb f many l))
      ∙ one_is_count steps n (rank v)

  twos_count : (v : ℕ) → count_below (λ f. label lists s d steps n rank face at h root roots out_of are Two f v) many ≡ (face_counts steps n).two (rank v)
  twos_count v =
      count_below_same (λ f. label lists s d steps n rank face at h root roots out_of are Two f v) (λ f. two_counted steps n f (rank v)) many (λ f l. ap (λ b. b && two_counted steps n f (rank v)) (lt-ltb f many l))
      ∙ two_is_count steps n (rank v)

  labels_count : (c : Axis) (v : ℕ) → v < length lists → count_below (λ f. label lists s d steps n rank face at h root roots out_of are c f v) many ≡ height (face_counts steps n) many c (rank v)
  labels_count One v l = ones_count v
  labels_count Two v l = twos_count v
  labels_count Three v l =
      let a : ℕ → Bool = λ f. one_counted steps n f (rank v) in
      let b : ℕ → Bool = λ f. two_counted steps n f (rank v) in
      let both = count_below-flipped a b many (λ f m e e'. tests_apart steps n f (rank v) run m (h.map.placed v l) e e') in
      let same = count_below_same (λ f. label lists s d steps n rank face at h root roots out_of are Three f v) (λ f. not (flipped (a f) (b f))) many
      (λ f m. three_inner lists s d steps n rank face at h root roots out_of are f v m ∙ ap₂ (λ p q. not (flipped (p && a f) (q && b f))) (lt-ltb f many m) (lt-ltb f many m)) in
      omega (arith, both, count_below_not (λ f. flipped (a f) (b f)) many, same, one_is_count steps n (rank v), two_is_count steps n (rank v))

  pub regions_counted : (c : Axis) (v : ℕ) → v < length lists → IsFaceRegion lists (s, d) root out_of c v (height (face_counts steps n) many c (rank v))
  regions_counted c v l = region_is c v l (height (face_counts steps n) many c (rank v)) (labels_count c v l)

-- the coordinates of a point are its counts
coordinate_is : (at : Coordinates) (m f : ℕ) (c : Axis) (v : ℕ) (p : Point) → p ≡ point_of at v → at.one v + at.two v ≤ m → m + 1 ≡ f → IsCoordinate (f - 1) c p (height at m c v)
coordinate_is at m f x3 v p e l k = grind (arith, One, Point, Two, Three, pos)

-- Points by the counts of a run of a map are placed by the regions of its wood: of the edges along which the coordinates rise.
pub regions_draw : (lists : Lists) (s d : ℕ) (steps : ℕ → Step) (n : ℕ) (rank : ℕ → ℕ) (face : ℕ → ℕ → ℕ) (at : ℕ → ℕ) (root : Axis → ℕ) (out : Axis → ℕ → ℕ) (points : List Point) → IsPlane lists → component_count lists ≡ 1 → IsNamedRun lists s d steps n rank face at → AreRoots lists (s, d) root → AreRisingOut lists (face_counts (well_turned steps) n) rank root out → AreCountPoints lists (well_turned steps) n rank points → IsRegionDrawing lists (s, d) root out points
regions_draw lists s d steps n rank face at root out points plane connected run roots are placed =
    let h = IsWoodRun-named lists s d steps n rank face at run in
    let turned = well_turned steps in
    let all : faces_made turned n + 1 ≡ face_count lists = omega arith in
    let fall = IsFalling-run turned n h.whole.turned.run in
    record {
      wood = wood_at lists s d turned n rank face at h root roots out are;
      region = λ c v l. (
        height (face_counts turned n) (faces_made turned n) c (rank v),
        regions_counted lists s d turned n rank face at h root roots out are plane connected all c v l,
        coordinate_is (face_counts turned n) (faces_made turned n) (face_count lists) c (rank v) (place points v) (placed v l) (fall.sums (rank v) (h.map.placed v l)) all,
      );
      rising = λ c v u has r.
          let lu = h.map.simple.in_range v u has in
          rises_out lists s d turned n rank face at h root roots out are c v u has
          (IsRising-points (face_counts turned n) c (rank v) (rank u) (subst (λ p. IsRisingBy c p (point_of (face_counts turned n) (rank u))) (placed v has.0) (subst (IsRisingBy c (place points v)) (placed u lu) r)));
    }

-- Some edges rise from all vertices, so a run has a wood.
module _ (lists : Lists) (s d : ℕ) (steps : ℕ → Step) (n : ℕ) (rank : ℕ → ℕ) (face : ℕ → ℕ → ℕ) (at : ℕ → ℕ) (root : Axis → ℕ) (run : IsNamedRun lists s d steps n rank face at) (roots : AreRoots lists (s, d) root) where
  leads : (c : Axis) (v : ℕ) → (v < length lists) ⊎ (length lists ≤ v) → (v ≡ root c) ⊎ (v ≢ root c) → ℕ
  leads c v (inr l) z = 0
  leads c v (inl l) (inl e) = 0
  leads c v (inl l) (inr ne) = (some_out lists s d steps n rank face at root c v run roots l ne).0

  leads-rising : (c : Axis) (v : ℕ) (y : (v < length lists) ⊎ (length lists ≤ v)) (z : (v ≡ root c) ⊎ (v ≢ root c)) → v < length lists → v ≢ root c → HasDart lists v (leads c v y z) × IsRising (face_counts (well_turned steps) n) c (rank v) (rank (leads c v y z))
  unfolding leads
  leads-rising c v (inr l) z a b = absurd (omega arith)
  leads-rising c v (inl l) (inl e) a b = absurd (b e)
  leads-rising c v (inl l) (inr ne) a b = let o = some_out lists s d steps n rank face at root c v run roots l ne in (o.1, o.2)

  pub some_wood : Axis → ℕ → ℕ
  some_wood c v = leads c v (cases_lt v (length lists)) (cases_eq v (root c))

  pub some_wood-rises : AreRisingOut lists (face_counts (well_turned steps) n) rank root some_wood
  unfolding some_wood
  some_wood-rises c v l ne = leads-rising c v (cases_lt v (length lists)) (cases_eq v (root c)) l ne
