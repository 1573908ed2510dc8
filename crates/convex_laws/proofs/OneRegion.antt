-- The closed path of a region is one, and so is the number of its faces.
use Rattle.std.proofs.Common.{◌≡◌, ◌≢◌, ℕ, ◌<◌, ◌&&◌, List, [], ◌∷◌, ◌++◌, refl, sym, ap, ap₂, ◌∙◌, subst}
use Rattle.classes.proofs.Counting.{count_below_same}
use Rattle.map_lists.specs.Lists.{Lists}
use Rattle.map_theory.specs.Maps.{Dart, HasDart, IsSimpleMap, IsPlane, follows, dart_count, dart_number}
use Rattle.map_theory.specs.Paths.{SameFace}
use Rattle.map_theory.proofs.DartLemmas.{HasDart-follows}
use Rattle.map_theory.proofs.DartPermutations.{dart_of, dart_of-number}
use Rattle.convex_peeling.proofs.Faces.{before_once}
use Rattle.convex_peeling.specs.Polyhedral.{IsPolyhedral, IsThreeConnected}
use Rattle.convex_peeling.proofs.Corners.{SameFace-turned, SameFace-chained, SameFace-step}
use Rattle.convex_peeling.proofs.PolyhedralLemmas.{three_connected_is_polyhedral}
use Rattle.convex_counts.specs.declared.face_woods.axis.Axis.{Axis}
use Rattle.convex_counts.specs.declared.face_woods.axis.Axis.TheVariants.{One, Two, Three}
use Rattle.convex_counts.specs.Axes.{next, previous}
use Rattle.convex_laws.specs.ConvexWoods.{AreRoots, IsConvexWood}
use Rattle.convex_laws.specs.Walks.{turned}
use Rattle.convex_laws.specs.Inside.{is_other_face, IsInsideCount}
use Rattle.convex_laws.specs.Regions.{IsAxisWay, IsOuterWay, IsRegionWalk}
use Rattle.convex_laws.specs.FaceRegionsLaws.{RegionsAreOne}

-- along an axis there is one way to its root
axis_once : (lists : Lists) (root : Axis → ℕ) (out : Axis → ℕ → ℕ) (c : Axis) (v : ℕ) (ds es : List Dart) → IsAxisWay lists root out c v (root c) ds → IsAxisWay lists root out c v (root c) es → ds ≡ es
axis_once lists root out c v [] [] h g = refl
axis_once lists root out c v [] (e ∷ es) h g = absurd (g.1.other h)
axis_once lists root out c v (d ∷ ds) [] h g = absurd (h.1.other g)
axis_once lists root out c v (d ∷ ds) (e ∷ es) h g =
    let heads : d.1 ≡ e.1 = sym h.1.is ∙ g.1.is in
    ap₂ (λ (x : Dart) (xs : List Dart). x ∷ xs) (ap₂ (λ (x y : ℕ). (x, y)) (h.0 ∙ sym g.0) heads) (axis_once lists root out c d.1 ds es h.2 (subst (λ z. IsAxisWay lists root out c z (root c) es) (sym heads) g.2))

module _ (lists : Lists) (base : Dart) (root : Axis → ℕ) (out : Axis → ℕ → ℕ) (plane : IsPlane lists) (three : IsThreeConnected lists) (wood : IsConvexWood lists base root out) where
  simple : IsSimpleMap lists
  simple = three.simple

  polyhedral : IsPolyhedral lists
  polyhedral = three_connected_is_polyhedral lists three plane

  roots : AreRoots lists base root
  roots = wood.roots

  has_base : HasDart lists base.0 base.1
  has_base = subst (HasDart lists base.0) roots.step (HasDart-follows lists base.0 (root Three) (simple.both_ways (root Three) base.0 roots.before))

  same_before : SameFace lists base (root Three, base.0)
  same_before = SameFace-turned lists simple (root Three, base.0) base (subst (λ z. SameFace lists (root Three, base.0) (base.0, z)) roots.step (SameFace-step lists simple (root Three) base.0 roots.before))

  -- a dart of the outer face that comes to the tail of the base comes from root three
  to_two : (x : ℕ) → HasDart lists x base.0 → SameFace lists base (x, base.0) → x ≡ root Three
  to_two x has same =
      let on = SameFace-chained lists simple base (x, base.0) (base.0, follows lists base.0 x) same (SameFace-step lists simple x base.0 has) in
      let one = polyhedral.once base.0 base.1 (follows lists base.0 x) has_base (HasDart-follows lists base.0 x (simple.both_ways x base.0 has)) on in
      before_once lists simple x base.0 (root Three) has roots.before (sym one ∙ sym roots.step)

  -- and one that comes to its head is the base
  to_one : (x : ℕ) → HasDart lists x base.1 → SameFace lists base (x, base.1) → x ≡ base.0
  to_one x has same =
      let back = simple.both_ways x base.1 has in
      let base_back = simple.both_ways base.0 base.1 has_base in
      let on : SameFace lists (x, base.1) (base.1, follows lists base.1 x) = SameFace-step lists simple x base.1 has in
      let after : SameFace lists base (base.1, follows lists base.1 base.0) = SameFace-step lists simple base.0 base.1 has_base in
      let both = SameFace-chained lists simple (base.1, follows lists base.1 x) base (base.1, follows lists base.1 base.0) (SameFace-turned lists simple base (base.1, follows lists base.1 x) (SameFace-chained lists simple base (x, base.1) (base.1, follows lists base.1 x) same on)) after in
      let one = polyhedral.once base.1 (follows lists base.1 x) (follows lists base.1 base.0) (HasDart-follows lists base.1 x back) (HasDart-follows lists base.1 base.0 base_back) both in
      before_once lists simple x base.1 base.0 has has_base one

  -- a way that does not leave root three, and begins elsewhere than at root two, does not come to root one
  not_to_one : (v w : ℕ) (d : Dart) (ds : List Dart) → IsOuterWay lists base (root Three) v w (d ∷ ds) → v ≢ base.0 → w ≢ base.1
  not_to_one v w d [] h ne = λ e.
      let head : d.1 ≡ base.1 = h.4 ∙ e in
      ne (sym h.0 ∙ to_one d.0 (subst (HasDart lists d.0) head h.1) (subst (λ z. SameFace lists base (d.0, z)) head h.2))
  not_to_one v w d (x ∷ xs) h ne =
      not_to_one d.1 w x xs h.4 (λ q. h.3 (to_two d.0 (subst (HasDart lists d.0) q h.1) (subst (λ z. SameFace lists base (d.0, z)) q h.2)))

  -- the darts of the outer face from root two and from root three
  from_two : (y : ℕ) → HasDart lists base.0 y → SameFace lists base (base.0, y) → y ≡ base.1
  from_two y has same = sym (polyhedral.once base.0 base.1 y has_base has same)

  from_three : (y : ℕ) → HasDart lists (root Three) y → SameFace lists base (root Three, y) → y ≡ base.0
  from_three y has same = sym (polyhedral.once (root Three) base.0 y roots.before has (SameFace-chained lists simple (root Three, base.0) base (root Three, y) (SameFace-turned lists simple base (root Three, base.0) same_before) same))

  -- no way goes on from a vertex that is avoided
  stuck : (a w : ℕ) (ds : List Dart) → IsOuterWay lists base a a w ds → a ≡ w
  stuck a w [] h = h
  stuck a w (d ∷ ds) h = absurd (h.3 h.0)

  -- no way leads round
  no_round : (c : Axis) (d : Dart) (ds : List Dart) → ¬ IsOuterWay lists base (root c) (root (next c)) (root (next c)) (d ∷ ds)
  no_round One d ds h =
      let tail : d.0 ≡ base.0 = h.0 ∙ roots.two in
      let head : d.1 ≡ root One = from_two d.1 (subst (λ z. HasDart lists z d.1) tail h.1) (subst (λ z. SameFace lists base (z, d.1)) tail h.2) ∙ sym roots.one in
      let e = stuck (root One) (root Two) ds (subst (λ z. IsOuterWay lists base (root One) z (root Two) ds) head h.4) in
      simple.no_loop base.0 base.1 has_base (sym roots.one ∙ (e ∙ roots.two))
  no_round Two d ds h =
      let head : d.1 ≡ root Two = from_three d.1 (subst (λ z. HasDart lists z d.1) h.0 h.1) (subst (λ z. SameFace lists base (z, d.1)) h.0 h.2) ∙ sym roots.two in
      let e = stuck (root Two) (root Three) ds (subst (λ z. IsOuterWay lists base (root Two) z (root Three) ds) head h.4) in
      simple.no_loop (root Three) base.0 roots.before (sym roots.two ∙ e)
  no_round Three d ds h = not_to_one (root One) (root One) d ds h (λ q. simple.no_loop base.0 base.1 has_base (sym roots.one ∙ q)) roots.one

  outer_once : (c : Axis) (v : ℕ) (ds es : List Dart) → IsOuterWay lists base (root c) v (root (next c)) ds → IsOuterWay lists base (root c) v (root (next c)) es → ds ≡ es
  outer_once c v [] [] h g = refl
  outer_once c v [] (e ∷ es) h g = absurd (no_round c e es (subst (λ z. IsOuterWay lists base (root c) z (root (next c)) (e ∷ es)) h g))
  outer_once c v (d ∷ ds) [] h g = absurd (no_round c d ds (subst (λ z. IsOuterWay lists base (root c) z (root (next c)) (d ∷ ds)) g h))
  outer_once c v (d ∷ ds) (e ∷ es) h g =
      let tails : e.0 ≡ d.0 = g.0 ∙ sym h.0 in
      let on = subst (λ z. HasDart lists z e.1) tails g.1 in
      let same = subst (λ z. SameFace lists base (z, e.1)) tails g.2 in
      let heads : d.1 ≡ e.1 = polyhedral.once d.0 d.1 e.1 h.1 on (SameFace-chained lists simple d base (d.0, e.1) (SameFace-turned lists simple base d h.2) same) in
      ap₂ (λ (x : Dart) (xs : List Dart). x ∷ xs) (ap₂ (λ (x y : ℕ). (x, y)) (sym tails) heads) (outer_once c d.1 ds es h.4 (subst (λ z. IsOuterWay lists base (root c) z (root (next c)) es) (sym heads) g.4))

  walk_once : (c : Axis) (v : ℕ) (xs ys : List Dart) → IsRegionWalk lists base root out c v xs → IsRegionWalk lists base root out c v ys → xs ≡ ys
  walk_once c v xs ys h g =
      let a = axis_once lists root out (next c) v h.ahead g.ahead h.along_next g.along_next in
      let o = outer_once c (root (previous c)) h.outer g.outer h.along_outer g.along_outer in
      let b = axis_once lists root out (previous c) v h.back g.back h.along_previous g.along_previous in
      h.is ∙ (ap₂ (λ (x y : List Dart). x ++ y) a (ap₂ (λ (x y : List Dart). turned x ++ turned y) o b) ∙ sym g.is)

  count_once : (walk : List Dart) (k l : ℕ) → IsInsideCount lists base walk k → IsInsideCount lists base walk l → k ≡ l
  count_once walk k l h g =
      let same : (i : ℕ) → i < dart_count lists → h.inside i ≡ g.inside i = λ i m.
      let d = dart_of-number lists simple i m in
      let x = dart_of lists i in
      ap h.inside (sym d.number) ∙ ((g.sides x.0 x.1 d.is_dart).only (h.inside (dart_number lists x)) (h.sides x.0 x.1 d.is_dart).some ∙ ap g.inside d.number) in
      sym h.count ∙ (count_below_same (λ i. is_other_face lists base i && h.inside i) (λ i. is_other_face lists base i && g.inside i) (dart_count lists) (λ i m. ap (λ b. is_other_face lists base i && b) (same i m)) ∙ g.count)

-- THE LAW
pub regions_are_one : RegionsAreOne
regions_are_one lists base root out c v k l plane three wood h g =
    let walks = walk_once lists base root out plane three wood c v h.walk g.walk h.closed g.closed in
    count_once lists base root out plane three wood g.walk k l (subst (λ w. IsInsideCount lists base w k) walks h.count) g.count
