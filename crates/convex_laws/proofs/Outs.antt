-- The edges along which a coordinate rises alone, in a map of a run.
use Rattle.std.proofs.Common.{◌≡◌, ◌≢◌, ℕ, suc, ◌<◌, length, sym, ap, ◌∙◌, subst, arith}
use Rattle.map_lists.specs.Lists.{Lists}
use Rattle.map_theory.specs.Maps.{HasDart}
use Rattle.map_theory.specs.Paths.{SameFace}
use Rattle.contour_runs.specs.Wood.{Coordinates}
use Rattle.contour_runs.specs.FaceRuns.{Step, stage_after, faces_made}
use Rattle.convex_counts.specs.Counts.{face_counts}
use Rattle.convex_counts.specs.Contours.{IsFalling}
use Rattle.convex_counts.specs.FacePointsLaws.{IsWholeRun}
use Rattle.convex_counts.proofs.Steps.{IsFalling-run}
use Rattle.convex_counts.proofs.Corners.{cornered}
use Rattle.convex_peeling.specs.Contours.{face_of}
use Rattle.convex_peeling.proofs.Faces.{SameFace-labels, face_of-step}
use Rattle.convex_laws.specs.ConvexDrawings.{IsRunMap}
use Rattle.convex_counts.specs.declared.face_woods.axis.Axis.{Axis}
use Rattle.convex_counts.specs.declared.face_woods.axis.Axis.TheVariants.{One, Two, Three}
use Rattle.convex_counts.specs.Axes.{IsEntry, out, into}
use Rattle.convex_counts.specs.Rising.{IsRising, IsRootRank}
use Rattle.convex_counts.proofs.Leads.{one_rising_at}
use Rattle.convex_counts.proofs.Found.{some_rising_at}
use Rattle.convex_laws.specs.ConvexWoods.{AreRoots, IsOut}
use Rattle.convex_laws.specs.ConvexWoodsLaws.{AreRisingOut}
use Rattle.convex_laws.proofs.AllDarts.{rank_at, edge_dart, run_dart}

-- a run of a map with a vertex for each rank, whose last vertex is the one before the base
pub record IsWoodRun (lists : Lists) (s d : ℕ) (steps : ℕ → Step) (n : ℕ) (rank : ℕ → ℕ) (face : ℕ → ℕ → ℕ) (at : ℕ → ℕ) : Type 0 where
  pub whole : IsWholeRun steps n
  pub some : 0 < n
  pub map : IsRunMap lists (s, d) steps n rank face
  pub last : (e : ℕ) → HasDart lists e s → SameFace lists (e, s) (s, d) → suc (rank e) ≡ (stage_after steps n).count
  pub all : (stage_after steps n).count ≡ length lists
  pub below : (r : ℕ) → r < length lists → at r < length lists
  pub one : (r q : ℕ) → r < length lists → q < length lists → at r ≡ at q → r ≡ q
  pub named : (v : ℕ) → v < length lists → at (rank v) ≡ v

module _ (lists : Lists) (s d : ℕ) (steps : ℕ → Step) (n : ℕ) (rank : ℕ → ℕ) (face : ℕ → ℕ → ℕ) (at : ℕ → ℕ) (h : IsWoodRun lists s d steps n rank face at) (root : Axis → ℕ) (roots : AreRoots lists (s, d) root) where
  abbrev pub counts : Coordinates
  counts = face_counts steps n

  pub head_in : (x y : ℕ) → HasDart lists x y → y < length lists
  head_in x y has = h.map.simple.in_range x y has

  -- the ranks of the roots
  before_base : face_of lists (root Three) s ≡ face_of lists s d
  before_base = sym (face_of-step lists h.map.simple (root Three) s roots.before) ∙ ap (face_of lists s) roots.step

  pub rank_three : suc (rank (root Three)) ≡ length lists
  rank_three = h.last (root Three) roots.before (SameFace-labels lists (root Three) s s d before_base) ∙ h.all

  pub rank_one : rank (root One) ≡ 0
  rank_one = ap rank roots.one ∙ h.map.first

  pub rank_two : rank (root Two) ≡ 1
  rank_two = ap rank roots.two ∙ h.map.second

  abbrev IsRootIn : Axis → ℕ → Type 0
  IsRootIn c v = IsRootRank (length lists) c v

  pub rank_is : (c : Axis) → IsRootIn c (rank (root c))
  rank_is One = rank_one
  rank_is Two = rank_two
  rank_is Three = rank_three

  same_rank : (c : Axis) (r q : ℕ) → IsRootIn c r → IsRootIn c q → r ≡ q
  same_rank One r q a b = a ∙ sym b
  same_rank Two r q a b = a ∙ sym b
  same_rank Three r q a b = omega arith

  pub root_in : (c : Axis) → root c < length lists
  root_in One = subst (λ v. v < length lists) (sym roots.one) (head_in s d h.map.dart)
  root_in Two = subst (λ v. v < length lists) (sym roots.two) h.map.dart.0
  root_in Three = roots.before.0

  -- the vertex of such a rank is the root
  pub root_of : (c : Axis) (v : ℕ) → v < length lists → IsRootIn c (rank v) → v ≡ root c
  root_of c v l e = h.map.ranks v (root c) l (root_in c) (same_rank c (rank v) (rank (root c)) e (rank_is c))

  -- from each vertex but the root an edge leads along an axis
  pub some_out_at : (c : Axis) (v : ℕ) → v < length lists → v ≢ root c → (u : ℕ) × HasDart lists v u × IsRising counts c (rank v) (rank u)
  some_out_at c v l ne =
      let p = h.map.placed v l in
      let z = some_rising_at steps n h.whole h.some (rank v) c p (λ e. ne (root_of c v l (subst (λ m. IsRootRank m c (rank v)) h.all e))) in
      let has = edge_dart lists s d steps n rank face at h.whole.turned.run h.map h.all h.below h.one h.named (rank v) z.0 z.1 in
      let r = rank_at lists s d steps n rank face at h.whole.turned.run h.map h.all h.below h.one h.named z.0 has.1 in
      (at z.0, subst (λ v. HasDart lists v (at z.0)) (h.named v l) has.0, subst (IsRising counts c (rank v)) (sym r) z.2)

  -- just one
  pub one_out_at : (c : Axis) (v u w : ℕ) → HasDart lists v u → HasDart lists v w → IsRising counts c (rank v) (rank u) → IsRising counts c (rank v) (rank w) → u ≡ w
  one_out_at c v u w a b r r' =
      let dart = run_dart lists s d steps n rank face at h.whole.turned.run h.map h.all h.below h.one h.named in
      let both = h.map.simple.both_ways in
      h.map.ranks u w (head_in v u a) (head_in v w b) (one_rising_at steps n h.whole h.some (rank v) (rank u) (rank w) c (dart v u a) (dart u v (both v u a)) (dart v w b) (dart w v (both v w b)) r r')

  fall : IsFalling (stage_after steps n) counts (faces_made steps n)
  fall = IsFalling-run steps n h.whole.turned.run

  -- and none from the root
  root_stays : (c : Axis) (v u : ℕ) → v < length lists → u < length lists → IsRootIn c (rank v) → ¬ IsRising counts c (rank v) (rank u)
  root_stays x0 v u lv lu e r = grind (arith, One, fall, counts, Two, Three, cornered)

  module _ (out_of : Axis → ℕ → ℕ) (are : AreRisingOut lists counts rank root out_of) where
    abbrev pub Leads : Axis → ℕ → ℕ → Type 0
    Leads = IsOut lists root out_of

    -- what leads out rises, and the other way round
    pub out_rises : (c : Axis) (v u : ℕ) → Leads c v u → HasDart lists v u × IsRising counts c (rank v) (rank u)
    out_rises c v u o = subst (λ u. HasDart lists v u × IsRising counts c (rank v) (rank u)) o.is (are c v o.vertex o.other)

    pub rises_out : (c : Axis) (v u : ℕ) → HasDart lists v u → IsRising counts c (rank v) (rank u) → Leads c v u
    rises_out c v u has r =
        let other : v ≢ root c = λ e. root_stays c v u has.0 (head_in v u has) (subst (λ w. IsRootIn c (rank w)) (sym e) (rank_is c)) r in
        let z = are c v has.0 other in
        record { vertex = has.0; other = other; is = one_out_at c v (out_of c v) u z.0 has z.1 r }

    -- so an entry stands as the signs say
    pub entry_out : (v u : ℕ) (a b : Axis) → HasDart lists v u → IsEntry (IsRising counts) (rank v) (rank u) a b → IsEntry Leads v u a b
    entry_out v u a b has (out c r ea eb) = out c (rises_out c v u has r) ea eb
    entry_out v u a b has (into c r none ea eb) = into c (rises_out c u v (h.map.simple.both_ways v u has) r) (λ c' o. none c' (out_rises c' v u o).1) ea eb
