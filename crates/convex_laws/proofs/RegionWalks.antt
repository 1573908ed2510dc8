-- The closed path of a region is a closed walk.
use Rattle.std.proofs.Common.{ℕ, List, [], ◌∷◌, ◌++◌, sym, subst}
use Rattle.map_lists.specs.Lists.{Lists}
use Rattle.map_theory.specs.Maps.{Dart, HasDart, IsSimpleMap}
use Rattle.convex_counts.specs.declared.face_woods.axis.Axis.{Axis}
use Rattle.convex_counts.specs.Axes.{next, previous}
use Rattle.convex_laws.specs.ConvexWoods.{IsConvexWood}
use Rattle.convex_laws.specs.Walks.{IsWalk, turned}
use Rattle.convex_laws.specs.Regions.{IsAxisWay, IsOuterWay, IsRegionWalk}
use Rattle.convex_laws.proofs.WalkLemmas.{IsWalk-append, IsWalk-turned}

IsAxisWay-walk : (lists : Lists) (base : Dart) (root : Axis → ℕ) (out : Axis → ℕ → ℕ) → IsConvexWood lists base root out → (c : Axis) (v w : ℕ) (ds : List Dart) → IsAxisWay lists root out c v w ds → IsWalk lists v w ds
IsAxisWay-walk lists base root out wood c v w [] e = e
IsAxisWay-walk lists base root out wood c v w (d ∷ ds) h =
    (h.0, subst (λ z. HasDart lists z d.1) (sym h.0) (wood.edges c v d.1 h.1), IsAxisWay-walk lists base root out wood c d.1 w ds h.2)

IsOuterWay-walk : (lists : Lists) (base : Dart) (avoided v w : ℕ) (ds : List Dart) → IsOuterWay lists base avoided v w ds → IsWalk lists v w ds
IsOuterWay-walk lists base avoided v w [] e = e
IsOuterWay-walk lists base avoided v w (d ∷ ds) h = (h.0, h.1, IsOuterWay-walk lists base avoided d.1 w ds h.4)

pub IsRegionWalk-closed : (lists : Lists) (base : Dart) (root : Axis → ℕ) (out : Axis → ℕ → ℕ) → IsSimpleMap lists → IsConvexWood lists base root out → (c : Axis) (v : ℕ) (walk : List Dart) → IsRegionWalk lists base root out c v walk → IsWalk lists v v walk
IsRegionWalk-closed lists base root out simple wood c v walk r =
    let a = IsAxisWay-walk lists base root out wood (next c) v (root (next c)) r.ahead r.along_next in
    let o = IsWalk-turned lists simple r.outer (root (previous c)) (root (next c)) (IsOuterWay-walk lists base (root c) (root (previous c)) (root (next c)) r.outer r.along_outer) in
    let b = IsWalk-turned lists simple r.back v (root (previous c)) (IsAxisWay-walk lists base root out wood (previous c) v (root (previous c)) r.back r.along_previous) in
    subst (IsWalk lists v v) (sym r.is) (IsWalk-append lists r.ahead (turned r.outer ++ turned r.back) v (root (next c)) v a (IsWalk-append lists (turned r.outer) (turned r.back) (root (next c)) (root (previous c)) v o b))
