-- The verdict `Yes`.
use Rattle.std.proofs.Common.{◌≡◌, ◌↔◌, ℕ, List, pos, ◌≤ℤ◌, refl, subst, arith}
use Rattle.std.proofs.lemmas.Int.{ints, by_lt_z}
use Rattle.map_lists.specs.Lists.{Lists}
use Rattle.map_theory.specs.Maps.{Dart, follows}
use Rattle.pg_plane.specs.declared.grid_points.Point.{Point}
use Rattle.pg_plane.specs.Geometry.{area}
use Rattle.plane_drawings.specs.Drawing.{place}
use Rattle.drawings.specs.Convex.{IsBent, HasOuterCorners, IsConvex}
use Rattle.convex_check.specs.Verdicts.{NoneBent, IsConvexVerdict}
use Rattle.convex_check.specs.declared.verdict.ConvexVerdict.{ConvexVerdict}
use Rattle.convex_check.specs.declared.verdict.ConvexVerdict.TheVariants.{Bent, OuterBent, Yes}

-- a drawing of which nothing is bent
pub IsConvex-unbent : (lists : Lists) (points : List Point) (base : Dart) → NoneBent lists points base → HasOuterCorners lists points base → IsConvex lists points base
IsConvex-unbent lists points base none outer =
    record {
      inner = λ a b has other.
          let c = follows lists b a in
          by_lt_z (area (place points a) (place points b) (place points c)) (pos 0) (λ l. absurd (none a b c (record { dart = has; third = refl; other = other; turn = l }))) (λ l. l);
      outer = outer;
    }

pub not_IsConvex : (lists : Lists) (points : List Point) (base : Dart) (a b c : ℕ) → IsBent lists points base a b c → ¬ IsConvex lists points base
not_IsConvex lists points base a b c bent convex =
    let high = subst (λ z. pos 0 ≤ℤ area (place points a) (place points b) (place points z)) bent.third (convex.inner a b bent.dart bent.other) in
    omega (arith, ints)

pub yes_is_convex : (lists : Lists) (points : List Point) (base : Dart) (verdict : ConvexVerdict) → IsConvexVerdict lists points base verdict → (verdict ≡ Yes) ↔ IsConvex lists points base
yes_is_convex lists points base (Bent a b c) h = ((λ e. absurd (cc)), λ convex. absurd (not_IsConvex lists points base a.0 b.0 c.0 h.rest.rest.here convex))
yes_is_convex lists points base OuterBent h = ((λ e. absurd (cc)), λ convex. absurd (h.1 convex.outer))
yes_is_convex lists points base Yes h = ((λ e. h), λ convex. refl)
