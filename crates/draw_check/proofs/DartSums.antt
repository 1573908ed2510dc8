-- Sums over darts: with one dart more, and how large they are.
use Rattle.std.proofs.Common.{◌≡◌, ℕ, suc, ◌+◌, ◌*◌, ◌<◌, Bool, true, false, cond, List, [], ◌∷◌, ◌++◌, length, take, get_or, ℤ, pos, ◌+ℤ◌, ap, ap₂, ◌∙◌, arith}
use Rattle.std.proofs.lemmas.Bool.{cases_lt}
use Rattle.std.proofs.lemmas.Int.{ints}
use Rattle.std.proofs.lemmas.List.{take_more, get_or_past}
use Rattle.map_theory.specs.Maps.{Dart}
use Rattle.pg_plane.specs.declared.grid_points.Point.{Point}
use Rattle.pg_plane.specs.Geometry.{vector, cross, area}
use Rattle.pg_plane.specs.Range.{IsWithin, IsInRange}
use Rattle.pg_plane.proofs.Products.{IsWithin-product}
use Rattle.plane_drawings.specs.Drawing.{place}
use Rattle.drawings.specs.OuterFaces.{swept, sum_over}

-- the triangle from (0, 0) along a dart
from_zero : (p : Point) → vector (record { x = pos 0; y = pos 0 }) p ≡ p
from_zero p = ap₂ {C = Point} (λ (x y : ℤ). record { x = x; y = y }) (omega (arith, ints)) (omega (arith, ints))

pub area_from_zero : (p q : Point) → area (record { x = pos 0; y = pos 0 }) p q ≡ cross p q
area_from_zero p q = ap₂ cross (from_zero p) (from_zero q)

-- one dart more
pub sum_over-push : (p : Dart → Bool) (f : Dart → ℤ) (ds : List Dart) (d : Dart) → sum_over p f (ds ++ d ∷ []) ≡ sum_over p f ds +ℤ cond (p d) (f d) (pos 0)
sum_over-push p f [] d = omega (arith, ints)
sum_over-push p f (x ∷ ds) d = omega (arith, ints, sum_over-push p f ds d)

pub sum_over-take : (p : Dart → Bool) (f : Dart → ℤ) (ds : List Dart) (k : ℕ) (d : Dart) → k < length ds → get_or ds k (0, 0) ≡ d → sum_over p f (take (k + 1) ds) ≡ sum_over p f (take k ds) +ℤ cond (p d) (f d) (pos 0)
sum_over-take p f ds k d l e =
    ap (sum_over p f) (take_more ds k (0, 0) l ∙ ap (λ (x : Dart). take k ds ++ x ∷ []) e) ∙ sum_over-push p f (take k ds) d

-- how large sums are
one_within : (n : ℕ) (x y : ℤ) (b : Bool) → IsWithin (pos 2199023255552) x → IsWithin (pos (n * 2199023255552)) y → IsWithin (pos (suc n * 2199023255552)) (cond b x (pos 0) +ℤ y)
one_within n x y true h k = let a = h.least in let b = h.most in let c = k.least in let d = k.most in record { least = omega (arith, ints); most = omega (arith, ints) }
one_within n x y false h k = let c = k.least in let d = k.most in record { least = omega (arith, ints); most = omega (arith, ints) }

pub sum_over-within : (p : Dart → Bool) (f : Dart → ℤ) (ds : List Dart) → ((d : Dart) → IsWithin (pos 2199023255552) (f d)) → IsWithin (pos (length ds * 2199023255552)) (sum_over p f ds)
sum_over-within p f [] h = record { least = omega (arith, ints); most = omega (arith, ints) }
sum_over-within p f (d ∷ ds) h = one_within (length ds) (f d) (sum_over p f ds) (p d) (h d) (sum_over-within p f ds h)

pub swept-within : (points : List Point) → ((v : ℕ) → v < length points → IsInRange (place points v)) → (d : Dart) → IsWithin (pos 2199023255552) (swept points d)
swept-within points h d =
    let p = in_range d.0 in
    let q = in_range d.1 in
    let a = IsWithin-product 1048576 1048576 (place points d.0).x (place points d.1).y p.x q.y in
    let b = IsWithin-product 1048576 1048576 (place points d.1).x (place points d.0).y q.x p.y in
    record { least = omega (arith, ints); most = omega (arith, ints) }
  where
    in_range : (v : ℕ) → IsInRange (place points v)
    in_range v = grind (arith, cases_lt, length, IsInRange, get_or_past, pos, IsWithin, ints)
