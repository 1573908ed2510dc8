-- Maps and points as arrays.
use Rattle.std.proofs.Common.{◌≡◌, ◌+◌, ◌<◌, ◌≤◌, ℕ, zero, suc, List, [], ◌∷◌, ◌++◌, ℤ, pos, length, take, get_or, refl, ap, ap₂, sym, subst, ◌∙◌, below_more, arith, length-take}
use Rattle.std.proofs.Math.ListN.{set}
use Rattle.std.proofs.lemmas.List.{take_more, take_more_set, take_all}
use Rattle.map_lists.specs.Cuts.{AreCuts}
use Rattle.pg_plane.specs.declared.grid_points.Point.{Point}
use Rattle.map_lists.proofs.CutLemmas.{length-cut}
use Rattle.pg_plane.specs.Range.{IsInRange}
use Rattle.plane_drawings.specs.Drawing.{place}
use Rattle.pigale_c.specs.Arrays.{lists_in, points_in, AllInRange, ArePlaces}

-- the ends are right exactly where those that are left are, the lists of which begin at `from`
pub record SameCuts (ends : List ℕ) (total from : ℕ) (left : List ℕ) : Type 0 where
  pub there : AreCuts 0 ends total → AreCuts from left total
  pub back : AreCuts from left total → AreCuts 0 ends total

-- the point (0, 0)
abbrev pub origin : Point
origin = record { x = pos 0; y = pos 0 }

-- a coordinate more of each kind is a point more
pub points_in-append : (xs ys : List ℤ) (x y : ℤ) → length xs ≡ length ys → points_in (xs ++ x ∷ []) (ys ++ y ∷ []) ≡ points_in xs ys ++ record { x = x; y = y } ∷ []
points_in-append [] [] x y same = refl
points_in-append [] (v ∷ ys) x y same = let f : ⊥ = omega (arith, same) in absurd f
points_in-append (u ∷ xs) [] x y same = let f : ⊥ = omega (arith, same) in absurd f
points_in-append (u ∷ xs) (v ∷ ys) x y same = ap (λ ps. record { x = u; y = v } ∷ ps) (points_in-append xs ys x y (omega (arith, same)))

-- so the points of the first coordinates go on
pub points_in-take : (xs ys : List ℤ) (k : ℕ) → k < length xs → k < length ys → points_in (take (k + 1) xs) (take (k + 1) ys) ≡ points_in (take k xs) (take k ys) ++ record { x = get_or xs k (pos 0); y = get_or ys k (pos 0) } ∷ []
points_in-take xs ys k x_in y_in =
    ap₂ points_in (take_more xs k (pos 0) x_in) (take_more ys k (pos 0) y_in)
    ∙ points_in-append (take k xs) (take k ys) _ _ (omega (arith, length-take {A = ℤ}))

-- and so they do where the coordinates of the next point are written
pub points_in-put : (xs ys : List ℤ) (points : List Point) (k : ℕ) → k < length points → length xs ≡ length points → length ys ≡ length points → points_in (take k xs) (take k ys) ≡ take k points → points_in (take (k + 1) (set xs k (get_or points k origin).x)) (take (k + 1) (set ys k (get_or points k origin).y)) ≡ take (k + 1) points
points_in-put xs ys points k within x_long y_long done =
    ap₂ points_in (take_more_set xs k (get_or points k origin).x (omega arith)) (take_more_set ys k (get_or points k origin).y (omega arith))
    ∙ points_in-append (take k xs) (take k ys) _ _ (omega (arith, length-take {A = ℤ}))
    ∙ ap (λ ps. ps ++ get_or points k origin ∷ []) done
    ∙ sym (take_more points k origin within)

-- there are as many lists as ends
pub length-lists_in : (ends neighbours : List ℕ) → length (lists_in ends neighbours) ≡ length ends
length-lists_in ends neighbours = length-cut 0 ends neighbours

-- and as many points as coordinates of each kind
pub length-points_in : (xs ys : List ℤ) → length xs ≡ length ys → length (points_in xs ys) ≡ length xs
length-points_in [] ys same = refl
length-points_in (x ∷ xs) [] same = sym same
length-points_in (x ∷ xs) (y ∷ ys) same = ap suc (length-points_in xs ys (omega (arith, same)))

-- the place of a vertex by its coordinates
abbrev pub point_at : List ℤ → List ℤ → ℕ → Point
point_at xs ys k = record { x = get_or xs k (pos 0); y = get_or ys k (pos 0) }

place-points_in : (xs ys : List ℤ) (k : ℕ) → k < length xs → k < length ys → place (points_in xs ys) k ≡ point_at xs ys k
place-points_in [] ys k x_in y_in = let f : ⊥ = omega (arith, x_in) in absurd f
place-points_in (x ∷ xs) [] k x_in y_in = let f : ⊥ = omega (arith, y_in) in absurd f
place-points_in (x ∷ xs) (y ∷ ys) zero x_in y_in = refl
place-points_in (x ∷ xs) (y ∷ ys) (suc k) x_in y_in = place-points_in xs ys k (omega (arith, x_in)) (omega (arith, y_in))

-- the points of the first k coordinates of each kind, all in range
pub record AreMade (xs ys : List ℤ) (k : ℕ) (points : List Point) : Type 0 where
  pub made : points ≡ points_in (take k xs) (take k ys)
  pub in_range : (v : ℕ) → v < k → IsInRange (place (points_in xs ys) v)

pub AreMade-more : (xs ys : List ℤ) (k : ℕ) (points : List Point) → k < length xs → k < length ys → IsInRange (point_at xs ys k) → AreMade xs ys k points → AreMade xs ys (k + 1) (points ++ point_at xs ys k ∷ [])
AreMade-more xs ys k points x_in y_in within h = record {
  made = ap (λ ps. ps ++ point_at xs ys k ∷ []) h.made ∙ sym (points_in-take xs ys k x_in y_in);
  in_range = below_more (λ v. IsInRange (place (points_in xs ys) v)) k h.in_range (subst IsInRange (sym (place-points_in xs ys k x_in y_in)) within);
}

pub AreMade-done : (xs ys : List ℤ) (n k : ℕ) (points : List Point) → length xs ≡ n → length ys ≡ n → n ≤ k → AreMade xs ys k points → (points ≡ points_in xs ys) × ArePlaces n xs ys × (length points ≡ n) × AllInRange points
AreMade-done xs ys n k points x_long y_long all_made h =
    let is : points ≡ points_in xs ys = h.made ∙ ap₂ points_in (take_all k xs (omega (arith, x_long, all_made))) (take_all k ys (omega (arith, y_long, all_made))) in
    let count : length (points_in xs ys) ≡ n = length-points_in xs ys (omega (arith, x_long, y_long)) ∙ x_long in
    let all : AllInRange (points_in xs ys) = λ v v_in. h.in_range v (omega (arith, count, v_in, all_made)) in
    (is, record { x = x_long; y = y_long; in_range = all }, ap length is ∙ count, subst AllInRange (sym is) all)

-- a point out of range
pub not_places : (xs ys : List ℤ) (n k : ℕ) → k < n → ¬ IsInRange (point_at xs ys k) → ¬ ArePlaces n xs ys
not_places xs ys n k k_in out places =
    let x_long = places.x in
    let y_long = places.y in
    let count : length (points_in xs ys) ≡ length xs = length-points_in xs ys (omega (arith, x_long, y_long)) in
    out (subst IsInRange (place-points_in xs ys k (omega (arith, x_long, k_in)) (omega (arith, y_long, k_in))) (places.in_range k (omega (arith, count, x_long, k_in))))
