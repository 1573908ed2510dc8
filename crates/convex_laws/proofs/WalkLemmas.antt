-- Walks put together, and turned.
use Rattle.std.proofs.Common.{◌≡◌, ℕ, Bool, ◌||◌, eqb, List, [], ◌∷◌, ◌++◌, refl, sym, ap, ap₂, ◌∙◌, subst}
use Rattle.std.proofs.Math.Bool.{or_comm, and_comm}
use Rattle.map_lists.specs.Lists.{Lists}
use Rattle.map_theory.specs.Maps.{Dart, IsSimpleMap, twin_dart, same_dart}
use Rattle.convex_laws.specs.Walks.{IsWalk, turned, flipped, is_edge, is_odd_on}
use Rattle.convex_laws.proofs.Flips.{flipped_assoc, flipped_comm, flipped_false}

pub IsWalk-append : (lists : Lists) (xs ys : List Dart) (v w u : ℕ) → IsWalk lists v w xs → IsWalk lists w u ys → IsWalk lists v u (xs ++ ys)
IsWalk-append lists [] ys v w u e is = subst (λ z. IsWalk lists z u ys) (sym e) is
IsWalk-append lists (d ∷ xs) ys v w u h is = (h.0, h.1, IsWalk-append lists xs ys d.1 w u h.2 is)

pub IsWalk-turned : (lists : Lists) → IsSimpleMap lists → (xs : List Dart) (v w : ℕ) → IsWalk lists v w xs → IsWalk lists w v (turned xs)
IsWalk-turned lists simple [] v w e = sym e
IsWalk-turned lists simple (d ∷ xs) v w h =
    IsWalk-append lists (turned xs) (twin_dart d ∷ []) w d.1 v (IsWalk-turned lists simple xs d.1 w h.2) (refl, simple.both_ways d.0 d.1 h.1, h.0)

pub is_odd_on-append : (xs ys : List Dart) (x y : ℕ) → is_odd_on (xs ++ ys) x y ≡ flipped (is_odd_on xs x y) (is_odd_on ys x y)
is_odd_on-append [] ys x y = refl
is_odd_on-append (d ∷ xs) ys x y = ap (flipped (is_edge d x y)) (is_odd_on-append xs ys x y) ∙ flipped_assoc (is_edge d x y) (is_odd_on xs x y) (is_odd_on ys x y)

is_edge-twin : (d : Dart) (x y : ℕ) → is_edge (twin_dart d) x y ≡ is_edge d x y
is_edge-twin d x y =
    or_comm (same_dart (twin_dart d) (x, y)) (same_dart (twin_dart d) (y, x)) ∙ ap₂ (λ (a b : Bool). a || b) (and_comm (eqb d.1 y) (eqb d.0 x)) (and_comm (eqb d.1 x) (eqb d.0 y))

pub is_odd_on-turned_walk : (xs : List Dart) (x y : ℕ) → is_odd_on (turned xs) x y ≡ is_odd_on xs x y
is_odd_on-turned_walk [] x y = refl
is_odd_on-turned_walk (d ∷ xs) x y =
    is_odd_on-append (turned xs) (twin_dart d ∷ []) x y
    ∙ (ap₂ flipped (is_odd_on-turned_walk xs x y) (flipped_false (is_edge (twin_dart d) x y) ∙ is_edge-twin d x y) ∙ flipped_comm (is_odd_on xs x y) (is_edge d x y))
