-- Marks of sides.
use Rattle.std.proofs.Common.{◌≡◌, ◌≢◌, ◌*◌, ◌<◌, ℕ, Bool, true, false, List, [], length, set, Contains, rules, Option, Some, None, IsSome, option_map, unwrap_or, refl, ap, ◌∙◌, arith, get_or-set_other}
use Rattle.half_edges.specs.Map.{Map, IsLive, IsHalfMap, dart_at, id_bound}
use Rattle.map_theory.specs.Maps.{Dart}
use Rattle.euler_faces.specs.Numbers.{mark_at}
use Rattle.euler_faces.proofs.NumberLemmas.{live-lt, live_from, some_of}
use Rattle.euler_faces.specs.ChainSearch.{place}

pub mark-other : (met : List Bool) (i j : ℕ) → j ≢ i → mark_at (set met i true) j ≡ mark_at met j
mark-other met i j ne = get_or-set_other met i j true false ne

pub place_same : (d d' : ℕ) (odd odd' : Bool) → place d odd ≡ place d' odd' → (d ≡ d') × (odd ≡ odd')
place_same d d' true true e = (omega (arith, e), refl)
place_same d d' true false e = absurd (omega (arith, e))
place_same d d' false true e = absurd (omega (arith, e))
place_same d d' false false e = (omega (arith, e), refl)

pub place_small : (d k : ℕ) (odd : Bool) → d < k → place d odd < 2 * k
place_small d k true l = omega arith
place_small d k false l = omega arith

-- the dart of a live id
pub head_is : (o : Option Dart) (y : ℕ) → option_map (λ d. d.1) o ≡ Some y → (x : ℕ) × (o ≡ Some (x, y))
head_is None y e = cc
head_is (Some d) y e = (d.0, ap (λ y. Some (d.0, y)) (ap (λ o. unwrap_or o 0) e))

pub some_dart : (o : Option Dart) → IsSome o → (x : ℕ) × (y : ℕ) × (o ≡ Some (x, y))
some_dart o l = let t = some_of o l in (t.0.0, t.0.1, t.1)

-- and its ends are vertices
module _ (map : Map) (known : IsHalfMap map) where
  pub head_small : (d y : ℕ) → option_map (λ d. d.1) (dart_at map d) ≡ Some y → y < length map.lists
  head_small d y e = let t = head_is (dart_at map d) y e in known.simple.in_range t.0 y (known.is_dart d t.0 y t.1)

  pub live_after : (d d' : ℕ) (f : Dart → Dart) → IsLive map d → dart_at map d' ≡ option_map f (dart_at map d) → (x : ℕ) × (y : ℕ) × (dart_at map d ≡ Some (x, y)) × (dart_at map d' ≡ Some (f (x, y)))
  live_after d d' f l e = let t = some_dart (dart_at map d) l in (t.0, t.1, t.2, e ∙ ap (option_map f) t.2)

  pub place_live : (d : ℕ) (odd : Bool) (x : Dart) → dart_at map d ≡ Some x → place d odd < 2 * id_bound map
  place_live d odd x e = place_small d (id_bound map) odd (live-lt map known d (live_from (dart_at map d) x e))

pub not_in_none : {X : Type 0} {x : X} → ¬ Contains [] x
not_in_none m = search rules

-- a dart of two vertices
abbrev pub some_pair : ℕ → ℕ → Option Dart
some_pair a b = Some (a, b)

abbrev pub dart_in : Option Dart → Dart
dart_in o = unwrap_or o (0, 0)
