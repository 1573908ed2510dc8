-- A step along an axis of a wood.
use Rattle.std.proofs.Common.{◌≡◌, ◌≢◌, ℕ, suc, ◌+◌, ◌<◌, ◌≤◌, Bool, List, length, Option, Some, None, option_map, unwrap_or, sym, ap, ◌∙◌, subst, arith}
use Rattle.map_theory.specs.Maps.{Dart}
use Rattle.half_edges.specs.Map.{Map, IsLive, IsHalfMap, dart_at}
use Rattle.euler_faces.proofs.NumberLemmas.{live_from}
use Rattle.convex_counts.specs.declared.face_woods.axis.Axis.{Axis}
use Rattle.convex_laws.specs.ConvexWoods.{IsOut}
use Rattle.convex_faces.specs.Directions.{Directions, root_in, out_in, IsWoodIn}
use Rattle.convex_faces.specs.Passing.{PassesDart, PassesAxis}
use Rattle.convex_faces.proofs.PassLemmas.{axis_more}

-- an option is not both
some_not_none : {X : Type 0} (o : Option X) (x : X) → o ≡ Some x → o ≢ None
some_not_none o x e n = cc

pub not_root : {X : Type 0} (o : Option X) (x : X) (P : Type 0) → o ≡ Some x → (P → o ≡ None) → ¬ P
not_root o x P e none p = some_not_none o x e (none p)

module _ (map : Map) (known : IsHalfMap map) (base : Dart) (wood : Directions) (w : IsWoodIn map base wood) (c : Axis) (v at d : ℕ) (l : at < length map.lists) (ne : at ≢ root_in wood c) (is : d ≡ out_in wood c at) where
  dart : dart_at map d ≡ Some (at, w.head c at)
  dart = ap (dart_at map) is ∙ w.darts c at l ne

  pub live : IsLive map d
  live = live_from (dart_at map d) (at, w.head c at) dart

  module _ (u : ℕ) (head : option_map (λ (x : Dart). x.1) (dart_at map d) ≡ Some u) where
    head_is : u ≡ w.head c at
    head_is = ap (λ o. unwrap_or {T = ℕ} o 0) (sym head ∙ ap (option_map (λ (x : Dart). x.1)) dart)

    out : IsOut map.lists (root_in wood) w.head c at u
    out = record { vertex = l; other = ne; is = sym head_is }

    pub in_range : u < length map.lists
    in_range = subst (λ u. u < length map.lists) (sym head_is) (known.simple.in_range at (w.head c at) (known.is_dart d at (w.head c at) dart))

    pub step : (old mid new : List Bool) → PassesAxis map (root_in wood) w.head c v at old mid → PassesDart map d mid new → PassesAxis map (root_in wood) w.head c v u old new
    step old mid new h p = axis_more map known (root_in wood) w.head c v at u old mid new h out (p at u (dart ∙ ap (λ (z : ℕ). Some (at, z)) (sym head_is)))

    pub higher : (j j' : ℕ) → w.height c v + j ≤ w.height c at → j' ≡ suc j → w.height c v + j' ≤ w.height c u
    higher j j' h e = let up = w.higher c at u out in omega arith
