-- A wood that a wrong body would give: the clause refuses it.
use Rattle.std.proofs.Common.{◌≡◌, ◌≢◌, ◌<◌, ℕ, length, unwrap_or, sym, ap, refl, ◌∙◌}
use Rattle.map_theory.specs.Maps.{Dart}
use Rattle.half_edges.specs.Map.{Map, dart_at}
use Rattle.convex_counts.specs.declared.face_woods.axis.Axis.TheVariants.{One, Two}
use Rattle.convex_faces.specs.Directions.{Directions, IsWoodIn, root_in, out_in}

-- the darts along one axis are those along another
two_axes_are_one : (map : Map) (base : Dart) (wood : Directions) (v : ℕ) → v < length map.lists → v ≢ root_in wood One → v ≢ root_in wood Two → out_in wood One v ≡ out_in wood Two v → ¬ IsWoodIn map base wood
two_axes_are_one map base wood v l one two same w =
    let e = w.darts One v l one in
    let f = w.darts Two v l two in
    let d : ◌≡◌ {A = Dart} (v, w.head Two v) (v, w.head One v) = ap (λ o. unwrap_or {T = Dart} o (0, 0)) (sym f ∙ (ap (dart_at map) (sym same) ∙ e)) in
    let heads : w.head Two v ≡ w.head One v = ap (λ (p : Dart). p.1) d in
    let axes : One ≡ Two = w.convex.one_axis One Two v (w.head One v) (record { vertex = l; other = one; is = refl }) (record { vertex = l; other = two; is = heads }) in
    cc
