-- Maps that grow by one edge: what stays, and that there is room.
use Rattle.std.proofs.Common.{◌≡◌, ◌≢◌, ℕ, ◌+◌, ◌*◌, ◌<◌, ◌≤◌, length, refl, sym, ap, ◌∙◌, subst, arith, Some}
use Rattle.map_theory.specs.Maps.{HasDart, IsPlane, list_of, place_of, follows, edge_count, component_count, component_classes, SameComponent}
use Rattle.map_theory.proofs.DartLemmas.{place_of-lt-length, HasDart-follows}
use Rattle.classes.specs.Classes.{label}
use Rattle.classes.proofs.Classes.{same_class-from}
use Rattle.map_theory.proofs.DartPermutations.{edge_together}
use Rattle.plane_laws.specs.Laws.{IsTriangle}
use Rattle.plane_laws.proofs.EdgeBound.{edge_bound}
use Rattle.plane_laws.proofs.Triangles.{edge_bound_met}
use Rattle.plane_laws.specs.Chords.{IsEar}
use Rattle.plane_laws.specs.MapEditsCompleted.{IsExtended}
use Rattle.plane_laws.specs.WithEdge.{with_edge_at}
use Rattle.plane_laws.proofs.Extended.{IsExtended-itself, IsExtended-chained, IsExtended-edge, edge_count-edge}
use Rattle.plane_laws.proofs.WithEdge.{edge_put_between}
use Rattle.half_edges.specs.Map.{Map, IsHalfMap, dart_at}
use Rattle.augment_tri.specs.Growing.{IsRoomy, IsGrown, IsPutIn, IsCutEar}
use Rattle.augment_tri.proofs.EarCover.{is_cut}

-- with no edge put in
pub IsGrown-itself : (map : Map) → IsGrown map map
IsGrown-itself map = record { extended = IsExtended-itself map.lists; total = refl; ids = λ d v u e. e }

-- and one after another
pub IsGrown-chained : (one two three : Map) → IsGrown one two → IsGrown two three → IsGrown one three
IsGrown-chained one two three h h' = record {
  extended = IsExtended-chained one.lists two.lists three.lists h.extended h'.extended;
  total = h'.total ∙ h.total;
  ids = λ d v u e. h'.ids d v u (h.ids d v u e);
}

-- the ids stay
abbrev KeepIds : Map → Map → Type 0
KeepIds old new = (d v u : ℕ) → dart_at old d ≡ Some (v, u) → dart_at new d ≡ Some (v, u)

-- an edge was put in
module _ (old new : Map) (roomy : IsRoomy old) (known : IsHalfMap new) (spare : new.spare + 1 ≡ old.spare) (ids : KeepIds old new) where
  grown_edge : (u i v j : ℕ) → IsPlane new.lists → new.lists ≡ with_edge_at old.lists u i v j → u < length old.lists → v < length old.lists → u ≢ v → ¬ HasDart old.lists u v → i ≤ length (list_of old.lists u) → j ≤ length (list_of old.lists v) → IsRoomy new × IsGrown old new
  grown_edge u i v j plane e in_u in_v u_v far at_u at_v = grind (arith, IsExtended, IsExtended-edge, edge_count, edge_count-edge)

  -- an ear was cut
  pub grown_ear : (s t : ℕ) → component_count old.lists ≡ 1 → IsEar old.lists s t → IsCutEar old.lists new.lists s t → IsRoomy new × IsGrown old new × (component_count new.lists ≡ 1)
  grown_ear s t one ear cut =
      let simple = roomy.known.simple in
      let done = is_cut old.lists simple roomy.plane s t ear new.lists cut in
      let w = follows old.lists t s in
      let has_wt = simple.both_ways t w (HasDart-follows old.lists t s (simple.both_ways s t ear.0)) in
      let in_i = place_of-lt-length cut.0 (list_of old.lists s) cut.1.1 in
      let in_j = place_of-lt-length t (list_of old.lists w) has_wt.1 in
      let grown = grown_edge s (place_of cut.0 (list_of old.lists s) + 1) w (place_of t (list_of old.lists w) + 1) done.split.plane cut.3 ear.0.0 has_wt.0 ear.1.0 ear.1.1 (omega arith) (omega arith) in
      (grown.0, grown.1, done.split.components ∙ one)

  -- two components were joined
  pub grown_join : (u v : ℕ) → u < length old.lists → v < length old.lists → ¬ SameComponent old.lists u v → IsPutIn old.lists new.lists u v → IsRoomy new × IsGrown old new
  grown_join u v in_u in_v far put = grind (arith, same_class-from, component_classes, edge_put_between, grown_edge, IsPlane, label, edge_together)

-- where a dart has no triangle there is room for an edge
pub spare_for_ear : (map : Map) (a b : ℕ) → IsRoomy map → HasDart map.lists a b → ¬ IsTriangle map.lists (a, b) → 1 ≤ map.spare
spare_for_ear map a b roomy has large =
    let simple = roomy.known.simple in
    let met = edge_bound_met map.lists simple roomy.plane roomy.some in
    let more : edge_count map.lists + 6 ≢ 3 * length map.lists = λ e. large ((met.0 e).1 a b has) in
    omega (arith, edge_bound map.lists simple roomy.plane roomy.some, more)

-- where two vertices are not in one component there is room for an edge
pub spare_for_join : (map : Map) (u v : ℕ) → IsRoomy map → u < length map.lists → v < length map.lists → ¬ SameComponent map.lists u v → 1 ≤ map.spare
spare_for_join map u v roomy in_u in_v far =
    let simple = roomy.known.simple in
    let together = same_class-from (component_classes map.lists) u v in
    let u_v : u ≢ v = λ e. far (together (ap (label (component_classes map.lists)) e)) in
    let apart : ¬ HasDart map.lists u v = λ h. far (together (edge_together map.lists simple u v h)) in
    let new = with_edge_at map.lists u 0 v 0 in
    let joined = edge_put_between map.lists u 0 v 0 simple roomy.plane in_u in_v far (omega arith) (omega arith) in
    let edges = edge_count-edge map.lists u 0 v 0 simple in_u in_v u_v apart (omega arith) (omega arith) in
    let same = (IsExtended-edge map.lists u 0 v 0 simple in_u in_v u_v apart (omega arith) (omega arith)).vertices in
    let bound = edge_bound new joined.0 joined.1.plane (omega (arith, roomy.some)) in
    omega (arith, roomy.room)
