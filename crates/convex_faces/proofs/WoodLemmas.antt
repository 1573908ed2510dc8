-- The wood of the darts that are noted.
use Rattle.std.proofs.Common.{◌≡◌, ◌≢◌, ℕ, ◌<◌, List, length, Option, Some, unwrap_or, sym, ap, ◌∙◌, subst, arith}
use Rattle.map_lists.specs.Lists.{Lists}
use Rattle.map_theory.specs.Maps.{Dart, HasDart, IsPlane, follows, component_count}
use Rattle.std.specs.Option.{option_map}
use Rattle.half_edges.specs.Map.{Map, IsHalfMap, IsLive, dart_at, next_dart, id_bound}
use Rattle.euler_faces.proofs.NumberLemmas.{live_from, live-lt}
use Rattle.pg_plane.specs.declared.grid_points.Point.{Point}
use Rattle.plane_drawings.specs.Drawing.{place}
use Rattle.vertex_rounds.specs.Rounds.{dart_of}
use Rattle.vertex_rounds.proofs.DartIds.{dart_of-is, dart_of-live}
use Rattle.contour_runs.specs.Wood.{Coordinates, point_of}
use Rattle.contour_runs.specs.FaceRuns.{faces_made}
use Rattle.convex_counts.specs.Counts.{face_counts}
use Rattle.convex_counts.specs.Turns.{well_turned}
use Rattle.convex_counts.specs.declared.face_woods.axis.Axis.{Axis}
use Rattle.convex_counts.specs.declared.face_woods.axis.Axis.TheVariants.{One, Two, Three}
use Rattle.convex_laws.specs.ConvexWoods.{AreRoots}
use Rattle.convex_laws.specs.ConvexWoodsLaws.{AreRisingOut}
use Rattle.convex_laws.specs.RegionDrawings.{IsRegionDrawing}
use Rattle.convex_laws.proofs.Heights.{height}
use Rattle.convex_laws.proofs.WoodRegions.{regions_draw}
use Rattle.convex_laws.proofs.ConvexWoodsWhole.{IsWoodRun-named, some_out, wood_of_run, out_higher, most}
use Rattle.convex_laws.specs.Signs.{IsRisingBy}
use Rattle.convex_faces.specs.Notes.{IsNoted, AreNoted}
use Rattle.convex_faces.specs.Directions.{Directions, root_in, table_in, out_in, count_in, IsWoodIn, IsDrawnWood}
use Rattle.convex_draw.specs.RunPoints.{AreRunPoints}
use Rattle.convex_laws.proofs.SignLemmas.{IsRisingBy-counts, IsRising-points}
use Rattle.convex_faces.proofs.NoteLemmas.{tail_is, head_is as ends_head}

module _ (map : Map) (known : IsHalfMap map) (s d : ℕ) (points : List Point) (r : AreRunPoints map.lists s d points) (wood : Directions) (roots : AreRoots map.lists (s, d) (root_in wood)) (count : count_in wood ≡ length map.lists) (noted : (c : Axis) → AreNoted map points c (id_bound map) (table_in wood c)) where
  abbrev lists : Lists
  lists = map.lists

  abbrev counts : Coordinates
  counts = face_counts (well_turned r.steps) r.n

  abbrev root : Axis → ℕ
  root = root_in wood

  -- the head of the dart of an axis
  abbrev head : Axis → ℕ → ℕ
  head c v = (dart_of map (out_in wood c v)).1

  noted_at : (c : Axis) (v : ℕ) → v < length lists → v ≢ root c → IsNoted map points c v (out_in wood c v)
  noted_at c v l ne =
      let z = some_out lists s d r.steps r.n r.rank r.face r.at root c v r.run roots l ne in
      let u = z.0 in
      let lu = known.simple.in_range v u z.1 in
      let id = known.has_id v u z.1 in
      let small = live-lt map known id.0 (live_from (dart_at map id.0) (v, u) id.1) in
      let by = IsRisingBy-counts counts c (r.rank v) (r.rank u) z.2 in
      noted c id.0 v u small id.1 (subst (λ p. IsRisingBy c p (place points u)) (sym (r.placed v l)) (subst (IsRisingBy c (point_of counts (r.rank v))) (sym (r.placed u lu)) by))

  head_is : (c : Axis) (v : ℕ) → (n : IsNoted map points c v (out_in wood c v)) → head c v ≡ n.head
  head_is c v n = ap (λ (x : Dart). x.1) (dart_of-is map (out_in wood c v) (v, n.head) n.dart)

  darts : (c : Axis) (v : ℕ) → v < length lists → v ≢ root c → dart_at map (out_in wood c v) ≡ Some (v, head c v)
  darts c v l ne = let n = noted_at c v l ne in n.dart ∙ ap (λ (u : ℕ). Some (v, u)) (sym (head_is c v n))

  -- whatever tells the heads of the darts
  are_by : (to : Axis → ℕ → ℕ) → ((c : Axis) (v : ℕ) → v < length lists → v ≢ root c → dart_at map (out_in wood c v) ≡ Some (v, to c v)) → AreRisingOut lists counts r.rank root to
  are_by to told c v l ne =
      let n = noted_at c v l ne in
      let has = known.is_dart (out_in wood c v) v (to c v) (told c v l ne) in
      let lu = known.simple.in_range v (to c v) has in
      let same : n.head ≡ to c v = ap (λ (o : Option Dart). (unwrap_or o (0, 0)).1) (sym n.dart ∙ told c v l ne) in
      let by = subst (λ u. IsRisingBy c (place points v) (place points u)) same n.rises in
      (has, IsRising-points counts c (r.rank v) (r.rank (to c v)) (subst (λ p. IsRisingBy c p (point_of counts (r.rank (to c v)))) (r.placed v l) (subst (IsRisingBy c (place points v)) (r.placed (to c v) lu) by)))

  are : AreRisingOut lists counts r.rank root head
  are = are_by head darts

  -- the points are a drawing by its regions
  pub IsDrawnWood-noted : IsPlane lists → component_count lists ≡ 1 → IsDrawnWood map s d wood
  IsDrawnWood-noted plane connected = record {
    figure = r.figure;
    grid = r.grid;
    regions = λ w. subst (IsRegionDrawing lists (s, d) root w.head) (sym r.drawn) (regions_draw lists s d r.steps r.n r.rank r.face r.at root w.head points plane connected r.run roots (are_by w.head w.darts) r.placed);
  }

  pub IsWoodIn-noted : IsWoodIn map (s, d) wood
  IsWoodIn-noted =
      let h = IsWoodRun-named lists s d r.steps r.n r.rank r.face r.at r.run in
      let few = r.few in
      record {
        count = count;
        head = head;
        darts = darts;
        convex = wood_of_run lists s d r.steps r.n r.rank r.face r.at root head r.run roots are;
        height = λ c v. height counts (faces_made (well_turned r.steps) r.n) c (r.rank v);
        higher = λ c v u o. out_higher lists s d (well_turned r.steps) r.n r.rank r.face r.at h root roots head are c v u o;
        most = λ c v l. let m = most lists s d (well_turned r.steps) r.n r.rank r.face r.at h root roots head are c v l in omega arith;
      }

-- the dart before the base
pub before_is : (map : Map) (known : IsHalfMap map) (p base s d h : ℕ) → IsLive map p → option_map (next_dart map.lists) (dart_at map p) ≡ dart_at map base → dart_at map base ≡ Some (s, d) → option_map (λ (x : Dart). x.1) (dart_at map p) ≡ Some h → HasDart map.lists h s × (follows map.lists s h ≡ d)
before_is map known p base s d h live before e head =
    let x = dart_of map p in
    let is = dart_of-live map p live in
    let same : Some (next_dart map.lists x) ≡ Some (s, d) = sym (ap (option_map (next_dart map.lists)) is) ∙ before ∙ e in
    let pair : next_dart map.lists x ≡ (s, d) = ap (λ (o : Option Dart). unwrap_or o (0, 0)) same in
    let tail : x.0 ≡ s = ap (λ (y : Dart). y.0) pair in
    let next : follows map.lists x.0 x.1 ≡ d = ap (λ (y : Dart). y.1) pair in
    let there : x.1 ≡ h = ends_head (dart_at map p) x.0 x.1 h is head in
    let has = known.simple.both_ways x.0 x.1 (known.is_dart p x.0 x.1 is) in (
      subst (λ z. HasDart map.lists z s) there (subst (HasDart map.lists x.1) tail has),
      ap (follows map.lists s) (sym there) ∙ ap (λ z. follows map.lists z x.1) (sym tail) ∙ next,
    )

-- the three tables as one function
pub noted_all : (map : Map) (points : List Point) (wood : Directions) → AreNoted map points One (id_bound map) wood.ones → AreNoted map points Two (id_bound map) wood.twos → AreNoted map points Three (id_bound map) wood.threes → (c : Axis) → AreNoted map points c (id_bound map) (table_in wood c)
noted_all map points wood a b d One = a
noted_all map points wood a b d Two = b
noted_all map points wood a b d Three = d

module _ (map : Map) (known : IsHalfMap map) (base s d : ℕ) (points : List Point) (wood : Directions) (e : dart_at map base ≡ Some (s, d)) (one : option_map (λ (x : Dart). x.1) (dart_at map base) ≡ Some wood.root_one) (two : option_map (λ (x : Dart). x.0) (dart_at map base) ≡ Some wood.root_two) (three : (s d : ℕ) → dart_at map base ≡ Some (s, d) → HasDart map.lists wood.root_three s × (follows map.lists s wood.root_three ≡ d)) (count : count_in wood ≡ length map.lists) (a : AreNoted map points One (id_bound map) wood.ones) (b : AreNoted map points Two (id_bound map) wood.twos) (t : AreNoted map points Three (id_bound map) wood.threes) (r : AreRunPoints map.lists s d points) where
  roots_made : AreRoots map.lists (s, d) (root_in wood)
  roots_made =
      let before = three s d e in
      record { one = sym (ends_head (dart_at map base) s d wood.root_one e one); two = sym (tail_is (dart_at map base) s d wood.root_two e two); before = before.0; step = before.1 }

  pub IsWoodIn-made : IsWoodIn map (s, d) wood
  IsWoodIn-made = IsWoodIn-noted map known s d points r wood roots_made count (noted_all map points wood a b t)

  pub IsDrawnWood-made : IsPlane map.lists → component_count map.lists ≡ 1 → IsDrawnWood map s d wood
  IsDrawnWood-made plane connected = IsDrawnWood-noted map known s d points r wood roots_made count (noted_all map points wood a b t) plane connected
