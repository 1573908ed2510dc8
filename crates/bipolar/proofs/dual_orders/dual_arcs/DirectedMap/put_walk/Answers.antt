use Rattle.std.proofs.Common.{◌≡◌, ◌<◌, ℕ, List, [], Contains, length, get_or, take, option_map, Some, ◌+◌, refl, sym, ap, ◌∙◌, subst, arith}
use Rattle.std.proofs.lemmas.Bool.{true≢false}
use Rattle.std.proofs.Math.Seq.{take-length}
use Rattle.std.proofs.lemmas.List.{append-nil, get_or-map, length-map}
use Rattle.map_lists.specs.declared.ids.DartId.{DartId}
use Rattle.map_theory.specs.Maps.{twin_dart}
use Rattle.half_edges.specs.Map.{Map, IsLive, dart_at}
use Rattle.euler_faces.proofs.NumberLemmas.{live_from}
use Rattle.euler_faces.specs.FaceWalks.{AreFaces, ids_of, walk_at}
use Rattle.euler_faces.proofs.SideMarks.{some_dart}
use Rattle.bipolar.specs.FaceArcs.{InWalk, IsPutRight, ArePutRight}
use Rattle.bipolar.proofs.CutRows.{ArePutRight-more}
use Rattle.bipolar.proofs.dual_orders.dual_arcs.DirectedMap.put_walk.Goals as goal

id_at : (ds : List DartId) (i : ℕ) → i < length ds → get_or (ids_of ds) i 0 ≡ (get_or ds i (record { 0 = 0 })).0
id_at ds i l = get_or-map (λ (d : DartId). d.0) ds i (record { 0 = 0 }) 0 l

long : (ds : List DartId) → length (ids_of ds) ≡ length ds
long ds = length-map {B = ℕ} ds (λ (d : DartId). d.0)

none : (x : ℕ) → ¬ Contains [] x
none x h = let l = h.1 in omega (arith, l)

-- a dart of the walk of a face
module _ (map : Map) (walks : List (List ℕ)) (faces : AreFaces map walks) (f : ℕ) (f_in : f < length walks) (ds : List DartId) (same : ids_of ds ≡ walk_at walks f) (k : ℕ) (k_in : k < length ds) where
  abbrev id : ℕ
  id = (get_or ds k (record { 0 = 0 })).0

  live : IsLive map id
  live = subst (IsLive map) (ap (λ (ids : List ℕ). get_or ids k 0) (sym same) ∙ id_at ds k k_in) ((faces.each f f_in).live k (omega (arith, k_in, long ds, ap length same)))

  ends : (u : ℕ) × (v : ℕ) × (dart_at map id ≡ Some (u, v))
  ends = some_dart (dart_at map id) live

  -- its twin is of a face
  twin_face : (back : ℕ) → dart_at map back ≡ option_map twin_dart (dart_at map id) → (g : ℕ) × (g < length walks) × Contains (walk_at walks g) back
  twin_face back twin = faces.all back (live_from (dart_at map back) (ends.1, ends.0) (twin ∙ ap (option_map twin_dart) ends.2))

  -- one dart more
  more : (rank old row new : List ℕ) → ArePutRight map walks rank (take k (ids_of ds)) old row → IsPutRight map walks rank ends.0 ends.1 row new → ArePutRight map walks rank (take (k + 1) (ids_of ds)) old new
  more rank old row new w put = ArePutRight-more map walks rank (ids_of ds) k id ends.0 ends.1 old row new w (omega (arith, k_in, long ds)) (id_at ds k k_in) ends.2 put

pub goes_up-requires : goal.goes_up-requires
goes_up-requires c = live c.args.self.now.map.now c.args.faces.now c.requires.faces c.args.f c.requires.face c.walk-d-items.result.now c.walk-d-items.ensures.walk c.loop-d.d-index c.loop-d-test.true

pub twin-back-requires : goal.twin-back-requires
twin-back-requires c = live c.args.self.now.map.now c.args.faces.now c.requires.faces c.args.f c.requires.face c.walk-d-items.result.now c.walk-d-items.ensures.walk c.loop-d.d-index c.loop-d-test.true

pub of_dart-requires : goal.of_dart-requires
of_dart-requires c = twin_face c.args.self.now.map.now c.args.faces.now c.requires.faces c.args.f c.requires.face c.walk-d-items.result.now c.walk-d-items.ensures.walk c.loop-d.d-index c.loop-d-test.true c.twin-back.result.0 c.twin-back.ensures

pub loop-d-init : goal.loop-d-init
loop-d-init c = record { row = []; grown = sym (append-nil c.args.entries.now.items); faces = record { from = λ r h. absurd (none r h); to = λ d u v h. absurd (none d h) } }

pub loop-d-preserved-then-not-goes_up : goal.loop-d-preserved-then-not-goes_up
loop-d-preserved-then-not-goes_up c =
    let x = ends c.args.self.now.map.now c.args.faces.now c.requires.faces c.args.f c.requires.face c.walk-d-items.result.now c.walk-d-items.ensures.walk c.loop-d.d-index c.loop-d-test.true in
    let iff = c.goes_up.ensures x.0 x.1 x.2 in
    more c.args.self.now.map.now c.args.faces.now c.requires.faces c.args.f c.requires.face c.walk-d-items.result.now c.walk-d-items.ensures.walk c.loop-d.d-index c.loop-d-test.true c.args.self.now.rank.now c.args.entries.now.items c.loop-d.entries.items c.loop-d.entries.items c.loop-d.invariant
    (record { up = λ m. absurd (true≢false (sym (iff.1 m) ∙ c.if-not-goes_up.true)); down = λ m. refl })

pub loop-d-preserved : goal.loop-d-preserved
loop-d-preserved c =
    let x = ends c.args.self.now.map.now c.args.faces.now c.requires.faces c.args.f c.requires.face c.walk-d-items.result.now c.walk-d-items.ensures.walk c.loop-d.d-index c.loop-d-test.true in
    let upward = (c.goes_up.ensures x.0 x.1 x.2).0 c.if-not-goes_up.false in
    let there : InWalk c.args.self.now.map.now c.args.faces.now c.of_dart.result.0 x.1 x.0 = (c.of_dart.ensures.face, (c.twin-back.result.0, c.of_dart.ensures.stands, c.twin-back.ensures ∙ ap (option_map twin_dart) x.2)) in
    more c.args.self.now.map.now c.args.faces.now c.requires.faces c.args.f c.requires.face c.walk-d-items.result.now c.walk-d-items.ensures.walk c.loop-d.d-index c.loop-d-test.true c.args.self.now.rank.now c.args.entries.now.items c.loop-d.entries.items c.push.new.self.items c.loop-d.invariant
    (record { up = λ m. (c.of_dart.result.0, c.in_ok-push.ensures.items, there); down = λ m. absurd (omega (arith, upward, m)) })

pub returns : goal.returns
returns c =
    let ds = c.walk-d-items.result.now in
    let ids = ids_of ds in
    let end : c.loop-d.d-index ≡ length ids = omega (arith, c.loop-d-test.false, long ds, c.loop-d.auto.d-index-end) in
    let whole : take c.loop-d.d-index ids ≡ walk_at c.args.faces.now c.args.f = ap (λ k. take k ids) end ∙ (take-length ids ∙ c.walk-d-items.ensures.walk) in
    subst (λ (us : List ℕ). ArePutRight c.args.self.now.map.now c.args.faces.now c.args.self.now.rank.now us c.args.entries.now.items c.loop-d.entries.items) whole c.loop-d.invariant
