-- What marks at a vertex and along a face tell of it.
use Rattle.std.proofs.Common.{◌≡◌, ◌≢◌, ◌⊎◌, ℕ, ◌+◌, ◌<◌, ◌≤◌, List, length, get_or, set, Contains, Option, Some, unwrap_or, sym, ap, ◌∙◌, subst, inl, inr, arith, get_or-set_other, get_or-set_same}
use Rattle.std.specs.Option.{option_map}
use Rattle.std.proofs.lemmas.Bool.{cases_eq, cases_lt}
use Rattle.std.proofs.lemmas.List.{get_or_default}
use Rattle.map_lists.specs.declared.ids.DartId.{DartId}
use Rattle.map_theory.specs.Maps.{Dart, HasDart, face_step, list_of, twin_dart}
use Rattle.half_edges.specs.Map.{Map, IsHalfMap, IsLive, dart_at}
use Rattle.euler_faces.specs.FaceWalks.{walk_at, ids_of, IsFaceWalk, AreFaces}
use Rattle.euler_faces.proofs.NumberLemmas.{live_from}
use Rattle.vertex_rounds.specs.Rounds.{dart_of}
use Rattle.vertex_rounds.proofs.DartIds.{dart_of-live}
use Rattle.vertex_rounds.proofs.LeastLemmas.{place_in}
use Rattle.convex_class.specs.Stamps.{IsStamped, AreStamped}
use Rattle.convex_class.specs.declared.face_pairs.face_meetings.Meeting.{Meeting}
use Rattle.convex_class.specs.Meetings.{IsHere, IsMet}
use Rattle.convex_class.specs.Clear.{IsRing, IsNumber, IsOffAt, IsOff, IsClearVertex, IsAcross, IsSide, IsCorner, IsOffPlace, MeetsAt, IsClearFace, after_place}
use Rattle.convex_class.proofs.WalkMarks.{get_or-ids, length-ids}
use Rattle.convex_class.proofs.StampLemmas.{IsStamped-none, IsStamped-fewer, AreStamped-more}
use Rattle.convex_class.proofs.MeetingLemmas.{IsMet-none, IsMet-fewer, IsMet-more, IsMet-both, IsMet-apart}

-- what calls of `head` and `tail` answer
pub head_is : (o : Option Dart) (v w z : ℕ) → o ≡ Some (v, w) → option_map (λ (e : Dart). e.1) o ≡ Some z → w ≡ z
head_is o v w z is e = ap (λ (x : Option ℕ). unwrap_or x 0) (sym (ap (option_map (λ (e : Dart). e.1)) is) ∙ e)

pub tail_is : (o : Option Dart) (v w z : ℕ) → o ≡ Some (v, w) → option_map (λ (e : Dart). e.0) o ≡ Some z → v ≡ z
tail_is o v w z is e = ap (λ (x : Option ℕ). unwrap_or x 0) (sym (ap (option_map (λ (e : Dart). e.0)) is) ∙ e)

-- what holds of each id holds of each dart of a row
pub each_dart : (ds : List DartId) (P : ℕ → Type 0) → ((i : ℕ) → i < length (ids_of ds) → P (get_or (ids_of ds) i 0)) → (i : ℕ) → i < length ds → P (get_or ds i (record { 0 = 0 })).0
each_dart ds P all i l = let long = length-ids ds in subst P (get_or-ids ds i l) (all i (omega arith))

-- what is marked at each place of a row is marked for each of its entries
pub stamped_each : (x k : ℕ) (ids : List ℕ) (Z : ℕ → ℕ → Type 0) (old : List ℕ) (best : ℕ) (new : List ℕ) (result : ℕ) → k ≡ length ids → AreStamped x k (λ i. Z (get_or ids i 0)) old best new result → IsStamped x (λ z. (d : ℕ) × Contains ids d × Z d z) old best new result
stamped_each x k ids Z old best new result whole s =
    IsStamped-fewer x (λ z. (i : ℕ) × (i < k) × Z (get_or ids i 0) z) (λ z. (d : ℕ) × Contains ids d × Z d z) old best new result
    (λ z h. let p = place_in ids h.0 h.1 in let l = p.1 in (p.0, omega arith, subst (λ d. Z d z) (sym p.2) h.2)) s.all

-- the darts of a row of u
pub ring_dart : (map : Map) (u : ℕ) (ds : List DartId) → IsRing map u (ids_of ds) → (i : ℕ) → i < length ds → dart_at map (get_or ds i (record { 0 = 0 })).0 ≡ Some (u, get_or (list_of map.lists u) i 0)
ring_dart map u ds r i l = ap (dart_at map) (sym (get_or-ids ds i l)) ∙ r.each i (omega (arith, length-ids ds))

pub ring_live : (map : Map) (u : ℕ) (ds : List DartId) → IsRing map u (ids_of ds) → (i : ℕ) → i < length ds → IsLive map (get_or ds i (record { 0 = 0 })).0
ring_live map u ds r i l = live_from (dart_at map (get_or ds i (record { 0 = 0 })).0) (u, get_or (list_of map.lists u) i 0) (ring_dart map u ds r i l)

-- the darts of a walk are live
pub walk_live : (map : Map) (walks : List (List ℕ)) → AreFaces map walks → (f : ℕ) → f < length walks → (ds : List DartId) → ids_of ds ≡ walk_at walks f → (i : ℕ) → i < length ds → IsLive map (get_or ds i (record { 0 = 0 })).0
walk_live map walks faces f l ds is = each_dart ds (IsLive map) (subst (λ (w : List ℕ). IsFaceWalk map w) (sym is) (faces.each f l)).live

-- so is what goes on from a place
after_live : (map : Map) (walk : List ℕ) → IsFaceWalk map walk → (i : ℕ) → i < length walk → IsLive map (after_place walk i)
after_live map walk w i l =
    let d = get_or walk i 0 in
    live_from (dart_at map (after_place walk i)) (face_step map.lists (dart_of map d)) (w.steps i l ∙ ap (option_map (face_step map.lists)) (dart_of-live map d (w.live i l)))

pub behind_live : (map : Map) (walks : List (List ℕ)) → AreFaces map walks → (f : ℕ) → f < length walks → (ds : List DartId) → ids_of ds ≡ walk_at walks f → (i : ℕ) → i < length ds → (e : ℕ) → e ≡ after_place (ids_of ds) i → IsLive map e
behind_live map walks faces f l ds is i m e behind = subst (λ d. IsLive map d) (sym behind) (after_live map (ids_of ds) (subst (λ (w : List ℕ). IsFaceWalk map w) (sym is) (faces.each f l)) i (omega (arith, length-ids ds, m)))

-- the tail of a live dart is a vertex
pub tail_below : (map : Map) → IsHalfMap map → (d v : ℕ) → IsLive map d → option_map (λ (e : Dart). e.0) (dart_at map d) ≡ Some v → v < length map.lists
tail_below map known d v live tail =
    let x = dart_of map d in
    let is = dart_of-live map d live in
    omega (arith, tail_is (dart_at map d) x.0 x.1 v is tail, (known.is_dart d x.0 x.1 is).0)

-- and that of the dart behind a place of a face, by the dart that the call names
pub corner_below : (map : Map) → IsHalfMap map → (walks : List (List ℕ)) → AreFaces map walks → (f : ℕ) → f < length walks → (ds : List DartId) → ids_of ds ≡ walk_at walks f → (i : ℕ) → i < length ds → (e v : ℕ) → e ≡ after_place (ids_of ds) i → option_map (λ (w : Dart). w.0) (dart_at map e) ≡ Some v → v < length map.lists
corner_below map known walks faces f l ds is i m e v behind = tail_below map known e v (behind_live map walks faces f l ds is i m e behind)

-- ---- from a vertex
module _ (u z p : ℕ) (us marks : List ℕ) (z_in : z < length marks) (at : get_or us p 0 ≡ z) where
  -- a neighbour more has the mark
  pub heads_more : ((i : ℕ) → i < p → get_or marks (get_or us i 0) 0 ≡ u) → (i : ℕ) → i < p + 1 → get_or (set marks z u) (get_or us i 0) 0 ≡ u
  heads_more all i l = grind (arith, cases_eq, get_or, set, get_or-set_same, cases_lt, get_or-set_other)

-- so all have it
pub heads_all : (u k : ℕ) (us marks : List ℕ) → k ≡ length us → ((i : ℕ) → i < k → get_or marks (get_or us i 0) 0 ≡ u) → (z : ℕ) → Contains us z → get_or marks z 0 ≡ u
heads_all u k us marks whole all z c =
    let p = place_in us z c in
    ap (λ y. get_or marks y 0) (sym p.2) ∙ all p.0 (omega arith)

-- The dart at place p of a walk leads from z to h, as the calls answer. What is marked are vertices other than u and a, by darts that do not lead to u.
module _ (map : Map) (u a : ℕ) (ds : List DartId) (p z h : ℕ) (l : p < length ds) (tail : option_map (λ (e : Dart). e.0) (dart_at map (get_or ds p (record { 0 = 0 })).0) ≡ Some z) (head : option_map (λ (e : Dart). e.1) (dart_at map (get_or ds p (record { 0 = 0 })).0) ≡ Some h) where
  abbrev OffAt : ℕ → ℕ → Type 0
  OffAt i y = IsOffAt map u a (get_or (ids_of ds) i 0) y

  same_id : (get_or ds p (record { 0 = 0 })).0 ≡ get_or (ids_of ds) p 0
  same_id = sym (get_or-ids ds p l)

  tail_there : (y : ℕ) → OffAt p y → y ≡ z
  tail_there y q = tail_is (dart_at map (get_or (ids_of ds) p 0)) y q.0 z q.1 (subst (λ d. option_map (λ (e : Dart). e.0) (dart_at map d) ≡ Some z) same_id tail)

  head_there : (y : ℕ) (q : OffAt p y) → q.0 ≡ h
  head_there y q = head_is (dart_at map (get_or (ids_of ds) p 0)) y q.0 h q.1 (subst (λ d. option_map (λ (e : Dart). e.1) (dart_at map d) ≡ Some h) same_id head)

  -- the tail is not marked
  pub marked_none : (old : List ℕ) (first : ℕ) (marks : List ℕ) (best : ℕ) → ((z ≡ u) ⊎ (z ≡ a)) ⊎ (h ≡ u) → AreStamped u p OffAt old first marks best → AreStamped u (p + 1) OffAt old first marks best
  marked_none old first marks best skip s =
      AreStamped-more u p OffAt old first marks best marks best s (IsStamped-none u (OffAt p) marks best (λ y q.
      elim skip [ inl o ↦ elim o [ inl r ↦ q.2 (tail_there y q ∙ r) | inr r ↦ q.4 (tail_there y q ∙ r) ] | inr r ↦ q.3 (head_there y q ∙ r) ]))

  -- or is
  pub marked_one : (old : List ℕ) (first : ℕ) (marks : List ℕ) (best : ℕ) (new : List ℕ) (result : ℕ) → IsStamped u (λ y. y ≡ z) marks best new result → AreStamped u p OffAt old first marks best → AreStamped u (p + 1) OffAt old first new result
  marked_one old first marks best new result here s =
      AreStamped-more u p OffAt old first marks best new result s (IsStamped-fewer u (λ y. y ≡ z) (OffAt p) marks best new result (λ y q. tail_there y q) here)

module _ (map : Map) (known : IsHalfMap map) (walks : List (List ℕ)) (faces : AreFaces map walks) where
  -- the walk of a dart is one
  pub one_number : (d f g : ℕ) → IsNumber walks d f → IsNumber walks d g → f ≡ g
  one_number d f g p q = faces.apart f g d p.0 q.0 p.1 q.1

  -- a dart from u is in its row
  pub in_ring : (u a d : ℕ) (ring : List ℕ) → IsRing map u ring → dart_at map d ≡ Some (u, a) → (i : ℕ) × (i < length ring) × (get_or ring i 0 ≡ d)
  in_ring u a d ring r is =
      let p = place_in (list_of map.lists u) a (known.is_dart d u a is).1 in
      let within : p.0 < length ring = omega arith in
      (p.0, within, known.one_id (get_or ring p.0 0) d u a (r.each p.0 within ∙ ap (λ z. Some (u, z)) p.2) is)

  -- what the face of a dart from u passes, by the walk that the calls name
  pub off_in_walk : (most u a d f z : ℕ) → option_map (λ (w : Dart). w.1) (dart_at map d) ≡ Some a → IsNumber walks d f → IsOff map walks most u d z → (length (walk_at walks f) ≤ most) × ((e : ℕ) × Contains (walk_at walks f) e × IsOffAt map u a e z)
  off_in_walk most u a d f z head number h =
      let e = one_number d h.f f h.number number in
      let off : IsOffAt map u a h.e z = subst (λ b. IsOffAt map u b h.e z) (head_is (dart_at map d) u h.a a h.dart head) h.off in
      (subst (λ g. length (walk_at walks g) ≤ most) e h.short, (h.e, subst (λ g. Contains (walk_at walks g) h.e) e h.on, off))

  module _ (most u : ℕ) (ring mid : List ℕ) (best : ℕ) (new : List ℕ) (least : ℕ) (whole : most ≡ length (list_of map.lists u)) (r : IsRing map u ring) (heads : (z : ℕ) → HasDart map.lists u z → get_or mid z 0 ≡ u) (s : AreStamped u (length ring) (λ i. IsOff map walks most u (get_or ring i 0)) mid best new least) where
    abbrev Off : ℕ → ℕ → Type 0
    Off d z = IsOff map walks most u d z

    off_at : (d z : ℕ) → Off d z → (i : ℕ) × (i < length ring) × (get_or ring i 0 ≡ d) × Off (get_or ring i 0) z
    off_at d z h = let p = in_ring u h.a d ring r h.dart in (p.0, p.1, p.2, subst (λ e. Off e z) (sym p.2) h)

    clear_alone : (d z : ℕ) → Off d z → HasDart map.lists u z → (least ≤ u) × (least ≤ z)
    clear_alone d z h has = let p = off_at d z h in s.all.again z (p.0, p.1, p.3) (heads z has)

    clear_apart : (d e z : ℕ) → d ≢ e → Off d z → Off e z → (least ≤ u) × (least ≤ z)
    clear_apart d e z ne h k =
        let p = off_at d z h in
        let q = off_at e z k in
        elim (cases_lt p.0 q.0) [
          | inl less ↦ s.apart p.0 q.0 z less q.1 p.3 q.3
          | inr le ↦ elim (cases_eq p.0 q.0) [
            | inl same ↦ absurd (ne (sym p.2 ∙ (ap (λ i. get_or ring i 0) same ∙ q.2)))
            | inr other ↦ s.apart q.0 p.0 z (omega arith) p.1 q.3 p.3
          ]
        ]

    pub clear_vertex : IsClearVertex map walks least u
    clear_vertex =
        record {
          alone = λ d z h. clear_alone d z (subst (λ n. IsOff map walks n u d z) (sym whole) h);
          apart = λ d e z ne h k. clear_apart d e z ne (subst (λ n. IsOff map walks n u d z) (sym whole) h) (subst (λ n. IsOff map walks n u e z) (sym whole) k);
        }

  -- ---- from a face
  -- the face across a dart, by the twin and the number that the calls name
  pub across_one : (d t r z : ℕ) → dart_at map t ≡ option_map twin_dart (dart_at map d) → IsNumber walks t r → IsAcross map walks d z → z ≡ r
  across_one d t r z twin number h =
      one_number t z r (subst (λ e. IsNumber walks e z) (known.one_id h.2 t h.1 h.0 h.4 (twin ∙ ap (option_map twin_dart) h.3)) h.5) number

  -- the faces at the vertex of e that are not across d or e, by the row that the calls name
  pub off_in_ring : (most f d e v x y z w h : ℕ) (ring : List ℕ) → option_map (λ (w : Dart). w.0) (dart_at map e) ≡ Some v → IsAcross map walks d x → IsAcross map walks e y → IsRing map v ring → IsCorner map walks most f d e z w h → (c : ℕ) × Contains ring c × IsNumber walks c z × (z ≢ f) × (z ≢ x) × (z ≢ y) × (w ≡ v) × (h ≡ v)
  off_in_ring most f d e v x y z w t ring tail at_x at_y r (h, both) =
      let same = tail_is (dart_at map e) w h.y v h.dart tail in
      let p = in_ring v h.h h.c ring r (h.corner ∙ ap (λ u. Some (u, h.h)) same) in (
        h.c,
        (p.0, p.1, get_or_default ring p.0 h.c 0 p.1 ∙ p.2),
        h.number,
        h.other,
        (λ q. h.not_before (subst (IsAcross map walks d) (sym q) at_x)),
        (λ q. h.not_behind (subst (IsAcross map walks e) (sym q) at_y)),
        same,
        both ∙ same,
      )

-- no face counts at a vertex with more darts, by the vertex that the call names
pub large_corner : (map : Map) (walks : List (List ℕ)) (most f d e v z x y : ℕ) → option_map (λ (w : Dart). w.0) (dart_at map e) ≡ Some v → most < length (list_of map.lists v) → IsCorner map walks most f d e z x y → ⊥
large_corner map walks most f d e v z x y tail large h = omega (arith, subst (λ u. length (list_of map.lists u) ≤ most) (tail_is (dart_at map e) x h.0.y v h.0.dart tail) h.0.small)

-- the meetings of a call at place i of the darts of face f, with the dart behind that the call names
pub off_place : (map : Map) (walks : List (List ℕ)) (f i e : ℕ) (ds : List DartId) (old : List Meeting) (best : ℕ) (new : List Meeting) (result : ℕ) → ids_of ds ≡ walk_at walks f → i < length ds → e ≡ after_place (ids_of ds) i → IsMet f (IsCorner map walks (length ds) f (get_or ds i (record { 0 = 0 })).0 e) old best new result → IsMet f (IsOffPlace map walks f i) old best new result
off_place map walks f i e ds old best new result is l behind s =
    let w = walk_at walks f in
    let d = (get_or ds i (record { 0 = 0 })).0 in
    subst (λ x. IsMet f (IsCorner map walks (length w) f (get_or w i 0) x) old best new result) (behind ∙ ap (λ (xs : List ℕ). after_place xs i) is)
    (subst (λ x. IsMet f (IsCorner map walks (length w) f x e) old best new result) (sym (get_or-ids ds i l) ∙ ap (λ (xs : List ℕ). get_or xs i 0) is)
    (subst (λ x. IsMet f (IsCorner map walks x f d e) old best new result) (sym (length-ids ds) ∙ ap (λ (xs : List ℕ). length xs) is) s))

-- The dart at place p of a row stands in face z, by the number that the call names. What is noted are faces other than f, x and y.
module _ (map : Map) (walks : List (List ℕ)) (faces : AreFaces map walks) (ds : List DartId) (place : Meeting) (x y p z : ℕ) (l : p < length ds) (is : IsNumber walks (get_or ds p (record { 0 = 0 })).0 z) where
  abbrev OffFaces : ℕ → ℕ → ℕ → ℕ → Type 0
  OffFaces i w s t = IsNumber walks (get_or (ids_of ds) i 0) w × (w ≢ place.face) × (w ≢ x) × (w ≢ y) × (s ≡ place.tail) × (t ≡ place.head)

  abbrev AreMet : ℕ → List Meeting → ℕ → List Meeting → ℕ → Type 0
  AreMet k old best new result = IsMet place.face (λ w s t. (i : ℕ) × (i < k) × OffFaces i w s t) old best new result

  one_there : (w s t : ℕ) → OffFaces p w s t → w ≡ z
  one_there w s t q =
      let here : IsNumber walks (get_or (ids_of ds) p 0) z = subst (λ d. IsNumber walks d z) (sym (get_or-ids ds p l)) is in
      faces.apart w z (get_or (ids_of ds) p 0) q.0.0 here.0 q.0.1 here.1

  -- the face is one of the three
  pub met_none : (old : List Meeting) (first : ℕ) (met : List Meeting) (best : ℕ) → (z ≡ place.face) ⊎ ((z ≡ x) ⊎ (z ≡ y)) → AreMet p old first met best → AreMet (p + 1) old first met best
  met_none old first met best skip h =
      IsMet-more place.face old first met best p OffFaces met best h (IsMet-none place.face (OffFaces p) met best (λ w s t q.
      let e = one_there w s t q in
      elim skip [ inl r ↦ q.1 (e ∙ r) | inr o ↦ elim o [ inl r ↦ q.2 (e ∙ r) | inr r ↦ q.3 (e ∙ r) ] ]))

  -- or is noted
  pub met_one : (old : List Meeting) (first : ℕ) (met : List Meeting) (best : ℕ) (new : List Meeting) (result : ℕ) → IsMet place.face (IsHere place z) met best new result → AreMet p old first met best → AreMet (p + 1) old first new result
  met_one old first met best new result here h =
      IsMet-more place.face old first new result p OffFaces met best h (IsMet-fewer place.face met best new result (IsHere place z) (OffFaces p) (λ w s t q. (one_there w s t q, q.4, q.5)) here)

-- the sides of a walk
abbrev Sides : Map → List (List ℕ) → List ℕ → ℕ → ℕ → ℕ → Type 0
Sides map walks walk z x y = (i : ℕ) × (i < length walk) × IsSide map walks (get_or walk i 0) z x y

pub clear_face : (map : Map) (walks : List (List ℕ)) (f : ℕ) (walk : List ℕ) (old : List Meeting) (best : ℕ) (mid : List Meeting) (middle : ℕ) (new : List Meeting) (least : ℕ) → walk ≡ walk_at walks f → IsMet f (λ z x y. (i : ℕ) × (i < length walk) × IsSide map walks (get_or walk i 0) z x y) old best mid middle → IsMet f (λ z x y. (i : ℕ) × (i < length (walk_at walks f)) × IsOffPlace map walks f i z x y) mid middle new least → IsClearFace map walks least f
clear_face map walks f walk old best mid middle new least is across s =
    let t = subst (λ (w : List ℕ). IsMet f (Sides map walks w) old best mid middle) is across in
    let both = IsMet-both f old best new least (Sides map walks (walk_at walks f)) (λ z x y. (i : ℕ) × (i < length (walk_at walks f)) × IsOffPlace map walks f i z x y) mid middle t s in
    record { apart = IsMet-apart f (MeetsAt map walks f) old best new least both }

-- ---- a lesser number
pub IsClearVertex-lower : (map : Map) (walks : List (List ℕ)) (best least u : ℕ) → least ≤ best → IsClearVertex map walks best u → IsClearVertex map walks least u
IsClearVertex-lower map walks best least u l h =
    record {
      alone = λ d z off has. let p = h.alone d z off has in let a = p.0 in let b = p.1 in (omega arith, omega arith);
      apart = λ d e z ne off off'. let p = h.apart d e z ne off off' in let a = p.0 in let b = p.1 in (omega arith, omega arith);
    }

pub IsClearFace-lower : (map : Map) (walks : List (List ℕ)) (best least f : ℕ) → least ≤ best → IsClearFace map walks best f → IsClearFace map walks least f
IsClearFace-lower map walks best least f l h = record { apart = λ z x y v w u p q on ne ne'. let a = h.apart z x y v w u p q on ne ne' in omega arith }
