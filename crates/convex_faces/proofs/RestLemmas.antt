-- The darts of the outer face from the head of the base to the tail of the dart before it.
use Rattle.std.proofs.Common.{◌≡◌, ◌≢◌, ◌⊎◌, ℕ, zero, suc, ◌<◌, ◌≤◌, Bool, List, [], ◌∷◌, ◌++◌, length, Some, option_map, refl, sym, ap, ap₂, ◌∙◌, subst, inl, inr, arith}
use Rattle.std.proofs.lemmas.Bool.{cases_eq}
use Rattle.classes.specs.Classes.{image, orbits, IsPermutationOfBelow}
use Rattle.classes.proofs.Classes.{Together, Together-from, same_class-from}
use Rattle.classes.proofs.Orbits.{IsPermuting-image}
use Rattle.classes.proofs.Walks.{walk, IsAway, IsAway-more, visited_at, walk_returns, visited_is_orbit}
use Rattle.map_lists.specs.Lists.{Lists}
use Rattle.map_theory.specs.Maps.{Dart, HasDart, IsPlane, follows, face_step, dart_number, face_images, face_classes}
use Rattle.map_theory.specs.Paths.{SameFace}
use Rattle.map_theory.proofs.DartLemmas.{dart_number-lt, dart_number-injective, length-face_images, IsPermutationOfBelow-face_images, HasDart-face_step}
use Rattle.map_theory.proofs.DartCounts.{dart_count-edge_count}
use Rattle.half_edges.specs.Map.{Map, IsLive, IsHalfMap, dart_at, id_bound}
use Rattle.euler_faces.proofs.NumberLemmas.{live_from, face_step-number}
use Rattle.vertex_rounds.specs.Rounds.{dart_of}
use Rattle.vertex_rounds.proofs.DartIds.{dart_of-live, dart_of-is, has_dart}
use Rattle.convex_peeling.proofs.Faces.{before_once}
use Rattle.convex_peeling.specs.Polyhedral.{IsPolyhedral, IsThreeConnected}
use Rattle.convex_peeling.proofs.Corners.{SameFace-turned, SameFace-chained, SameFace-step}
use Rattle.convex_peeling.proofs.PolyhedralLemmas.{three_connected_is_polyhedral}
use Rattle.convex_counts.specs.declared.face_woods.axis.Axis.TheVariants.{One, Three}
use Rattle.convex_laws.specs.Regions.{IsOuterWay}
use Rattle.convex_faces.specs.Passing.{PassesDart, PassesOuterWay, PassesRest, PassesOuter, IsOuterCorner}
use Rattle.convex_faces.proofs.PassLemmas.{Passes-append, IsOuterWay-more}

-- ---- steps along an orbit
away_or_back : (f : ℕ → ℕ) (a n : ℕ) → IsAway f a n ⊎ ((i : ℕ) × (0 < i) × (i ≤ n) × (walk f a i ≡ a))
away_or_back f a zero = inl (λ i pos l. absurd (omega arith))
away_or_back f a (suc n) =
    elim (cases_eq (walk f a (suc n)) a) [
      | inl e ↦ inr (suc n, omega arith, omega arith, e)
      | inr ne ↦ elim (away_or_back f a n) [ inl away ↦ inl (IsAway-more f a n away ne) | inr back ↦ inr (back.0, back.1, let l = back.2 in omega arith, back.3) ]
    ]

-- each number of an orbit is met within as many steps as there are numbers
pub arrives : (images : List ℕ) → IsPermutationOfBelow images → (a b : ℕ) → a < length images → b < length images → Together (orbits images) a b → (i : ℕ) × (i < length images) × (walk (image images) a i ≡ b)
arrives images p a b la lb t =
    elim (away_or_back (image images) a (length images)) [
      | inl away ↦ absurd (walk_returns (image images) (length images) (IsPermuting-image images p) a la away)
      | inr back ↦
          let met = visited_at (image images) a back.0 b (visited_is_orbit images p a back.0 la back.1 back.3 b lb ∙ same_class-from (orbits images) a b t) in
          let l = back.2 in
          let m = met.1 in
          (met.0, omega arith, met.2)
    ]

-- Under way on the dart d, after j steps: the darts before it are passed.
pub record IsOnRest (map : Map) (base before d j : ℕ) (old now : List Bool) : Type 0 where
  pub live : IsLive map d
  pub same : SameFace map.lists (dart_of map base) (dart_of map d)
  pub off : (dart_of map d).0 ≢ (dart_of map base).0
  pub number : dart_number map.lists (dart_of map d) ≡ walk (image (face_images map.lists)) (dart_number map.lists (face_step map.lists (dart_of map base))) j
  pub not_yet : (i : ℕ) → i < j → walk (image (face_images map.lists)) (dart_number map.lists (face_step map.lists (dart_of map base))) i ≢ dart_number map.lists (dart_of map before)
  pub passed : PassesOuterWay map base (dart_of map base).0 (dart_of map base).1 (dart_of map d).0 old now

module _ (map : Map) (known : IsHalfMap map) (plane : IsPlane map.lists) (three : IsThreeConnected map.lists) (base before : ℕ) (meet : IsOuterCorner map base before) where
  abbrev lists : Lists
  lists = map.lists

  abbrev B : Dart
  B = dart_of map base

  abbrev E : Dart
  E = dart_of map before

  abbrev images : List ℕ
  images = face_images lists

  polyhedral : IsPolyhedral lists
  polyhedral = three_connected_is_polyhedral lists three plane

  pub has_B : HasDart lists B.0 B.1
  has_B = has_dart map known base meet.base_live

  pub has_E : HasDart lists E.0 E.1
  has_E = has_dart map known before meet.before_live

  -- the dart before the base lies in its face
  pub same_E : SameFace lists B E
  same_E =
      let step : SameFace lists E (E.1, follows lists E.1 E.0) = SameFace-step lists known.simple E.0 E.1 has_E in
      SameFace-turned lists known.simple E B (subst (SameFace lists E) (ap₂ (λ (x y : ℕ). (x, y)) meet.meets (ap (λ z. follows lists z E.0) meet.meets ∙ meet.step)) step)

  pub same_B : SameFace lists B B
  same_B = SameFace-chained lists known.simple B E B same_E (SameFace-turned lists known.simple B E same_E)

  -- its tail is not the head of the base
  pub apart : E.0 ≢ B.1
  apart e = polyhedral.apart B.0 B.1 has_B (subst (SameFace lists B) (ap₂ (λ (x y : ℕ). (x, y)) e meet.meets) same_E)

  -- nor the tail of the base
  pub no_loop : B.0 ≢ E.0
  no_loop e = known.simple.no_loop E.0 E.1 has_E (meet.meets ∙ e)

  -- the dart of the id that follows
  step_at : (d e : ℕ) → IsLive map d → dart_at map e ≡ option_map (face_step lists) (dart_at map d) → dart_at map e ≡ Some (face_step lists (dart_of map d))
  step_at d e live h = h ∙ ap (option_map (face_step lists)) (dart_of-live map d live)

  pub begin_rest : (d : ℕ) (old : List Bool) → dart_at map d ≡ option_map (face_step lists) (dart_at map base) → IsOnRest map base before d 0 old old
  begin_rest d old h =
      let at = step_at base d meet.base_live h in
      let is : dart_of map d ≡ face_step lists B = dart_of-is map d (face_step lists B) at in
      record {
        live = live_from (dart_at map d) (face_step lists B) at;
        same = subst (SameFace lists B) (sym is) (SameFace-step lists known.simple B.0 B.1 has_B);
        off = λ e. known.simple.no_loop B.0 B.1 has_B (sym (ap (λ (x : Dart). x.0) is) ∙ e);
        number = ap (dart_number lists) is;
        not_yet = λ i l. absurd (omega arith);
        passed = record { way = []; is_way = sym (ap (λ (x : Dart). x.0) is); passes = λ d x y e. refl };
      }

  pub more_rest : (d e j j' : ℕ) (old mid new : List Bool) → IsOnRest map base before d j old mid → d ≢ before → PassesDart map d mid new → dart_at map e ≡ option_map (face_step lists) (dart_at map d) → j' ≡ suc j → IsOnRest map base before e j' old new
  more_rest d e j j' old mid new h ne pass next ej =
      let X = dart_of map d in
      let at = step_at d e h.live next in
      let is : dart_of map e ≡ face_step lists X = dart_of-is map e (face_step lists X) at in
      let has = has_dart map known d h.live in
      let live = live_from (dart_at map e) (face_step lists X) at in
      let goes = SameFace-chained lists known.simple B X (face_step lists X) h.same (SameFace-step lists known.simple X.0 X.1 has) in
      -- the dart is not the one before the base
      let other : X ≢ E = λ q. ne (known.one_id d before E.0 E.1 (dart_of-live map d h.live ∙ ap (λ (x : Dart). Some x) q) (dart_of-live map before meet.before_live)) in
      let off : X.1 ≢ B.0 = λ q.
      let back : SameFace lists B (B.0, follows lists B.0 X.0) = subst (λ z. SameFace lists B (z, follows lists z X.0)) q goes in
      let has' : HasDart lists X.0 B.0 = subst (HasDart lists X.0) q has in
      let on : HasDart lists B.0 (follows lists B.0 X.0) = subst (λ z. HasDart lists z (follows lists z X.0)) q (has_step X has) in
      let one = polyhedral.once B.0 B.1 (follows lists B.0 X.0) has_B on back in
      let tails = before_once lists known.simple X.0 B.0 E.0 has' (subst (HasDart lists E.0) meet.meets has_E) (sym one ∙ sym meet.step) in
      other (ap₂ (λ (x y : ℕ). (x, y)) tails (q ∙ sym meet.meets)) in
      subst (λ j. IsOnRest map base before e j old new) (sym ej) record {
        live = live;
        same = subst (SameFace lists B) (sym is) goes;
        off = λ q. off (sym (ap (λ (x : Dart). x.0) is) ∙ q);
        number = face_step-number map known d e h.live next ∙ ap (image images) h.number;
        not_yet = λ i l q. elim (cases_eq i j) [
          | inl same ↦ other (dart_number-injective lists X E has has_E (h.number ∙ (ap (walk (image images) (dart_number lists (face_step lists B))) (sym same) ∙ q)))
          | inr differ ↦ h.not_yet i (omega arith) q
        ];
        passed = record {
          way = h.passed.way ++ X ∷ [];
          is_way = subst (λ z. IsOuterWay lists B B.0 B.1 z (h.passed.way ++ X ∷ [])) (sym (ap (λ (x : Dart). x.0) is)) (IsOuterWay-more lists B B.0 B.1 h.passed.way X X.0 h.passed.is_way refl (refl, has, h.same, h.off, refl));
          passes = Passes-append map h.passed.way (X ∷ []) old mid new h.passed.passes (pass X.0 X.1 (dart_of-live map d h.live));
        };
      }
    where
      has_step : (X : Dart) → HasDart lists X.0 X.1 → HasDart lists X.1 (follows lists X.1 X.0)
      has_step X has = HasDart-face_step lists X known.simple has

  -- the dart before the base is met in time
  pub done_rest : (d j : ℕ) (old now : List Bool) → IsOnRest map base before d j old now → d ≡ before → PassesRest map base before old now
  done_rest d j old now h e = subst (λ z. PassesOuterWay map base B.0 B.1 z old now) (ap (λ z. (dart_of map z).0) e) h.passed

  pub none_left : (d j : ℕ) (old now : List Bool) → IsOnRest map base before d j old now → id_bound map ≤ j → ⊥
  none_left d j old now h l =
      let size = length-face_images lists in
      let start = HasDart-face_step lists B known.simple has_B in
      let a = dart_number-lt lists B.1 (follows lists B.1 B.0) start in
      let b = dart_number-lt lists E.0 E.1 has_E in
      let first : SameFace lists B (face_step lists B) = SameFace-step lists known.simple B.0 B.1 has_B in
      let same = SameFace-chained lists known.simple (face_step lists B) B E (SameFace-turned lists known.simple B (face_step lists B) first) same_E in
      let t = Together-from (face_classes lists) (dart_number lists (face_step lists B)) (dart_number lists E) same in
      let met = arrives images (IsPermutationOfBelow-face_images lists known.simple) (dart_number lists (face_step lists B)) (dart_number lists E) (omega arith) (omega arith) t in
      let few = met.1 in
      let count = dart_count-edge_count lists known.simple in
      h.not_yet met.0 (omega arith) met.2

  -- the parts that are one dart
  pub outer_one : (old new : List Bool) → PassesDart map before old new → PassesOuter map base before One old new
  outer_one old new p = record { way = E ∷ []; is_way = (refl, has_E, same_E, apart, meet.meets); passes = p E.0 E.1 (dart_of-live map before meet.before_live) }

  pub outer_three : (old new : List Bool) → PassesDart map base old new → PassesOuter map base before Three old new
  outer_three old new p = record { way = B ∷ []; is_way = (refl, has_B, same_B, no_loop, refl); passes = p B.0 B.1 (dart_of-live map base meet.base_live) }
