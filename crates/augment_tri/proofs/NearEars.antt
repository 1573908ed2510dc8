-- The ids near a dart: an ear among three darts in a row, and what cutting it leaves.
use Rattle.std.proofs.Common.{◌≡◌, ◌≢◌, ◌⊎◌, ℕ, Bool, true, false, if◌then◌else◌, ◌==◌, Option, Some, None, option_map, unwrap_or, refl, sym, ap, ap₂, ◌∙◌, subst, inl, inr}
use Rattle.std.specs.Prelude.{MatchBool, IsSome, IsTrue, nat_eq, ◌↔◌}
use Rattle.std.proofs.lemmas.Bool.{cases_eq, eq-eqb, eqb-true, ne_eqb, false≢true}
use Rattle.std.proofs.lemmas.Option.{same_Some}
use Rattle.map_lists.specs.Lists.{Lists}
use Rattle.map_theory.specs.Maps.{Dart, HasDart, IsSimpleMap, follows, face_step, component_count}
use Rattle.plane_laws.specs.Laws.{IsTriangle}
use Rattle.plane_laws.proofs.Triangles.{faces_have_three}
use Rattle.plane_laws.specs.Chords.{CanJoin, IsEar}
use Rattle.plane_laws.proofs.Chords.{one_chord, corner_chord}
use Rattle.half_edges.specs.Map.{Map, IsHalfMap, IsLive, dart_at, next_dart}
use Rattle.augment_tri.specs.Growing.{IsRoomy, IsCutEar, IsNear, IsCovered}
use Rattle.augment_tri.proofs.EarCover.{covered_here, covered_there}

-- a test's facts, and weaker ones
pub MatchBool-weaker : (b : Bool) (P Q P' Q' : Type 0) → MatchBool b P Q → (P → P') → (Q → Q') → MatchBool b P' Q'
MatchBool-weaker true P Q P' Q' h f g = f h
MatchBool-weaker false P Q P' Q' h f g = g h

-- the dart of a live id
some_dart : (o : Option Dart) → IsSome o → (x : Dart) × (o ≡ Some x)
some_dart (Some x) live = (x, refl)
some_dart None live = absurd (false≢true live)

pub live_dart : (map : Map) (d : ℕ) → IsLive map d → (x : Dart) × (dart_at map d ≡ Some x)
live_dart map d live = some_dart (dart_at map d) live

-- either way round
pub CanJoin-turned : (lists : Lists) (u v : ℕ) → IsSimpleMap lists → CanJoin lists u v → CanJoin lists v u
CanJoin-turned lists u v simple h = (λ e. h.0 (sym e), λ has. h.1 (simple.both_ways v u has))

-- three darts in a row along a face, under their ids
pub record AlongFace (map : Map) (d e f a b c x : ℕ) : Type 0 where
  pub at_d : dart_at map d ≡ Some (a, b)
  pub at_e : dart_at map e ≡ Some (b, c)
  pub at_f : dart_at map f ≡ Some (c, x)
  pub next : follows map.lists b a ≡ c
  pub after : follows map.lists c b ≡ x

pub along_face : (map : Map) (d e f a b c x : ℕ) → IsLive map d → dart_at map e ≡ option_map (face_step map.lists) (dart_at map d) → dart_at map f ≡ option_map (face_step map.lists) (dart_at map e) → option_map (λ (y : Dart). y.0) (dart_at map d) ≡ Some a → option_map (λ (y : Dart). y.0) (dart_at map e) ≡ Some b → option_map (λ (y : Dart). y.0) (dart_at map f) ≡ Some c → option_map (λ (y : Dart). y.1) (dart_at map f) ≡ Some x → AlongFace map d e f a b c x
along_face map d e f a b c x live to_e to_f tail_d tail_e tail_f head_f =
    let lists = map.lists in
    let number : Option ℕ → ℕ = λ o. unwrap_or o 0 in
    let y = live_dart map d live in
    let on_e : dart_at map e ≡ Some (face_step lists y.0) = to_e ∙ ap (option_map (face_step lists)) y.1 in
    let on_f : dart_at map f ≡ Some (face_step lists (face_step lists y.0)) = to_f ∙ ap (option_map (face_step lists)) on_e in
    let is_a : y.0.0 ≡ a = ap number (sym (ap (option_map (λ (z : Dart). z.0)) y.1) ∙ tail_d) in
    let is_b : y.0.1 ≡ b = ap number (sym (ap (option_map (λ (z : Dart). z.0)) on_e) ∙ tail_e) in
    let is_c : follows lists y.0.1 y.0.0 ≡ c = ap number (sym (ap (option_map (λ (z : Dart). z.0)) on_f) ∙ tail_f) in
    let is_x : follows lists (follows lists y.0.1 y.0.0) y.0.1 ≡ x = ap number (sym (ap (option_map (λ (z : Dart). z.1)) on_f) ∙ head_f) in
    record {
      at_d = y.1 ∙ ap₂ (λ v u. Some (v, u)) is_a is_b;
      at_e = on_e ∙ ap₂ (λ v u. Some (v, u)) is_b is_c;
      at_f = on_f ∙ ap₂ (λ v u. Some (v, u)) is_c is_x;
      next = sym (ap₂ (follows lists) is_b is_a) ∙ is_c;
      after = sym (ap₂ (follows lists) is_c is_b) ∙ is_x;
    }

module _ (map : Map) (d e f a b c x : ℕ) (roomy : IsRoomy map) (along : AlongFace map d e f a b c x) where
  abbrev lists : Lists
  lists = map.lists

  abbrev simple : IsSimpleMap lists
  simple = roomy.known.simple

  pub has_ab : HasDart lists a b
  has_ab = roomy.known.is_dart d a b along.at_d

  pub has_cx : HasDart lists c x
  has_cx = roomy.known.is_dart f c x along.at_f

  -- what the caller knows of d
  same_ends : (v u : ℕ) → dart_at map d ≡ Some (v, u) → (a ≡ v) × (b ≡ u)
  same_ends v u q = let one = same_Some (a, b) (v, u) (sym along.at_d ∙ q) in (ap (λ (z : Dart). z.0) one, ap (λ (z : Dart). z.1) one)

  step_is : (v u : ℕ) → dart_at map d ≡ Some (v, u) → face_step lists (v, u) ≡ (b, c)
  step_is v u q = let same = same_ends v u q in ap₂ (λ y z. (z, follows lists z y)) (sym same.0) (sym same.1) ∙ ap (λ z. (b, z)) along.next

  -- the ear near d
  abbrev pub NearEar : ℕ → Type 0
  NearEar at = (v u : ℕ) → dart_at map d ≡ Some (v, u) → (s : ℕ) × (t : ℕ) × (dart_at map at ≡ Some (s, t)) × IsEar lists s t × IsNear lists v u s t

  module _ (one : component_count lists ≡ 1) (large : (v u : ℕ) → dart_at map d ≡ Some (v, u) → ¬ IsTriangle lists (v, u)) where
    -- where the face comes back to a after three steps
    pub near_second : x ≡ a → NearEar f
    near_second back v u q =
        let y = follows lists a c in
        let other : y ≢ b = λ s.
        large a b along.at_d
        (ap (λ z. face_step lists (face_step lists (b, z))) along.next ∙ (ap (λ z. face_step lists (c, z)) (along.after ∙ back) ∙ ap (λ z. (a, z)) s)) in
        let j = corner_chord lists a b c y simple roomy.plane has_ab along.next (along.after ∙ back) refl other in
        (c, x, along.at_f, (has_cx, subst (λ z. CanJoin lists c (follows lists z c)) (sym back) j), inr (inr (sym (ap (face_step lists) (step_is v u q) ∙ ap (λ z. (c, z)) along.after))))

    -- where it does not, one of two edges may be put in
    pub either_chord : x ≢ a → CanJoin lists a c ⊎ CanJoin lists b x
    either_chord ne =
        let three = faces_have_three lists a b simple one roomy.some has_ab in
        one_chord lists a b c x simple roomy.plane has_ab along.next along.after ne
        (λ s. three.1 (ap₂ (λ v u. (v, u)) (along.next ∙ sym s.0) (ap₂ (follows lists) along.next refl ∙ (along.after ∙ sym s.1))))

-- three steps lead back to an id just where they lead back to its dart
pub triangle_by_ids : (map : Map) (d e f g a b : ℕ) → IsHalfMap map → dart_at map e ≡ option_map (face_step map.lists) (dart_at map d) → dart_at map f ≡ option_map (face_step map.lists) (dart_at map e) → dart_at map g ≡ option_map (face_step map.lists) (dart_at map f) → dart_at map d ≡ Some (a, b) → IsTrue (nat_eq g d) ↔ IsTriangle map.lists (a, b)
triangle_by_ids map d e f g a b known to_e to_f to_g at_d =
    let step = face_step map.lists in
    let third = step (step (step (a, b))) in
    let at_g : dart_at map g ≡ Some third = to_g ∙ ap (option_map step) (to_f ∙ ap (option_map step) (to_e ∙ ap (option_map step) at_d)) in (
      λ t. same_Some third (a, b) (sym at_g ∙ (ap (dart_at map) (eqb-true g d t) ∙ at_d)),
      λ t. eq-eqb g d (known.one_id g d a b (at_g ∙ ap (λ (z : Dart). Some z) t) at_d),
    )

-- the previous dart round a vertex
pub dart_before : (map : Map) (d before a b : ℕ) → IsLive map before → option_map (next_dart map.lists) (dart_at map before) ≡ dart_at map d → dart_at map d ≡ Some (a, b) → (p : ℕ) × (dart_at map before ≡ Some (a, p)) × (follows map.lists a p ≡ b)
dart_before map d before a b live to_d at_d =
    let y = live_dart map before live in
    let one = same_Some (next_dart map.lists y.0) (a, b) (sym (ap (option_map (next_dart map.lists)) y.1) ∙ (to_d ∙ at_d)) in
    let tail : y.0.0 ≡ a = ap (λ (z : Dart). z.0) one in
    (y.0.1, y.1 ∙ ap (λ v. Some (v, y.0.1)) tail, ap (λ v. follows map.lists v y.0.1) (sym tail) ∙ ap (λ (z : Dart). z.1) one)

-- where an ear near d was cut, all darts are covered by that at which to go on
pub near_covered : (old new : Map) (d ear put at a b s t : ℕ) → IsRoomy old → IsEar old.lists s t → IsCutEar old.lists new.lists s t → dart_at old d ≡ Some (a, b) → dart_at old ear ≡ Some (s, t) → IsNear old.lists a b s t → dart_at new put ≡ Some (s, follows old.lists t s) → ((z v u : ℕ) → dart_at old z ≡ Some (v, u) → dart_at new z ≡ Some (v, u)) → at ≡ (if ear == d then put else d) → (first : Map) (k : ℕ) → IsCovered first k old.lists a b → (v u : ℕ) → dart_at new at ≡ Some (v, u) → IsCovered first k new.lists v u
near_covered old new d ear put at a b s t roomy is_ear cut at_d at_ear near at_put ids goes first k covered v u at_at =
    let simple = roomy.known.simple in
    let has_ab = roomy.known.is_dart d a b at_d in
    elim (cases_eq ear d) [
      | inl e ↦
          let here = same_Some (s, follows old.lists t s) (v, u) (sym at_put ∙ (ap (dart_at new) (sym (goes ∙ rw (eq-eqb ear d e) refl)) ∙ at_at)) in
          let same = same_Some (a, b) (s, t) (sym at_d ∙ (ap (dart_at old) (sym e) ∙ at_ear)) in
          let start : IsCovered first k old.lists s t = subst (λ (y : Dart). IsCovered first k old.lists y.0 y.1) same covered in
          subst (λ (y : Dart). IsCovered first k new.lists y.0 y.1) here (covered_here old.lists simple roomy.plane s t is_ear new.lists cut first k start)
      | inr ne ↦
          let here = same_Some (a, b) (v, u) (sym (ids d a b at_d) ∙ (ap (dart_at new) (sym (goes ∙ rw (ne_eqb ear d ne) refl)) ∙ at_at)) in
          let other : s ≡ a → t ≡ b → ⊥ = λ q r. ne (roomy.known.one_id ear d a b (at_ear ∙ ap₂ (λ y z. Some (y, z)) q r) at_d) in
          subst (λ (y : Dart). IsCovered first k new.lists y.0 y.1) here (covered_there old.lists simple roomy.plane s t is_ear new.lists cut first k a b has_ab near other covered)
    ]
