-- Darts noted at their vertices.
use Rattle.std.proofs.Common.{◌≡◌, ℕ, ◌+◌, ◌<◌, Bool, IsTrue, List, length, get_or, set, Option, Some, sym, ap, ◌∙◌, subst, inl, inr, arith, get_or-set_same, get_or-set_other}
use Rattle.std.proofs.lemmas.Bool.{cases_eq}
use Rattle.std.specs.Option.{option_map}
use Rattle.pg_plane.specs.declared.grid_points.Point.{Point}
use Rattle.plane_drawings.specs.Drawing.{place}
use Rattle.map_theory.specs.Maps.{Dart}
use Rattle.half_edges.specs.Map.{Map, IsLive, dart_at}
use Rattle.euler_faces.proofs.NumberLemmas.{live_from}
use Rattle.convex_counts.specs.declared.face_woods.axis.Axis.{Axis}
use Rattle.convex_laws.specs.Signs.{IsRisingBy}
use Rattle.convex_faces.specs.Notes.{IsNoted, IsRisingDart, Notes, AreNoted}

-- what the ends of a dart tell
pub tail_is : (o : Option Dart) (v u x : ℕ) → o ≡ Some (v, u) → option_map (λ (d : Dart). d.0) o ≡ Some x → v ≡ x
tail_is o v u x e h = let t : Some v ≡ Some x = sym (ap (option_map (λ (d : Dart). d.0)) e) ∙ h in cc

pub head_is : (o : Option Dart) (v u x : ℕ) → o ≡ Some (v, u) → option_map (λ (d : Dart). d.1) o ≡ Some x → u ≡ x
head_is o v u x e h = let t : Some u ≡ Some x = sym (ap (option_map (λ (d : Dart). d.1)) e) ∙ h in cc

pub same_dart : (v u v' u' : ℕ) (o : Option Dart) → o ≡ Some (v, u) → o ≡ Some (v', u') → (v ≡ v') × (u ≡ u')
same_dart v u v' u' o e f = (tail_is o v u v' e (ap (option_map (λ (d : Dart). d.0)) f), head_is o v u u' e (ap (option_map (λ (d : Dart). d.1)) f))

module _ (map : Map) (points : List Point) (c : Axis) (id : ℕ) where
  pub IsRisingDart-not_live : ¬ IsLive map id → ¬ IsRisingDart map points c id
  IsRisingDart-not_live none h = none (live_from (dart_at map id) (h.0, h.1.head) h.1.dart)

  -- a dart of which both ends are known
  pub IsRisingDart-of : (v u : ℕ) → dart_at map id ≡ Some (v, u) → IsRisingBy c (place points v) (place points u) → IsRisingDart map points c id
  IsRisingDart-of v u e r = (v, record { head = u; dart = e; rises = r })

  pub IsRisingDart-rises : (v u : ℕ) → dart_at map id ≡ Some (v, u) → IsRisingDart map points c id → IsRisingBy c (place points v) (place points u)
  IsRisingDart-rises v u e h =
      let same = same_dart h.0 h.1.head v u (dart_at map id) h.1.dart e in
      subst (λ v. IsRisingBy c (place points v) (place points u)) same.0 (subst (λ u. IsRisingBy c (place points h.0) (place points u)) same.1 h.1.rises)

  -- a dart that does not lead along the axis need not be noted
  pub Notes-none : (old : List ℕ) → ¬ IsRisingDart map points c id → Notes map points c id old old
  Notes-none old none = record { kept = λ v h. h; here = λ v u e r. absurd (none (IsRisingDart-of v u e r)) }

  -- one that does is
  pub Notes-set : (old : List ℕ) (v u x : ℕ) → dart_at map id ≡ Some (v, u) → v ≡ x → x < length old → IsRisingDart map points c id → Notes map points c id old (set old x id)
  Notes-set old v u x e same l h =
      let r = IsRisingDart-rises v u e h in
      let noted : IsNoted map points c v id = record { head = u; dart = e; rises = r } in
      let at_x : get_or (set old x id) x 0 ≡ id = get_or-set_same old x id 0 l in
      let there : (w : ℕ) → w ≡ x → IsNoted map points c w (get_or (set old x id) w 0) = λ w f.
      subst (λ w. IsNoted map points c w (get_or (set old x id) w 0)) (sym f) (subst (IsNoted map points c x) (sym at_x) (subst (λ w. IsNoted map points c w id) same noted)) in
      record {
        kept = λ w k. elim (cases_eq w x) [
          | inl f ↦ there w f
          | inr ne ↦ subst (IsNoted map points c w) (sym (get_or-set_other old x w id 0 ne)) k
        ];
        here = λ w z f s. there w ((same_dart w z v u (dart_at map id) f e).0 ∙ same);
      }

-- one id more
pub AreNoted-more : (map : Map) (points : List Point) (c : Axis) (k : ℕ) (old new : List ℕ) → Notes map points c k old new → AreNoted map points c k old → AreNoted map points c (k + 1) new
AreNoted-more map points c k old new n are id v u l e r = elim (cases_eq id k) [
  | inl same ↦ n.here v u (subst (λ i. dart_at map i ≡ Some (v, u)) same e) r
  | inr ne ↦ n.kept v (are id v u (omega arith) e r)
]

-- What a test of two points says of the dart between their vertices.
pub rising_dart_iff :
    (map : Map) (points : List Point) (c : Axis) (id v u x y : ℕ) (p q : Point) (r : Bool) → dart_at map id ≡ Some (v, u) → v ≡ x → u ≡ y → p ≡ place points x → q ≡ place points y → (IsTrue r → IsRisingBy c p q) → (IsRisingBy c p q → IsTrue r)
    → (IsTrue r → IsRisingDart map points c id) × (IsRisingDart map points c id → IsTrue r)
rising_dart_iff map points c id v u x y p q r e ex ey ep eq there back =
    let atv : p ≡ place points v = ep ∙ ap (place points) (sym ex) in
    let atu : q ≡ place points u = eq ∙ ap (place points) (sym ey) in (
      λ t. IsRisingDart-of map points c id v u e (subst (λ p. IsRisingBy c p (place points u)) atv (subst (IsRisingBy c p) atu (there t))),
      λ h. back (subst (λ p. IsRisingBy c p q) (sym atv) (subst (IsRisingBy c (place points v)) (sym atu) (IsRisingDart-rises map points c id v u e h))),
    )
