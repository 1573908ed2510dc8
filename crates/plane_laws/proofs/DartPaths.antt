-- Classes of darts that hold the twins, and the rotation but at cut corners: they hold what stands round a vertex between two cuts, and what a path joins.
use Rattle.std.proofs.Common.{◌≡◌, ◌⊎◌, ℕ, zero, suc, ◌-◌, ◌<◌, List, length, get_or, Contains, sym, ap, ◌∙◌, subst, inl, inr, arith}
use Rattle.std.proofs.lemmas.List.{get_or_default}
use Rattle.std.proofs.lemmas.List.Elements.{Contains-get_or}
use Rattle.classes.specs.Classes.{label}
use Rattle.classes.proofs.Classes.{Together, Together-from, same_class-from}
use Rattle.classes.proofs.Orbits.{orbits_of, orbits_of-step, IsPermuting}
use Rattle.classes.proofs.Bound.{joint, joint-first, joint-second, IsPermuting-pairing, IsPermuting-after, after}
use Rattle.map_lists.specs.Lists.{Lists}
use Rattle.map_theory.specs.Maps.{Dart, face_step, list_of, HasDart, IsSimpleMap, follows, dart_number, dart_count, face_classes, twin_dart}
use Rattle.map_theory.specs.Paths.{IsPath, JoinsAvoiding, SameFace, arc, from_entry}
use Rattle.map_theory.proofs.DartLemmas.{dart_number-lt, get_or-dart_number, dart_number-injective, HasDart-follows, HasDart-face_step}
use Rattle.map_theory.proofs.DartPermutations.{dart_of, dart_of-number, tail_of, turned_dart, rotation, twin, IsPermuting-rotation, IsPairing-twin, tail_of-rotation, orbits-face_images}
use Rattle.plane_laws.proofs.PlaneCuts.{image_of_some}
use Rattle.map_theory.proofs.ArcLemmas.{from_entry-first, from_entry-in, from_entry-next, from_entry-not_first, from_entry-has, length-from_entry, before_end, arc-at}

-- the tail of a dart's number
pub tail_of-number : (lists : Lists) (v u : ℕ) → HasDart lists v u → tail_of lists (dart_number lists (v, u)) ≡ v
tail_of-number lists v u h = ap (λ d. d.0) (get_or-dart_number lists v u (0, 0) h)

-- the twin of a dart's number is that of the dart the other way
pub twin-number : (lists : Lists) (v u : ℕ) → HasDart lists v u → twin lists (dart_number lists (v, u)) ≡ dart_number lists (u, v)
twin-number lists v u h = ap (λ d. dart_number lists (twin_dart d)) (get_or-dart_number lists v u (0, 0) h)

-- the rotation of a dart's number
pub rotation-number : (lists : Lists) (v u : ℕ) → HasDart lists v u → rotation lists (dart_number lists (v, u)) ≡ dart_number lists (v, follows lists v u)
rotation-number lists v u h = ap (λ d. dart_number lists (turned_dart lists d)) (get_or-dart_number lists v u (0, 0) h)

-- the numbers of different darts of one vertex are different
pub numbers_apart : (lists : Lists) (v a b : ℕ) → HasDart lists v a → HasDart lists v b → dart_number lists (v, a) ≡ dart_number lists (v, b) → a ≡ b
numbers_apart lists v a b h h' e = ap (λ d. d.1) (dart_number-injective lists (v, a) (v, b) h h' e)

-- the dart that the rotation leads to another
pub before_dart : (lists : Lists) (x v a p z : ℕ) → HasDart lists v a → rotation lists x ≡ dart_number lists (v, a) → HasDart lists p z → dart_number lists (p, z) ≡ x → (p ≡ v) × (follows lists p z ≡ a)
before_dart lists x v a p z has e h q =
    let same = dart_number-injective lists (p, follows lists p z) (v, a) (HasDart-follows lists p z h) has (sym (rotation-number lists p z h) ∙ (ap (rotation lists) q ∙ e)) in
    (ap (λ d. d.0) same, ap (λ d. d.1) same)

-- two darts are in one face where their numbers are in one orbit of the rotation after the twin
pub face_together : (lists : Lists) → IsSimpleMap lists → (d e : Dart) → SameFace lists d e → Together (orbits_of (after (rotation lists) (twin lists)) (dart_count lists)) (dart_number lists d) (dart_number lists e)
face_together lists simple d e h = rw (orbits-face_images lists simple) at (Together-from (face_classes lists) (dart_number lists d) (dart_number lists e) h)

pub same_face : (lists : Lists) → IsSimpleMap lists → (d e : Dart) → Together (orbits_of (after (rotation lists) (twin lists)) (dart_count lists)) (dart_number lists d) (dart_number lists e) → SameFace lists d e
same_face lists simple d e t = same_class-from (face_classes lists) (dart_number lists d) (dart_number lists e) (rw (orbits-face_images lists simple) t)

-- the face step by numbers
pub face_step-number : (lists : Lists) → IsSimpleMap lists → (d : Dart) → HasDart lists d.0 d.1 → after (rotation lists) (twin lists) (dart_number lists d) ≡ dart_number lists (face_step lists d)
face_step-number lists simple d has = ap (rotation lists) (twin-number lists d.0 d.1 has) ∙ rotation-number lists d.1 d.0 (simple.both_ways d.0 d.1 has)

-- the dart of its number
pub dart_of-face_step : (lists : Lists) → IsSimpleMap lists → (i : ℕ) → i < dart_count lists → dart_of lists (after (rotation lists) (twin lists) i) ≡ face_step lists (dart_of lists i)
dart_of-face_step lists simple i l =
    let d = dart_of lists i in
    let p = dart_of-number lists simple i l in
    let next = HasDart-face_step lists d simple p.is_dart in
    ap (λ x. dart_of lists (after (rotation lists) (twin lists) x)) (sym p.number)
    ∙ (ap (dart_of lists) (face_step-number lists simple d p.is_dart) ∙ get_or-dart_number lists (face_step lists d).0 (face_step lists d).1 (0, 0) next)

-- so it stays in the face
pub face_step_together : (lists : Lists) → IsSimpleMap lists → (d : Dart) → HasDart lists d.0 d.1 → Together (orbits_of (after (rotation lists) (twin lists)) (dart_count lists)) (dart_number lists d) (dart_number lists (face_step lists d))
face_step_together lists simple d has =
    let f = rotation lists in
    let g = twin lists in
    let k = dart_count lists in
    let w = IsPermuting-after f g k (IsPermuting-rotation lists simple) (IsPermuting-pairing g k (IsPairing-twin lists simple)) in
    orbits_of-step (after f g) k w.within (dart_number lists d) (dart_number-lt lists d.0 d.1 has) ∙ ap (label (orbits_of (after f g) k)) (face_step-number lists simple d has)

-- in the words of maps
pub same_face-step : (lists : Lists) → IsSimpleMap lists → (d e : Dart) → HasDart lists e.0 e.1 → SameFace lists d e → SameFace lists d (face_step lists e)
same_face-step lists simple d e has same = same_face lists simple d (face_step lists e) (face_together lists simple d e same ∙ face_step_together lists simple e has)

-- x is the dart before the corner of v before its entry a; so the face of (v, a) comes to that corner along the partner of x
pub record IsCorner (lists : Lists) (v a x : ℕ) : Type 0 where
  pub within : x < dart_count lists
  pub leads : rotation lists x ≡ dart_number lists (v, a)
  pub tail : tail_of lists x ≡ v
  pub face : Together (orbits_of (after (rotation lists) (twin lists)) (dart_count lists)) (twin lists x) (dart_number lists (v, a))

-- each dart has one
pub corner_of : (lists : Lists) → IsSimpleMap lists → (v a : ℕ) → HasDart lists v a → (x : ℕ) × IsCorner lists v a x
corner_of lists simple v a has =
    let f = rotation lists in
    let g = twin lists in
    let k = dart_count lists in
    let w = IsPermuting-rotation lists simple in
    let pair = IsPairing-twin lists simple in
    let x = image_of_some f k w (dart_number lists (v, a)) (dart_number-lt lists v a has) in (
      x.0,
      record {
        within = x.1;
        leads = x.2;
        tail = sym (tail_of-rotation lists simple x.0 x.1) ∙ (ap (tail_of lists) x.2 ∙ tail_of-number lists v a has);
        face = orbits_of-step (after f g) k (IsPermuting-after f g k w (IsPermuting-pairing g k pair)).within (g x.0) (pair.within x.0 x.1) ∙ ap (label (orbits_of (after f g) k)) (ap f (pair.back x.0 x.1) ∙ x.2);
      },
    )

-- an entry of an arc is a neighbour
pub arc_dart : (lists : Lists) → IsSimpleMap lists → (v a b : ℕ) → HasDart lists v a → (s : ℕ) → Contains (arc (list_of lists v) a b) s → HasDart lists v s
arc_dart lists simple v a b has_a s h =
    let us = list_of lists v in
    let distinct = simple.no_repeat v has_a.0 in
    let at = arc-at us a distinct has_a.1 b s h in
    (has_a.0, subst (Contains us) at.3 (from_entry-in us a distinct has_a.1 at.0 at.1))

-- The classes hold each dart and its twin, and each dart and the next from its vertex where the corner before that one is not cut; vertices with cut corners are avoided.
pub record HoldsCut (lists : Lists) (labels avoided : List ℕ) (cut : ℕ → ℕ → Type 0) : Type 0 where
  pub turns : (p z : ℕ) → HasDart lists p z → ¬ cut p (follows lists p z) → Together labels (dart_number lists (p, z)) (dart_number lists (p, follows lists p z))
  pub twins : (p z : ℕ) → HasDart lists p z → Together labels (dart_number lists (p, z)) (dart_number lists (z, p))
  pub away : (p z : ℕ) → cut p z → Contains avoided p

-- so do the joint classes of the twin and a rotation that is changed at the cut corners alone
pub HoldsCut-joint : (lists : Lists) → IsSimpleMap lists → (h : ℕ → ℕ) (avoided : List ℕ) (cut : ℕ → ℕ → Type 0) → IsPermuting h (dart_count lists) → ((p z : ℕ) → HasDart lists p z → ¬ cut p (follows lists p z) → h (dart_number lists (p, z)) ≡ rotation lists (dart_number lists (p, z))) → ((p z : ℕ) → cut p z → Contains avoided p) → HoldsCut lists (joint h (twin lists) (dart_count lists)) avoided cut
HoldsCut-joint lists simple h avoided cut w same away = grind (arith, twin, dart_count, joint, IsPairing-twin, joint-first, dart_number, dart_number-lt, label, rotation-number, joint-second, twin-number)

module _ (lists : Lists) (simple : IsSimpleMap lists) (labels avoided : List ℕ) (cut : ℕ → ℕ → Type 0) (holds : HoldsCut lists labels avoided cut) where
  -- round a vertex, up to where a corner is cut
  turned_held : (p a : ℕ) → HasDart lists p a → (i : ℕ) → i < length (list_of lists p) → ((j : ℕ) → j < i → ¬ cut p (get_or (from_entry a (list_of lists p)) (suc j) 0)) → Together labels (dart_number lists (p, a)) (dart_number lists (p, get_or (from_entry a (list_of lists p)) i 0))
  turned_held p a has zero l uncut = ap (λ x. label labels (dart_number lists (p, x))) (sym (from_entry-first (list_of lists p) a (simple.no_repeat p has.0) has.1))
  turned_held p a has (suc i) l uncut =
      let us = list_of lists p in
      let distinct = simple.no_repeat p has.0 in
      let s = get_or (from_entry a us) i 0 in
      let next = from_entry-next us a distinct has.1 i l in
      let has_s : HasDart lists p s = (has.0, from_entry-in us a distinct has.1 i (omega arith)) in
      turned_held p a has i (omega arith) (λ j m. uncut j (omega arith))
      ∙ (holds.turns p s has_s (λ c. uncut i (omega arith) (subst (cut p) next c)) ∙ ap (λ x. label labels (dart_number lists (p, x))) next)

  -- an arc whose ends alone may be cut
  pub arc_held : (p a b : ℕ) → HasDart lists p a → ((z : ℕ) → cut p z → (z ≡ a) ⊎ (z ≡ b)) → (s : ℕ) → Contains (arc (list_of lists p) a b) s → Together labels (dart_number lists (p, a)) (dart_number lists (p, s))
  arc_held p a b has ends s h =
      let us = list_of lists p in
      let distinct = simple.no_repeat p has.0 in
      let at = arc-at us a distinct has.1 b s h in
      turned_held p a has at.0 at.1 (λ j n c. elim (ends (get_or (from_entry a us) (suc j) 0) c) [
        | inl e ↦ from_entry-not_first us a distinct has.1 (suc j) (omega arith) (omega arith) e
        | inr e ↦ before_end us a distinct has.1 b (suc j) (omega arith) e
      ])
      ∙ ap (λ x. label labels (dart_number lists (p, x))) at.3

  -- a vertex that is not avoided
  vertex_held : (p z z' : ℕ) → HasDart lists p z → HasDart lists p z' → ¬ Contains avoided p → Together labels (dart_number lists (p, z)) (dart_number lists (p, z'))
  vertex_held p z z' has has' off =
      let us = list_of lists p in
      let distinct = simple.no_repeat p has.0 in
      let at = from_entry-has us z distinct has.1 z' has'.1 in
      let n = length-from_entry us z distinct has.1 in
      turned_held p z has at.0 (omega arith) (λ j m c. off (holds.away p (get_or (from_entry z us) (suc j) 0) c))
      ∙ ap (λ x. label labels (dart_number lists (p, x))) (get_or_default (from_entry z us) at.0 0 z' at.1 ∙ at.2)

  -- a path that meets no avoided vertex
  path_held : (path : List ℕ) → IsPath lists path → ((x : ℕ) → Contains path x → ¬ Contains avoided x) → (z : ℕ) → HasDart lists (get_or path 0 0) z → (n : ℕ) → n < length path → (z' : ℕ) → HasDart lists (get_or path n 0) z' → Together labels (dart_number lists (get_or path 0 0, z)) (dart_number lists (get_or path n 0, z'))
  path_held path p clear z has zero l z' has' = vertex_held (get_or path 0 0) z z' has has' (clear (get_or path 0 0) (Contains-get_or path 0 0 l))
  path_held path p clear z has (suc n) l z' has' =
      let u = get_or path n 0 in
      let v = get_or path (suc n) 0 in
      let dart = p.steps n l in
      path_held path p clear z has n (omega arith) v dart
      ∙ (holds.twins u v dart ∙ vertex_held v u z' (simple.both_ways u v dart) has' (clear v (Contains-get_or path (suc n) 0 l)))

  -- So where a path joins entries of two arcs, their first darts are in one class.
  pub arcs_joined : (p a b q c d : ℕ) → HasDart lists p a → HasDart lists q c → ((z : ℕ) → cut p z → (z ≡ a) ⊎ (z ≡ b)) → ((z : ℕ) → cut q z → (z ≡ c) ⊎ (z ≡ d)) → (s t : ℕ) → Contains (arc (list_of lists p) a b) s → Contains (arc (list_of lists q) c d) t → (path : List ℕ) → JoinsAvoiding lists avoided s t path → Together labels (dart_number lists (p, a)) (dart_number lists (q, c))
  arcs_joined p a b q c d has has' ends ends' s t in_s in_t path j =
      let has_s = arc_dart lists simple p a b has s in_s in
      let has_t = arc_dart lists simple q c d has' t in_t in
      let from_s = subst (λ x. HasDart lists x p) (sym j.start) (simple.both_ways p s has_s) in
      let from_t = subst (λ x. HasDart lists x q) (sym j.end) (simple.both_ways q t has_t) in
      let along = path_held path j.is_path (λ x h a. j.avoids x h a) p from_s (length path - 1) (omega arith) q from_t in
      let number : ℕ → ℕ → ℕ = λ x y. label labels (dart_number lists (x, y)) in
      arc_held p a b has ends s in_s
      ∙ (holds.twins p s has_s
      ∙ (ap (λ x. number x p) (sym j.start) ∙ (along ∙ (ap (λ x. number x q) j.end ∙ (sym (holds.twins q t has_t) ∙ sym (arc_held q c d has' ends' t in_t))))))
