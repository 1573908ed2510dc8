-- A vertex taken out of a map: each dart is given the face that it is drawn into, and a face step that does not pass the vertex keeps it.
use Rattle.std.proofs.Common.{◌≡◌, ◌≢◌, ◌&&◌, ℕ, ◌<◌, Bool, true, not, cond, eqb, Contains, refl, sym, ap, ◌∙◌, subst, inl, inr, []}
use Rattle.std.proofs.lemmas.Bool.{cases_eq, eqb-true, eq-eqb, ne_eqb, cond-true, cond-false, and_from, and_parts, and_right}
use Rattle.classes.specs.Classes.{label}
use Rattle.classes.proofs.Classes.{Together}
use Rattle.classes.proofs.Orbits.{orbits_of, orbits_of-step, IsPermuting, marks_back}
use Rattle.classes.proofs.Bound.{after, IsPermuting-pairing, IsPermuting-after}
use Rattle.map_lists.specs.Lists.{Lists}
use Rattle.map_theory.specs.Maps.{Dart, list_of, HasDart, IsSimpleMap, follows, dart_number, dart_count, face_step, IsPlane, entry_after}
use Rattle.map_theory.proofs.DartLemmas.{dart_number-lt, get_or-dart_number, HasDart-follows, Contains-entry_after, entry_after-injective}
use Rattle.map_theory.proofs.DartPermutations.{dart_of, dart_of-number, rotation, twin, IsPermuting-rotation, IsPairing-twin}
use Rattle.map_theory.proofs.ArcLemmas.{arc-first}
use Rattle.plane_laws.proofs.CornerSplit.{corner_split}
use Rattle.plane_laws.proofs.DartPaths.{dart_of-face_step, face_step_together, same_face}
use Rattle.plane_laws.specs.Kept.{IsKeptMap}
use Rattle.plane_peeling.proofs.Rings.{entries_closed}
use Rattle.plane_peeling.proofs.RestrictedMaps.{both, restricted-map, restricted-new}
use Rattle.embed_surgery.proofs.Marks.{face_orbits}
use Rattle.std.specs.Prelude.{List, ◌∷◌, ◌==◌, AllPairs}
use Rattle.map_theory.specs.Paths.{JoinsAvoiding, SameFace}
use Rattle.plane_peeling.specs.Restricted.{restricted}

-- no face passes v twice: no two of its darts are in one face
abbrev pub IsPassedOnce : Lists → ℕ → Type 0
IsPassedOnce lists v = (a b : ℕ) → HasDart lists v a → HasDart lists v b → SameFace lists (v, a) (v, b) → a ≡ b

-- all vertices but v
abbrev pub all_but : ℕ → ℕ → Bool
all_but v u = not (u == v)

-- the map without v, which stays as an isolated vertex
abbrev pub without_vertex : ℕ → Lists → Lists
without_vertex v lists = restricted (all_but v) lists

-- A ring: a list without repeats round which a face goes.
pub record IsRing (lists : Lists) (ws : List ℕ) : Type 0 where
  pub distinct : AllPairs ◌≢◌ ws
  pub darts : (x : ℕ) → Contains ws x → HasDart lists x (entry_after x ws)
  pub turns : (x : ℕ) → Contains ws x → follows lists (entry_after x ws) x ≡ entry_after (entry_after x ws) ws

-- the ring of the face of (u, v), with all of its darts
pub record IsRingOf (lists : Lists) (u v : ℕ) (ws : List ℕ) : Type 0 where
  pub ring : IsRing lists ws
  pub on : Contains ws u
  pub next : entry_after u ws ≡ v
  pub all : (x y : ℕ) → HasDart lists x y → SameFace lists (u, v) (x, y) → Contains ws x × (entry_after x ws ≡ y)

-- In a map of genus zero no face passes a vertex twice whose neighbours are joined by paths that avoid it.
pub passed_once : (lists : Lists) (v : ℕ) → IsSimpleMap lists → IsPlane lists → ((a b : ℕ) → HasDart lists v a → HasDart lists v b → a ≢ b → (path : List ℕ) × JoinsAvoiding lists (v ∷ []) a b path) → IsPassedOnce lists v
passed_once lists v simple plane paths a b has_a has_b face =
    elim (cases_eq a b) [
      | inl e ↦ e
      | inr ne ↦
          let us = list_of lists v in
          let distinct = simple.no_repeat v has_a.0 in
          let joined = paths a b has_a has_b ne in
          absurd (corner_split lists v a b simple plane has_a has_b ne face a b (arc-first us a distinct has_a.1 b ne has_b.1) (arc-first us b distinct has_b.1 a (λ e. ne (sym e)) has_a.1) joined.0 joined.1)
    ]

-- A mark that all steps within the orbit of x keep, but maybe that from x, is kept by that one too.
pub one_step_off : (f : ℕ → ℕ) (k : ℕ) → IsPermuting f k → (mark : ℕ → ℕ) (x : ℕ) → x < k → ((i : ℕ) → i < k → Together (orbits_of f k) x i → i ≢ x → mark (f i) ≡ mark i) → mark (f x) ≡ mark x
one_step_off f k w mark x l keeps =
    let O = orbits_of f k in
    let T : ℕ → Bool = λ i. eqb (label O x) (label O i) && eqb (mark i) (mark (f x)) in
    let step = orbits_of-step f k w.within in
    let stays : (i : ℕ) → i < k → T i ≡ true → T (f i) ≡ true = λ i m t.
    let parts = and_parts (eqb (label O x) (label O i)) (eqb (mark i) (mark (f x))) t in
    let near = eqb-true (label O x) (label O i) parts.0 in
    and_from (eqb (label O x) (label O (f i))) (eqb (mark (f i)) (mark (f x))) (eq-eqb (label O x) (label O (f i)) (near ∙ step i m))
    (eq-eqb (mark (f i)) (mark (f x)) (elim (cases_eq i x) [
      | inl e ↦ ap (λ y. mark (f y)) e
      | inr ne ↦ keeps i m near ne ∙ eqb-true (mark i) (mark (f x)) parts.1
    ])) in
    let first : T (f x) ≡ true = and_from (eqb (label O x) (label O (f x))) (eqb (mark (f x)) (mark (f x))) (eq-eqb (label O x) (label O (f x)) (step x l)) (eq-eqb (mark (f x)) (mark (f x)) refl) in
    sym (eqb-true (mark x) (mark (f x)) (and_parts (eqb (label O x) (label O x)) (eqb (mark x) (mark (f x))) (marks_back f k w T stays x l first)).1)

module _ (lists : Lists) (z : ℕ) (simple : IsSimpleMap lists) where
  abbrev pub rest : Lists
  rest = without_vertex z lists

  less : IsKeptMap lists rest (both (all_but z))
  less = restricted-map lists (all_but z) simple

  pub simple' : IsSimpleMap rest
  simple' = less.simple

  is_but : (u : ℕ) → u ≢ z → all_but z u ≡ true
  is_but u ne = ap not (ne_eqb u z ne)

  -- the darts that are left
  pub rest_dart : (u v : ℕ) → HasDart lists u v → u ≢ z → v ≢ z → HasDart rest u v
  rest_dart u v d n n' = restricted-new lists (all_but z) u v d (is_but u n) (is_but v n')

  -- what follows what, without z
  pub rest-same : (v u : ℕ) → HasDart rest v u → v ≢ z → follows lists v u ≢ z → follows rest v u ≡ follows lists v u
  rest-same v u d n n' = less.follows_same v u d (and_from (all_but z v) (all_but z (follows lists v u)) (is_but v n) (is_but (follows lists v u) n'))

  pub rest-skip : (v u : ℕ) → HasDart rest v u → v ≢ z → follows lists v u ≡ z → follows lists v z ≢ z → follows rest v u ≡ follows lists v z
  rest-skip v u d n e n' =
      less.follows_skip v u d (and_right (all_but z v) (all_but z (follows lists v u)) (ap not (eq-eqb (follows lists v u) z e)))
      (and_from (all_but z v) (all_but z (follows lists v (follows lists v u))) (is_but v n) (ap (λ w. all_but z (follows lists v w)) e ∙ is_but (follows lists v z) n'))
      ∙ ap (follows lists v) e

  -- the face of a dart that is left
  face_label : Dart → ℕ
  face_label d = label (face_orbits rest simple') (dart_number rest d)

  -- the face that a dart is drawn into: for a dart to z or from z, that of the dart that follows the one to z at its other end
  drawn_into : Dart → ℕ
  drawn_into d =
      cond (eqb d.1 z) (face_label (d.0, follows lists d.0 z)) (cond (eqb d.0 z) (face_label (d.1, follows lists d.1 z)) (face_label d))

  into_to : (u v : ℕ) → v ≡ z → drawn_into (u, v) ≡ face_label (u, follows lists u z)
  unfolding drawn_into
  into_to u v e = cond-true (eqb v z) (face_label (u, follows lists u z)) (cond (eqb u z) (face_label (v, follows lists v z)) (face_label (u, v))) (eq-eqb v z e)

  into_from : (u v : ℕ) → v ≢ z → u ≡ z → drawn_into (u, v) ≡ face_label (v, follows lists v z)
  unfolding drawn_into
  into_from u v n e =
      cond-false (eqb v z) (face_label (u, follows lists u z)) (cond (eqb u z) (face_label (v, follows lists v z)) (face_label (u, v))) (ne_eqb v z n)
      ∙ cond-true (eqb u z) (face_label (v, follows lists v z)) (face_label (u, v)) (eq-eqb u z e)

  into_left : (u v : ℕ) → v ≢ z → u ≢ z → drawn_into (u, v) ≡ face_label (u, v)
  unfolding drawn_into
  into_left u v n n' =
      cond-false (eqb v z) (face_label (u, follows lists u z)) (cond (eqb u z) (face_label (v, follows lists v z)) (face_label (u, v))) (ne_eqb v z n)
      ∙ cond-false (eqb u z) (face_label (v, follows lists v z)) (face_label (u, v)) (ne_eqb u z n')

  label_step : (u v : ℕ) → HasDart rest u v → face_label (v, follows rest v u) ≡ face_label (u, v)
  unfolding face_label
  label_step u v d = sym (face_step_together rest simple' (u, v) d)

  module _ (more : (p : ℕ) → HasDart lists z p → follows lists p z ≢ z) where
    -- a step that does not pass z keeps it
    kept_step : (u v : ℕ) → HasDart lists u v → v ≢ z → drawn_into (v, follows lists v u) ≡ drawn_into (u, v)
    kept_step u v d n =
        elim (cases_eq u z) [
          | inl e ↦
              let far : follows lists v u ≢ z = subst (λ x. follows lists v x ≢ z) (sym e) (more v (subst (λ x. HasDart lists x v) e d)) in
              into_left v (follows lists v u) far n ∙ (ap (λ x. face_label (v, follows lists v x)) e ∙ sym (into_from u v n e))
          | inr n' ↦
              let left = rest_dart u v d n' n in
              let back = simple'.both_ways u v left in
              let step = label_step u v left in
              elim (cases_eq (follows lists v u) z) [
                | inl e ↦
                    let to_v = simple.both_ways v z (subst (HasDart lists v) e (HasDart-follows lists v u (simple.both_ways u v d))) in
                    let skip = rest-skip v u back n e (more v to_v) in
                    into_to v (follows lists v u) e ∙ (ap (λ x. face_label (v, x)) (sym skip) ∙ (step ∙ sym (into_left u v n n')))
                | inr n'' ↦
                    into_left v (follows lists v u) n'' n ∙ (ap (λ x. face_label (v, x)) (sym (rest-same v u back n n'')) ∙ (step ∙ sym (into_left u v n n')))
              ]
        ]

    -- so does the step over z from a neighbour
    over_step : IsPassedOnce lists z → (p : ℕ) → HasDart lists z p → face_label (follows lists z p, follows lists (follows lists z p) z) ≡ face_label (p, follows lists p z)
    over_step once p has =
        let f = after (rotation lists) (twin lists) in
        let k = dart_count lists in
        let w = IsPermuting-after (rotation lists) (twin lists) k (IsPermuting-rotation lists simple) (IsPermuting-pairing (twin lists) k (IsPairing-twin lists simple)) in
        let to_z = simple.both_ways z p has in
        let x = dart_number lists (p, z) in
        let l = dart_number-lt lists p z to_z in
        let q = follows lists z p in
        let has_q = HasDart-follows lists z p has in
        let kept = one_step_off f k w (λ i. drawn_into (dart_of lists i)) x l (λ i m t ne.
        let d = dart_of lists i in
        let at = dart_of-number lists simple i m in
        let off : d.1 ≢ z = λ e.
        let in_z : HasDart lists d.0 z = subst (HasDart lists d.0) e at.is_dart in
        let from_z = simple.both_ways d.0 z in_z in
        let one = face_step_together lists simple (p, z) to_z in
        let two = face_step_together lists simple (d.0, z) in_z in
        let number : dart_number lists (d.0, z) ≡ i = ap (dart_number lists) (sym (ap (λ y. (d.0, y)) e)) ∙ at.number in
        let face = same_face lists simple (z, q) (z, follows lists z d.0) (sym one ∙ (t ∙ (ap (label (face_orbits lists simple)) (sym number) ∙ two))) in
        let nexts = once q (follows lists z d.0) has_q (HasDart-follows lists z d.0 from_z) face in
        let tails = entry_after-injective (list_of lists z) p d.0 (simple.no_repeat z has.0) has.1 from_z.1 nexts in
        ne (sym number ∙ ap (λ y. dart_number lists (y, z)) (sym tails)) in
        ap drawn_into (dart_of-face_step lists simple i m) ∙ kept_step d.0 d.1 at.is_dart off) in
        let here : dart_of lists x ≡ (p, z) = get_or-dart_number lists p z (0, 0) to_z in
        let next : dart_of lists (f x) ≡ (z, q) = dart_of-face_step lists simple x l ∙ ap (face_step lists) here in
        sym (into_from z q (simple.no_loop z q has_q) refl) ∙ (ap drawn_into (sym next) ∙ (kept ∙ (ap drawn_into here ∙ into_to p z refl)))

-- Let no face pass z twice, and each of its neighbours have another. Without z its neighbours stand in one face: so do the darts that followed those to z.
pub hole_of_vertex : (lists : Lists) (z : ℕ) → IsSimpleMap lists → IsPassedOnce lists z → ((p : ℕ) → HasDart lists z p → follows lists p z ≢ z) → (p q : ℕ) → HasDart lists z p → HasDart lists z q → SameFace (without_vertex z lists) (p, follows lists p z) (q, follows lists q z)
unfolding face_label
hole_of_vertex lists z simple once more p q has_p has_q =
    let us = list_of lists z in
    let at : ℕ → ℕ = λ y. face_label lists z simple (y, follows lists y z) in
    let all = entries_closed (λ y. Contains us y × (at y ≡ at p)) us p q (simple.no_repeat z has_p.0) has_p.1 (has_p.1, refl)
    (λ y c. (Contains-entry_after y us c.0, over_step lists z simple more once y (has_p.0, c.0) ∙ c.1)) has_q.1 in
    same_face (without_vertex z lists) (simple' lists z simple) (p, follows lists p z) (q, follows lists q z) (sym all.1)
