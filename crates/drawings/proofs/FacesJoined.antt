-- Where an edge is taken away from between two faces, the area of the joined face is the sum of the two, and the other areas stay.
use Rattle.std.proofs.Common.{◌≡◌, ℕ, Bool, cond, List, ℤ, pos, ◌+ℤ◌, refl, sym, ◌∙◌, inl, inr, ⊎_elim, arith}
use Rattle.std.proofs.lemmas.Bool.{cases_Bool, cond-true, cond-false, false_from_ne_true, true≢false}
use Rattle.std.proofs.lemmas.Int.{ints}
use Rattle.classes.specs.Classes.{same_class}
use Rattle.classes.proofs.Classes.{Together-from, same_class-from}
use Rattle.map_lists.specs.Lists.{Lists}
use Rattle.map_theory.specs.Maps.{Dart, HasDart, IsSimpleMap, darts, dart_number, face_classes}
use Rattle.map_theory.specs.Paths.{SameFace}
use Rattle.plane_laws.specs.Laws.{IsMergedFaces}
use Rattle.pg_plane.specs.declared.grid_points.Point.{Point}
use Rattle.drawings.specs.OuterFaces.{swept, face_sum, AreOthersPositive}
use Rattle.drawings.proofs.DartTotals.{total, sum_over-total, total-add, total-darts}

-- whether two darts are in one face
abbrev pub same_face : Lists → Dart → Dart → Bool
same_face lists d e = same_class (face_classes lists) (dart_number lists d) (dart_number lists e)

pub SameFace-turned : (lists : Lists) (d e : Dart) → SameFace lists d e → SameFace lists e d
SameFace-turned lists d e s =
    same_class-from (face_classes lists) (dart_number lists e) (dart_number lists d) (sym (Together-from (face_classes lists) (dart_number lists d) (dart_number lists e) s))

pub SameFace-chained : (lists : Lists) (d e f : Dart) → SameFace lists d e → SameFace lists e f → SameFace lists d f
SameFace-chained lists d e f s t =
    same_class-from (face_classes lists) (dart_number lists d) (dart_number lists f)
    (Together-from (face_classes lists) (dart_number lists d) (dart_number lists e) s ∙ Together-from (face_classes lists) (dart_number lists e) (dart_number lists f) t)

-- what a dart weighs in the face of d
abbrev pub weight : Lists → List Point → Dart → Dart → ℤ
weight lists points d e = cond (same_face lists d e) (swept points e) (pos 0)

pub face_sum-total : (lists : Lists) (points : List Point) (d : Dart) → face_sum lists points d ≡ total (weight lists points d) (darts lists)
unfolding face_sum
face_sum-total lists points d = sum_over-total (same_face lists d) (swept points) (darts lists)

pub weight-on : (lists : Lists) (points : List Point) (d e : Dart) → SameFace lists d e → weight lists points d e ≡ swept points e
weight-on lists points d e s = cond-true (same_face lists d e) (swept points e) (pos 0) s

pub weight-off : (lists : Lists) (points : List Point) (d e : Dart) → ¬ SameFace lists d e → weight lists points d e ≡ pos 0
weight-off lists points d e n = cond-false (same_face lists d e) (swept points e) (pos 0) (false_from_ne_true (same_face lists d e) n)

-- merged faces, with the two exchanged
pub IsMergedFaces-turned : (lists rest : Lists) (a b : Dart) → IsMergedFaces lists rest a b → IsMergedFaces lists rest b a
IsMergedFaces-turned lists rest a b m = grind (arith, SameFace-turned)

module _ (lists rest : Lists) (points : List Point) (simple' : IsSimpleMap rest) (a b : Dart) (m : IsMergedFaces lists rest a b) (split : (w : Dart → ℤ) → total w (darts lists) ≡ (total w (darts rest) +ℤ w a) +ℤ w b) (opposite : swept points a +ℤ swept points b ≡ pos 0) where
  not_back : ¬ SameFace lists b a
  not_back s = m.apart (SameFace-turned lists b a s)

  -- the joined face
  module _ (d : Dart) (has : HasDart rest d.0 d.1) (at : SameFace lists d a) where
    joined_weight : (v u : ℕ) → HasDart rest v u → weight rest points d (v, u) ≡ weight lists points a (v, u) +ℤ weight lists points b (v, u)
    joined_weight v u has' =
        let e : Dart = (v, u) in
        elim (cases_Bool (same_face lists a e)) [
          | inl on ↦
              let three = weight-off lists points b e (λ s. m.apart (SameFace-chained lists a e b on (SameFace-turned lists b e s))) in
              omega (arith, weight-on lists points a e on, weight-on rest points d e (m.kept d e has has' (SameFace-chained lists d a e at on)), ints)
          | inr off ↦
              let two = weight-off lists points a e (λ s. true≢false (sym s ∙ off)) in
              elim (cases_Bool (same_face lists b e)) [
                | inl on ↦
                    omega (arith, weight-on lists points b e on, weight-on rest points d e (m.made_one d e has has' at on), ints)
                | inr off' ↦
                    let one = weight-off rest points d e (λ s.
                    ⊎_elim (λ k. true≢false (sym (SameFace-chained lists a d e (SameFace-turned lists d a at) k) ∙ off))
                    (λ k. ⊎_elim (λ x. true≢false (sym x.1 ∙ off')) (λ x. true≢false (sym x.1 ∙ off)) k) (m.no_more d e has has' s)) in
                    omega (arith, weight-off lists points b e (λ s. true≢false (sym s ∙ off')), ints)
              ]
        ]

    pub joined_sum : face_sum rest points d ≡ face_sum lists points a +ℤ face_sum lists points b
    joined_sum =
        let three = face_sum-total lists points b in
        let parts = total-darts rest simple' (weight rest points d) (λ (e : Dart). weight lists points a e +ℤ weight lists points b e) joined_weight in
        let add = total-add (weight lists points a) (weight lists points b) (darts rest) in
        let first = split (weight lists points a) in
        let second = split (weight lists points b) in
        let aa = weight-on lists points a a (same_class-from (face_classes lists) (dart_number lists a) (dart_number lists a) refl) in
        let ab = weight-off lists points a b m.apart in
        let ba = weight-off lists points b a not_back in
        let bb = weight-on lists points b b (same_class-from (face_classes lists) (dart_number lists b) (dart_number lists b) refl) in
        omega (arith, face_sum-total lists points a, face_sum-total rest points d, ints)

  -- any other face
  module _ (d : Dart) (has : HasDart rest d.0 d.1) (off_a : ¬ SameFace lists d a) (off_b : ¬ SameFace lists d b) where
    other_weight : (v u : ℕ) → HasDart rest v u → weight rest points d (v, u) ≡ weight lists points d (v, u)
    other_weight v u has' =
        let e : Dart = (v, u) in
        elim (cases_Bool (same_face lists d e)) [
          | inl on ↦ weight-on rest points d e (m.kept d e has has' on) ∙ sym (weight-on lists points d e on)
          | inr off ↦
              weight-off rest points d e (λ s. ⊎_elim (λ k. true≢false (sym k ∙ off)) (λ k. ⊎_elim (λ x. off_a x.0) (λ x. off_b x.0) k) (m.no_more d e has has' s))
              ∙ sym (weight-off lists points d e (λ s. true≢false (sym s ∙ off)))
        ]

    pub other_sum : face_sum rest points d ≡ face_sum lists points d
    other_sum =
        let same = total-darts rest simple' (weight rest points d) (weight lists points d) other_weight in
        let all = split (weight lists points d) in
        let da = weight-off lists points d a off_a in
        let db = weight-off lists points d b off_b in
        omega (arith, face_sum-total lists points d, face_sum-total rest points d, ints)

-- where each face but the base's has a positive area, it is so without the edge
pub AreOthersPositive-joined : (lists rest : Lists) (points : List Point) (base : Dart) → IsSimpleMap rest → (a b : Dart) → HasDart lists a.0 a.1 → HasDart lists b.0 b.1 → IsMergedFaces lists rest a b → ((w : Dart → ℤ) → total w (darts lists) ≡ (total w (darts rest) +ℤ w a) +ℤ w b) → swept points a +ℤ swept points b ≡ pos 0 → ((v u : ℕ) → HasDart rest v u → HasDart lists v u) → HasDart rest base.0 base.1 → AreOthersPositive lists points base → AreOthersPositive rest points base
AreOthersPositive-joined lists rest points base simple' a b has_a has_b m split opposite old has outer v u has_d off =
    let d : Dart = (v, u) in
    let off' : ¬ SameFace lists base d = λ s. off (m.kept base d has has_d s) in
    elim (cases_Bool (same_face lists d a)) [
      | inl on ↦
          let two = outer b.0 b.1 has_b (λ s. off (SameFace-turned rest d base (m.made_one d base has_d has on (SameFace-turned lists base b s)))) in
          let sum = joined_sum lists rest points simple' a b m split opposite d has_d on in
          omega (arith, outer a.0 a.1 has_a (λ s. off' (SameFace-chained lists base a d s (SameFace-turned lists d a on))), ints)
      | inr no_a ↦
          elim (cases_Bool (same_face lists d b)) [
            | inl on ↦
                let m' = IsMergedFaces-turned lists rest a b m in
                let one = outer b.0 b.1 has_b (λ s. off' (SameFace-chained lists base b d s (SameFace-turned lists d b on))) in
                let two = outer a.0 a.1 has_a (λ s. off (SameFace-turned rest d base (m'.made_one d base has_d has on (SameFace-turned lists base a s)))) in
                let split' : (w : Dart → ℤ) → total w (darts lists) ≡ (total w (darts rest) +ℤ w b) +ℤ w a = λ w. let e = split w in omega (arith, ints) in
                let opposite' : swept points b +ℤ swept points a ≡ pos 0 = omega (arith, ints) in
                omega (arith, joined_sum lists rest points simple' b a m' split' opposite' d has_d on, ints)
            | inr no_b ↦
                let sum = other_sum lists rest points simple' a b m split opposite d has_d (λ s. true≢false (sym s ∙ no_a)) (λ s. true≢false (sym s ∙ no_b)) in
                omega (arith, outer v u (old v u has_d) off', ints)
          ]
    ]
