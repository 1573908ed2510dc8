-- The numberings of the faces of a map are those of its darts: there is just one, and its numbers are below the number of faces.
use Rattle.std.proofs.Common.{◌≡◌, ℕ, ◌<◌, List, get_or, sym, ap, ◌∙◌, subst, arith}
use Rattle.map_lists.specs.Lists.{Lists}
use Rattle.map_theory.specs.Maps.{Dart, HasDart, face_step, dart_number, dart_count}
use Rattle.map_theory.specs.Paths.{SameFace}
use Rattle.map_theory.proofs.DartLemmas.{get_or-dart_number, HasDart-face_step}
use Rattle.map_theory.proofs.DartPermutations.{dart_of, rotation, twin, dart_of-twin}
use Rattle.plane_laws.proofs.DartPaths.{twin-number, face_together, same_face, dart_of-face_step}
use Rattle.bipolar.proofs.Upward.{InFace, IsDual}
use Rattle.bipolar.proofs.Faces.{twin_in, step_in, step_face}
use Rattle.bipolar.proofs.RisingNumbers.{same_number}
use Rattle.bipolar.proofs.DualNumbering.{dual_numbers, unique, below_faces}
use Rattle.bipolar.specs.DualNumbers.{IsUpward, IsFaceNumbering}
use Rattle.bipolar.specs.Laws.{IsStMap, HasOneNumbering}
use Rattle.bipolar.proofs.Bipolar.{rank_of, dart_in, is_dart, number_back, head_of, faces_are, rank_at, rank_twin, bipolar}

module _ {lists : Lists} {s t : ℕ} {at rank : List ℕ} (x : IsStMap lists s t at rank) where
  abbrev k : ℕ
  k = dart_count lists

  abbrev f : ℕ → ℕ
  f = rotation lists

  abbrev g : ℕ → ℕ
  g = twin lists

  dart_back : (d : Dart) → HasDart lists d.0 d.1 → dart_of lists (dart_number lists d) ≡ d
  dart_back d has = get_or-dart_number lists d.0 d.1 (0, 0) has

  -- one face of darts is one of their numbers
  pub face_from : (i j : ℕ) → i < k → j < k → InFace k f g i j → SameFace lists (dart_of lists i) (dart_of lists j)
  face_from i j l m same =
      same_face lists x.simple (dart_of lists i) (dart_of lists j) (subst (λ a. InFace k f g a (dart_number lists (dart_of lists j))) (sym (number_back x i l)) (subst (InFace k f g i) (sym (number_back x j m)) same))

  pub face_to : (d e : Dart) → SameFace lists d e → InFace k f g (dart_number lists d) (dart_number lists e)
  face_to d e same = face_together lists x.simple d e same

  -- an edge upwards, by its number
  upward : (i : ℕ) → i < k → rank_of lists rank i < rank_of lists rank (g i) → IsUpward lists rank (dart_of lists i).0 (dart_of lists i).1
  upward i l u = (is_dart x i l, omega (arith, u, ap (λ v. get_or rank v 0) (head_of x i l)))

  upward_at : (u v : ℕ) → IsUpward lists rank u v → rank_of lists rank (dart_number lists (u, v)) < rank_of lists rank (g (dart_number lists (u, v)))
  upward_at u v up = omega (arith, rank_at x u v up.0, rank_twin x u v up.0, up.1)

  -- a numbering of the map numbers the darts
  pub IsDual-from : (number : Dart → ℕ) → IsFaceNumbering lists rank s t number → IsDual k f g (rank_of lists rank) (dart_number lists (s, t)) (λ i. number (dart_of lists i))
  IsDual-from number w =
      let b = bipolar x in
      let base = dart_number lists (s, t) in
      record {
        rising = record {
          faces = λ i l.
              let has = is_dart x i l in
              let step = dart_of-face_step lists x.simple i l in
              let same : SameFace lists (dart_of lists i) (face_step lists (dart_of lists i)) =
              subst (SameFace lists (dart_of lists i)) step (face_from i (f (g i)) l (step_in b i l) (Faces_step i l)) in
              ap number step ∙ sym (w.of_faces (dart_of lists i) (face_step lists (dart_of lists i)) has (HasDart-face_step lists (dart_of lists i) x.simple has) same);
          first = ap number (dart_back (s, t) x.dart) ∙ w.first;
          rises = λ i l u off.
              let d = dart_of lists i in
              let turned = dart_of-twin lists x.simple i l in
              let more = w.greatest d.0 d.1 (upward i l u) (λ same. off (subst (λ a. InFace k f g base a) (ap (dart_number lists) (sym turned) ∙ number_back x (g i) (twin_in b i l)) (face_to (s, t) (d.1, d.0) same))) in
              omega (arith, more, ap number turned);
        };
        reached = λ i l off.
            let d = dart_of lists i in
            let found = w.reached d (is_dart x i l) (λ same. off (subst (InFace k f g base) (number_back x i l) (face_to (s, t) d same))) in
            let u = found.0 in
            let v = found.1 in
            let e = dart_number lists (u, v) in
            let back = dart_back (u, v) found.2.0 in (
              e,
              dart_in x u v found.2.0,
              upward_at u v found.2,
              subst (λ a. InFace k f g a (g e)) (number_back x i l) (subst (InFace k f g (dart_number lists d)) (sym (twin-number lists u v found.2.0)) (face_to d (v, u) found.3)),
              omega (arith, found.4, ap number back),
            );
      }
    where
      Faces_step : (i : ℕ) → i < k → InFace k f g i (f (g i))
      Faces_step i l = step_face (bipolar x) i l

  -- and the other way about
  pub numbering_from : (n : ℕ → ℕ) → IsDual k f g (rank_of lists rank) (dart_number lists (s, t)) n → IsFaceNumbering lists rank s t (λ d. n (dart_number lists d))
  numbering_from n w =
      let b = bipolar x in
      record {
        of_faces = λ d e has has' same. same_number b n w.rising (dart_number lists d) (dart_number lists e) (dart_in x d.0 d.1 has) (dart_in x e.0 e.1 has') (face_to d e same);
        first = w.rising.first;
        greatest = λ u v up off.
            let i = dart_number lists (u, v) in
            let twin_is = twin-number lists u v up.0 in
            let more = w.rising.rises i (dart_in x u v up.0) (upward_at u v up) (λ same. off (same_face lists x.simple (s, t) (v, u) (subst (InFace k f g (dart_number lists (s, t))) twin_is same))) in
            omega (arith, more, ap n twin_is);
        reached = λ d has off.
            let i = dart_number lists d in
            let found = w.reached i (dart_in x d.0 d.1 has) (λ same. off (same_face lists x.simple (s, t) d same)) in
            let c = dart_of lists found.0 in
            let number = number_back x found.0 found.1 in
            let turned : dart_number lists (c.1, c.0) ≡ g found.0 = sym (twin-number lists c.0 c.1 (is_dart x found.0 found.1)) ∙ ap g number in (
              c.0,
              c.1,
              upward found.0 found.1 found.2,
              same_face lists x.simple d (c.1, c.0) (subst (InFace k f g i) (sym turned) found.3),
              omega (arith, found.4, ap n number),
            );
      }

  pub one_numbering : HasOneNumbering lists rank s t
  one_numbering =
      let b = bipolar x in
      record {
        some = let found = dual_numbers b in ((λ d. found.0 (dart_number lists d)), numbering_from found.0 found.1);
        one = λ a c wa wc d has.
            let same = unique b (λ i. a (dart_of lists i)) (λ i. c (dart_of lists i)) (IsDual-from a wa) (IsDual-from c wc) (dart_number lists d) (dart_in x d.0 d.1 has) in
            sym (ap a (dart_back d has)) ∙ (same ∙ ap c (dart_back d has));
        below = λ a wa d has.
            let less = below_faces b (λ i. a (dart_of lists i)) (IsDual-from a wa) (dart_number lists d) (dart_in x d.0 d.1 has) in
            omega (arith, less, ap a (dart_back d has), faces_are x);
      }
