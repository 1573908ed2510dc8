-- The walk of a face has just the darts of one class.
use Rattle.std.proofs.Common.{◌≡◌, ℕ, zero, suc, ◌+◌, ◌<◌, Bool, true, List, length, get_or, Contains, refl, sym, ap, subst, ◌∙◌, inl, inr, arith, ◌==◌}
use Rattle.std.specs.List.{list_any}
use Rattle.std.proofs.lemmas.Bool.{cases_lt}
use Rattle.std.proofs.lemmas.List.{get_or_default, get_or_past}
use Rattle.std.proofs.lemmas.List.Elements.{Contains-get_or}
use Rattle.classes.specs.Classes.{image}
use Rattle.classes.proofs.Classes.{Together}
use Rattle.classes.proofs.Orbits.{orbits-step, orbits-closed_marks}
use Rattle.map_theory.specs.Maps.{dart_count, face_images, face_classes}
use Rattle.map_theory.proofs.DartLemmas.{length-face_images, IsPermutationOfBelow-face_images}
use Rattle.map_theory.proofs.EntryLemmas.{Contains-from_list_any, list_any-from_Contains}
use Rattle.half_edges.specs.Map.{Map, IsHalfMap, IsLive, dart_at}
use Rattle.euler_faces.specs.Numbers.{number_at, id_of}
use Rattle.euler_faces.specs.FaceWalks.{first_number, IsFaceWalk}
use Rattle.euler_faces.proofs.NumberLemmas.{some_of, number_at-is, id_of-number, id_of-is, dart_of_number, number_at-lt, face_step-live, face_step-number}

module _ (map : Map) (h : IsHalfMap map) where
  -- the id of a live id's number is that id
  id_of-live : (d : ℕ) → IsLive map d → id_of map (number_at map d) ≡ d
  id_of-live d live =
      let x = some_of (dart_at map d) live in
      ap (id_of map) (number_at-is map d x.0.0 x.0.1 x.1) ∙ id_of-number map h d x.0.0 x.0.1 x.1

  -- the number of a number's id is that number
  number_of-id : (i : ℕ) → i < dart_count map.lists → number_at map (id_of map i) ≡ i
  number_of-id i l =
      number_at-is map (id_of map i) _ _ (id_of-is map h i l) ∙ (dart_of_number map h i l).number

  in_images : (d : ℕ) → IsLive map d → number_at map d < length (face_images map.lists)
  in_images d live = let n = length-face_images map.lists in let l = number_at-lt map h d live in omega arith

  module _ (walk : List ℕ) (w : IsFaceWalk map walk) where
    -- where the walk goes after place i
    abbrev after_place : ℕ → ℕ
    after_place i = get_or walk (i + 1) (get_or walk 0 0)

    after_in : (i : ℕ) → i < length walk → Contains walk (after_place i)
    after_in i l =
        elim (cases_lt (i + 1) (length walk)) [
          | inl m ↦ Contains-get_or walk (i + 1) (get_or walk 0 0) m
          | inr m ↦ subst (λ (d : ℕ). Contains walk d) (sym (get_or_past walk (i + 1) (get_or walk 0 0) m)) (Contains-get_or walk 0 0 w.some)
        ]

    after_number : (i : ℕ) → i < length walk → number_at map (after_place i) ≡ image (face_images map.lists) (number_at map (get_or walk i 0))
    after_number i l = face_step-number map h (get_or walk i 0) (after_place i) (w.live i l) (w.steps i l)

    after_live : (i : ℕ) → i < length walk → IsLive map (after_place i)
    after_live i l = face_step-live map h (get_or walk i 0) (after_place i) (w.live i l) (w.steps i l)

    -- each dart of the walk is in the class of the first
    at_place : (i : ℕ) → i < length walk → Together (face_classes map.lists) (first_number map walk) (number_at map (get_or walk i 0))
    at_place zero l = refl
    at_place (suc i) l =
        let images = face_images map.lists in
        let live = w.live i (omega arith) in
        let step = orbits-step images (IsPermutationOfBelow-face_images map.lists h.simple).within (number_at map (get_or walk i 0)) (in_images (get_or walk i 0) live) in
        let next : number_at map (get_or walk (suc i) 0) ≡ image images (number_at map (get_or walk i 0)) =
        ap (number_at map) (get_or_default walk (suc i) 0 (get_or walk 0 0) l ∙ ap (λ (k : ℕ). get_or walk k (get_or walk 0 0)) (omega arith)) ∙ after_number i (omega arith) in
        at_place i (omega arith) ∙ subst (λ (x : ℕ). Together (face_classes map.lists) (number_at map (get_or walk i 0)) x) (sym next) step

    pub in_class : (d : ℕ) → Contains walk d → Together (face_classes map.lists) (first_number map walk) (number_at map d)
    in_class d c = subst (λ (x : ℕ). Together (face_classes map.lists) (first_number map walk) (number_at map x)) (get_or_default walk c.0 0 d c.1 ∙ c.2) (at_place c.0 c.1)

    abbrev mark : ℕ → Bool
    mark i = list_any (λ (x : ℕ). x == id_of map i) walk

    marked : (d : ℕ) → IsLive map d → Contains walk d → mark (number_at map d) ≡ true
    marked d live c = list_any-from_Contains (id_of map (number_at map d)) walk (subst (λ (x : ℕ). Contains walk x) (sym (id_of-live d live)) c)

    -- the walk goes on from each number whose id stands in it
    closed : (i : ℕ) → i < length (face_images map.lists) → mark i ≡ true → mark (image (face_images map.lists) i) ≡ true
    closed i l m =
        let n = length-face_images map.lists in
        let c = Contains-from_list_any (id_of map i) walk m in
        let here : number_at map (get_or walk c.0 0) ≡ i = ap (number_at map) (get_or_default walk c.0 0 (id_of map i) c.1 ∙ c.2) ∙ number_of-id i (omega arith) in
        subst (λ (x : ℕ). mark x ≡ true) (after_number c.0 c.1 ∙ ap (image (face_images map.lists)) here) (marked (after_place c.0) (after_live c.0 c.1) (after_in c.0 c.1))

    -- and a dart in the class of the first is in the walk
    pub in_walk : (d : ℕ) → IsLive map d → Together (face_classes map.lists) (first_number map walk) (number_at map d) → Contains walk d
    in_walk d live together =
        let first = get_or walk 0 0 in
        let live' = w.live 0 w.some in
        let same = orbits-closed_marks (face_images map.lists) (IsPermutationOfBelow-face_images map.lists h.simple) mark closed (first_number map walk) (number_at map d) (in_images first live') (in_images d live) together in
        subst (λ (x : ℕ). Contains walk x) (id_of-live d live) (Contains-from_list_any (id_of map (number_at map d)) walk (sym same ∙ marked first live' (Contains-get_or walk 0 0 w.some)))
