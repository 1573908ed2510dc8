-- The faces that the search meets with an odd number are those inside.
use Rattle.std.proofs.Common.{◌≡◌, ◌≢◌, ◌⊎◌, ℕ, suc, ◌+◌, ◌*◌, ◌<◌, ◌≤◌, Bool, true, not, ◌&&◌, eqb, List, length, get_or, Some, refl, sym, ap, ◌∙◌, subst, inl, inr, arith, true≢false}
use Rattle.std.proofs.lemmas.Bool.{cases_Bool, cases_lt, eq-eqb, ne_eqb, eqb-true, and_from, and_parts, false_from_ne_true}
use Rattle.std.proofs.lemmas.List.Elements.{Contains-get_or}
use Rattle.classes.specs.Classes.{count_below, label, same_class}
use Rattle.classes.proofs.Counting.{count_below_into}
use Rattle.classes.proofs.Classes.{Together, IsLabels, label-lt}
use Rattle.classes.proofs.Orbits.{length-orbits, IsLabels-orbits}
use Rattle.map_lists.specs.Lists.{Lists}
use Rattle.map_theory.specs.Maps.{Dart, HasDart, IsPlane, component_count, dart_count, dart_number, face_images, face_classes}
use Rattle.map_theory.proofs.DartLemmas.{dart_number-lt, length-face_images, IsPermutationOfBelow-face_images}
use Rattle.half_edges.specs.Map.{Map, IsHalfMap, dart_at}
use Rattle.map_theory.proofs.DartPermutations.{dart_of, dart_of-number}
use Rattle.euler_faces.specs.Numbers.{mark_at, id_of}
use Rattle.euler_faces.specs.Chains.{along, Reaches}
use Rattle.euler_faces.specs.ChainSearch.{place, AreReached}
use Rattle.euler_faces.specs.FaceWalks.{walk_at, first_number, AreFaces}
use Rattle.euler_faces.proofs.NumberLemmas.{number_at-is, id_of-number}
use Rattle.euler_faces.proofs.WalkFaces.{in_class, in_walk}
use Rattle.euler_faces.proofs.SideMarks.{some_dart}
use Rattle.convex_peeling.specs.Contours.{face_of}
use Rattle.convex_peeling.proofs.Faces.{along_face}
use Rattle.convex_orders.specs.FaceNumbers.{InWalk}
use Rattle.convex_orders.proofs.FaceNumbersRows.{live_at}
use Rattle.convex_laws.specs.Walks.{IsWalk, is_odd_on}
use Rattle.convex_laws.specs.ClosedWalksLaws.{HasSide}
use Rattle.convex_laws.proofs.Sides.{sides_are_known}
use Rattle.convex_laws.specs.Inside.{is_other_face, IsInsideCount}
use Rattle.convex_faces.specs.Search.{is_counted}

not-eqb : (a b : ℕ) → not (eqb a b) ≡ true → a ≢ b
not-eqb a b e q = true≢false (sym e ∙ ap not (eq-eqb a b q))

eqb-not : (a b : ℕ) → a ≢ b → not (eqb a b) ≡ true
eqb-not a b ne = ap not (ne_eqb a b ne)

module _ (map : Map) (h : IsHalfMap map) (walks : List (List ℕ)) (faces : AreFaces map walks) where
  abbrev lists : Lists
  lists = map.lists

  abbrev C : List ℕ
  C = face_classes lists

  -- ---- the walks are the faces
  in_first : (f u v : ℕ) (x : InWalk map walks f u v) → Together C (first_number map (walk_at walks f)) (dart_number lists (u, v))
  in_first f u v x =
      subst (Together C (first_number map (walk_at walks f))) (number_at-is map x.1.0 u v x.1.2) (in_class map h (walk_at walks f) (faces.each f x.0) x.1.0 x.1.1)

  walk_face : (f u v a b : ℕ) → InWalk map walks f u v → InWalk map walks f a b → face_of lists u v ≡ face_of lists a b
  walk_face f u v a b x y = sym (in_first f u v x) ∙ in_first f a b y

  one_walk : (f g u v a b : ℕ) → InWalk map walks f u v → InWalk map walks g a b → face_of lists u v ≡ face_of lists a b → f ≡ g
  one_walk f g u v a b x y same =
      let d = y.1.0 in
      let together = in_first f u v x ∙ same in
      let there = subst (Together C (first_number map (walk_at walks f))) (sym (number_at-is map d a b y.1.2)) together in
      faces.apart f g d x.0 y.0 (in_walk map h (walk_at walks f) (faces.each f x.0) d (live_at (dart_at map d) a b y.1.2) there) y.1.1

  some_walk : (u v : ℕ) → HasDart lists u v → (f : ℕ) × InWalk map walks f u v
  some_walk u v has =
      let d = h.has_id u v has in
      let f = faces.all d.0 (live_at (dart_at map d.0) u v d.1) in
      (f.0, (f.1, (d.0, f.2, d.1)))

  -- the first dart of a walk
  record IsFirst (f u v : ℕ) : Type 0 where
    pub stands : InWalk map walks f u v
    pub at : dart_at map (get_or (walk_at walks f) 0 0) ≡ Some (u, v)

  first_of_walk : (f : ℕ) → f < length walks → (u : ℕ) × (v : ℕ) × IsFirst f u v
  first_of_walk f l =
      let d = get_or (walk_at walks f) 0 0 in
      let walk = faces.each f l in
      let x = some_dart (dart_at map d) (walk.live 0 walk.some) in
      (x.0, x.1, record { stands = (l, (d, Contains-get_or (walk_at walks f) 0 0 walk.some, x.2)); at = x.2 })

  walk_dart : (f u v : ℕ) → InWalk map walks f u v → HasDart lists u v
  walk_dart f u v x = h.is_dart x.1.0 u v x.1.2

  -- the walk of a dart's number
  walk_of : (i : ℕ) → (i < dart_count lists) ⊎ (dart_count lists ≤ i) → ℕ
  walk_of i (inl l) = (some_walk (dart_of lists i).0 (dart_of lists i).1 (dart_of-number lists h.simple i l).is_dart).0
  walk_of i (inr l) = 0

  walk_of-in : (i : ℕ) (s : (i < dart_count lists) ⊎ (dart_count lists ≤ i)) → i < dart_count lists → InWalk map walks (walk_of i s) (dart_of lists i).0 (dart_of lists i).1
  unfolding walk_of
  walk_of-in i (inl l) m = (some_walk (dart_of lists i).0 (dart_of lists i).1 (dart_of-number lists h.simple i l).is_dart).1
  walk_of-in i (inr l) m = absurd (omega arith)

  C_labels : IsLabels C
  C_labels = IsLabels-orbits (face_images lists) (IsPermutationOfBelow-face_images lists h.simple).within

  C_length : length C ≡ dart_count lists
  C_length = length-orbits (face_images lists) ∙ length-face_images lists

  module _ (plane : IsPlane lists) (one : component_count lists ≡ 1) (base : Dart) (v : ℕ) (walk : List Dart) (has_base : HasDart lists base.0 base.1) (closed : IsWalk lists v v walk) (met : List Bool) (reached : AreReached map base (is_odd_on walk) met) where
    abbrev inside : ℕ → Bool
    inside i = mark_at met (place (id_of map i) true)

    -- the mark of a dart's id is the answer for its number
    inside-id : (d x y : ℕ) → dart_at map d ≡ Some (x, y) → inside (dart_number lists (x, y)) ≡ mark_at met (place d true)
    inside-id d x y e = ap (λ d. mark_at met (place d true)) (id_of-number map h d x y e)

    side_is : (x y : ℕ) → HasDart lists x y → HasSide lists (is_odd_on walk) base x y (inside (dart_number lists (x, y)))
    side_is x y has =
        let s = sides_are_known lists base v walk x y h.simple plane one has_base closed has in
        let id = h.has_id x y has in
        let at = inside-id id.0 x y id.1 in
        let r = reached id.0 true x y id.1 in
        let same : inside (dart_number lists (x, y)) ≡ s.0 = elim (cases_Bool s.0) [
          | inl e ↦ at ∙ (r.1 (subst (Reaches lists (is_odd_on walk) base x y) e s.1.some) ∙ sym e)
          | inr e ↦ false_from_ne_true (inside (dart_number lists (x, y))) (λ t. true≢false (s.1.only true (r.0 (sym at ∙ t)) ∙ e)) ∙ sym e
        ] in
        subst (HasSide lists (is_odd_on walk) base x y) (sym same) s.1

    -- it is one along a face
    inside_along : (x y a b : ℕ) → HasDart lists x y → HasDart lists a b → face_of lists x y ≡ face_of lists a b → inside (dart_number lists (x, y)) ≡ true → inside (dart_number lists (a, b)) ≡ true
    inside_along x y a b has has' e t =
        let start = subst (Reaches lists (is_odd_on walk) base x y) t (side_is x y has).some in
        let end = along_face lists h.simple (λ p q. Reaches lists (is_odd_on walk) base p q true) (λ p q on r. (suc r.0, (p, q, true, r.1, along refl refl refl))) x y a b has has' e start in
        sym ((side_is a b has').only true end)

    module _ (outer : ℕ) (outer_in : InWalk map walks outer base.0 base.1) where
      abbrev P : ℕ → Bool
      P i = is_other_face lists base i && inside i

      abbrev Q : ℕ → Bool
      Q f = is_counted walks met outer f

      -- the least number of the face of a walk
      to_face : ℕ → ℕ
      to_face f = label C (first_number map (walk_at walks f))

      to_face-is : (f u w : ℕ) → IsFirst f u w → to_face f ≡ face_of lists u w
      unfolding to_face
      to_face-is f u w x = ap (label C) (number_at-is map (get_or (walk_at walks f) 0 0) u w x.at)

      fewer_walks : count_below Q (length walks) ≤ count_below P (dart_count lists)
      fewer_walks =
          count_below_into to_face Q P (length walks) (dart_count lists)
          (λ f l q.
          let x = first_of_walk f l in
          let u = x.0 in
          let w = x.1 in
          let has = walk_dart f u w x.2.stands in
          let is = to_face-is f u w x.2 in
          let n = dart_number lists (u, w) in
          let m = to_face f in
          let size = C_length in
          let within : m < dart_count lists = let low = label-lt C C_labels n (let k = dart_number-lt lists u w has in omega arith) in omega arith in
          let own : label C m ≡ m = ap (label C) is ∙ (C_labels.own n ∙ sym is) in
          let parts = and_parts (not (eqb f outer)) (mark_at met (2 * get_or (walk_at walks f) 0 0 + 1)) q in
          let other : label C (dart_number lists base) ≢ label C m = λ e. not-eqb f outer parts.0 (sym (one_walk outer f base.0 base.1 u w outer_in x.2.stands (e ∙ (own ∙ is)))) in
          let d = dart_of-number lists h.simple m within in
          let on : inside m ≡ true = ap inside (sym d.number) ∙ inside_along u w (dart_of lists m).0 (dart_of lists m).1 has d.is_dart (sym is ∙ (sym own ∙ ap (label C) (sym d.number))) (inside-id (get_or (walk_at walks f) 0 0) u w x.2.at ∙ parts.1) in (
            within,
            and_from (is_other_face lists base m) (inside m)
                (and_from (eqb (label C m) m) (not (same_class C (dart_number lists base) m)) (eq-eqb (label C m) m own) (eqb-not (label C (dart_number lists base)) (label C m) other))
                on,
          ))
          (λ f g l k q r e.
          let x = first_of_walk f l in
          let y = first_of_walk g k in
          one_walk f g x.0 x.1 y.0 y.1 x.2.stands y.2.stands (sym (to_face-is f x.0 x.1 x.2) ∙ (e ∙ to_face-is g y.0 y.1 y.2)))

      fewer_faces : count_below P (dart_count lists) ≤ count_below Q (length walks)
      fewer_faces =
          let to : ℕ → ℕ = λ i. walk_of i (cases_lt i (dart_count lists)) in
          let at : (i : ℕ) → i < dart_count lists → InWalk map walks (to i) (dart_of lists i).0 (dart_of lists i).1 = λ i l. walk_of-in i (cases_lt i (dart_count lists)) l in
          let face : (i : ℕ) → i < dart_count lists → face_of lists (dart_of lists i).0 (dart_of lists i).1 ≡ label C i = λ i l. ap (label C) (dart_of-number lists h.simple i l).number in
          count_below_into to P Q (dart_count lists) (length walks)
          (λ i l p.
          let a = (dart_of lists i).0 in
          let b = (dart_of lists i).1 in
          let d = dart_of-number lists h.simple i l in
          let stands = at i l in
          let f = to i in
          let x = first_of_walk f stands.0 in
          let parts = and_parts (is_other_face lists base i) (inside i) p in
          let others = and_parts (eqb (label C i) i) (not (same_class C (dart_number lists base) i)) parts.0 in
          let other : f ≢ outer = λ e. not-eqb (label C (dart_number lists base)) (label C i) others.1 (walk_face outer base.0 base.1 a b outer_in (subst (λ f. InWalk map walks f a b) e stands) ∙ face i l) in
          let on = inside_along a b x.0 x.1 d.is_dart (walk_dart f x.0 x.1 x.2.stands) (walk_face f a b x.0 x.1 stands x.2.stands) (ap inside d.number ∙ parts.1) in (
            stands.0,
            and_from (not (eqb f outer)) (mark_at met (2 * get_or (walk_at walks f) 0 0 + 1)) (eqb-not f outer other) (sym (inside-id (get_or (walk_at walks f) 0 0) x.0 x.1 x.2.at) ∙ on),
          ))
          (λ i j l k p q e.
          let own : (i : ℕ) → P i ≡ true → label C i ≡ i = λ i p. eqb-true (label C i) i (and_parts (eqb (label C i) i) (not (same_class C (dart_number lists base) i)) (and_parts (is_other_face lists base i) (inside i) p).0).0 in
          let same = walk_face (to i) (dart_of lists i).0 (dart_of lists i).1 (dart_of lists j).0 (dart_of lists j).1 (at i l) (subst (λ f. InWalk map walks f (dart_of lists j).0 (dart_of lists j).1) (sym e) (at j k)) in
          sym (own i p) ∙ (sym (face i l) ∙ (same ∙ (face j k ∙ own j q))))

      pub count_is : (k : ℕ) → k ≡ count_below Q (length walks) → IsInsideCount lists base walk k
      count_is k e = record { inside = λ i. mark_at met (place (id_of map i) true); sides = side_is; count = omega (arith, e, fewer_walks, fewer_faces) }
