-- The longest paths over the arcs of the faces are the numbering of the faces.
use Rattle.std.proofs.Common.{◌≡◌, ◌≢◌, ℕ, zero, suc, ◌+◌, ◌<◌, ◌≤◌, List, length, get_or, Contains, Option, Some, sym, ap, ◌∙◌, subst, inl, inr, arith}
use Rattle.std.specs.Prelude.{unwrap_or}
use Rattle.std.proofs.lemmas.Bool.{cases_eq}
use Rattle.std.proofs.lemmas.List.Elements.{Contains-get_or}
use Rattle.classes.proofs.Classes.{Together, Together-from, same_class-from}
use Rattle.map_lists.specs.Lists.{Lists}
use Rattle.map_theory.specs.Maps.{Dart, HasDart, dart_number, face_classes}
use Rattle.map_theory.specs.Paths.{SameFace}
use Rattle.half_edges.specs.Map.{Map, IsHalfMap, dart_at}
use Rattle.euler_faces.specs.FaceWalks.{walk_at, first_number, AreFaces}
use Rattle.euler_faces.proofs.NumberLemmas.{number_at-is}
use Rattle.euler_faces.proofs.WalkFaces.{in_class, in_walk}
use Rattle.euler_faces.proofs.SideMarks.{some_dart}
use Rattle.graph_search.specs.Arcs.{arcs_of, HasArc, IsAcyclic, AreLongest}
use Rattle.bipolar.specs.DualNumbers.{IsUpward, IsFaceNumbering}
use Rattle.bipolar.specs.FaceArcs.{InWalk, AreFaceArcs}
use Rattle.bipolar.proofs.Darts.{live_at}

module _ (map : Map) (h : IsHalfMap map) (walks : List (List ℕ)) (faces : AreFaces map walks) where
  abbrev lists : Lists
  lists = map.lists

  in_first : (f u v : ℕ) (x : InWalk map walks f u v) → Together (face_classes lists) (first_number map (walk_at walks f)) (dart_number lists (u, v))
  in_first f u v x =
      subst (Together (face_classes lists) (first_number map (walk_at walks f))) (number_at-is map x.1.0 u v x.1.2) (in_class map h (walk_at walks f) (faces.each f x.0) x.1.0 x.1.1)

  -- darts of one walk are in one face
  pub walk_face : (f u v a b : ℕ) → InWalk map walks f u v → InWalk map walks f a b → SameFace lists (u, v) (a, b)
  walk_face f u v a b x y = same_class-from (face_classes lists) (dart_number lists (u, v)) (dart_number lists (a, b)) (sym (in_first f u v x) ∙ in_first f a b y)

  -- and the other way about
  pub one_walk : (f g u v a b : ℕ) → InWalk map walks f u v → InWalk map walks g a b → SameFace lists (u, v) (a, b) → f ≡ g
  one_walk f g u v a b x y same =
      let together = in_first f u v x ∙ Together-from (face_classes lists) (dart_number lists (u, v)) (dart_number lists (a, b)) same in
      let there = subst (Together (face_classes lists) (first_number map (walk_at walks f))) (sym (number_at-is map y.1.0 a b y.1.2)) together in
      faces.apart f g y.1.0 x.0 y.0 (in_walk map h (walk_at walks f) (faces.each f x.0) y.1.0 (live_at (dart_at map y.1.0) a b y.1.2) there) y.1.1

  -- each dart stands in a walk
  pub some_walk : (u v : ℕ) → HasDart lists u v → (f : ℕ) × InWalk map walks f u v
  some_walk u v has =
      let d = h.has_id u v has in
      let f = faces.all d.0 (live_at (dart_at map d.0) u v d.1) in
      (f.0, (f.1, (d.0, f.2, d.1)))

  -- and each walk has a dart
  pub first_in : (f : ℕ) → f < length walks → (u : ℕ) × (v : ℕ) × InWalk map walks f u v × (dart_at map (get_or (walk_at walks f) 0 0) ≡ Some (u, v))
  first_in f l =
      let d = get_or (walk_at walks f) 0 0 in
      let walk = faces.each f l in
      let x = some_dart (dart_at map d) (walk.live 0 walk.some) in
      (x.0, x.1, (l, (d, Contains-get_or (walk_at walks f) 0 0 walk.some, x.2)), x.2)

  pub walk_dart : (f u v : ℕ) → InWalk map walks f u v → HasDart lists u v
  walk_dart f u v x = h.is_dart x.1.0 u v x.1.2

  module _ (rank : List ℕ) (s t : ℕ) (number : Dart → ℕ) (w : IsFaceNumbering lists rank s t number) (arcs : List (List ℕ)) (x : AreFaceArcs map walks rank arcs) (o : ℕ) (base : InWalk map walks o s t) where
    off_base : (f u v : ℕ) → InWalk map walks f u v → f ≢ o → ¬ SameFace lists (s, t) (u, v)
    off_base f u v y ne same = ne (sym (one_walk o f s t u v base y same))

    -- what an arc is
    arc_from : (e r : ℕ) → HasArc arcs e r → (u : ℕ) × (v : ℕ) × IsUpward lists rank u v × InWalk map walks e u v × InWalk map walks r v u
    arc_from e r has =
        let le : e < length walks = omega (arith, has.0, x.count) in
        let f = (x.rows e le).from r has.1 in
        (f.1, f.2, (h.is_dart f.0 f.1 f.2 f.4, f.5), (le, (f.0, f.3, f.4)), f.6)

    arc_to : (e r u v : ℕ) → IsUpward lists rank u v → InWalk map walks e u v → InWalk map walks r v u → HasArc arcs e r
    arc_to e r u v up y z =
        let f = (x.rows e y.0).to y.1.0 u v y.1.1 y.1.2 up.1 in
        (omega (arith, y.0, x.count), subst (Contains (arcs_of arcs e)) (one_walk f.0 r v u v u f.2 z (walk_face r v u v u z z)) f.1)

    height : ℕ → ℕ
    height f = number (unwrap_or (dart_at map (get_or (walk_at walks f) 0 0)) (0, 0))

    height_is : (f u v : ℕ) → InWalk map walks f u v → height f ≡ number (u, v)
    unfolding height
    height_is f u v y =
        let z = first_in f y.0 in
        ap (λ (d : Option Dart). number (unwrap_or d (0, 0))) z.3 ∙ w.of_faces (z.0, z.1) (u, v) (walk_dart f z.0 z.1 z.2) (walk_dart f u v y) (walk_face f z.0 z.1 u v z.2 y)

    -- a face but the first is reached by an arc
    arc_into : (r a b : ℕ) → InWalk map walks r a b → r ≢ o → (e : ℕ) × (u : ℕ) × (v : ℕ) × HasArc arcs e r × InWalk map walks e u v × (number (a, b) ≡ number (u, v) + 1)
    arc_into r a b y ne =
        let f = w.reached (a, b) (walk_dart r a b y) (off_base r a b y ne) in
        let u = f.0 in
        let v = f.1 in
        let e = some_walk u v f.2.0 in
        let z = some_walk v u (h.simple.both_ways u v f.2.0) in
        (e.0, u, v, arc_to e.0 r u v f.2 e.1 (subst (λ g. InWalk map walks g v u) (sym (one_walk r z.0 a b v u y z.1 f.3)) z.1), e.1, f.4)

    pub acyclic : IsAcyclic arcs o
    acyclic = record {
      base_in = omega (arith, base.0, x.count);
      within = λ e r has. let f = arc_from e r has in omega (arith, f.4.0, x.count);
      height = height;
      rising = λ e r has ne.
          let f = arc_from e r has in
          omega (arith, w.greatest f.0 f.1 f.2 (off_base r f.1 f.0 f.4 ne), height_is e f.0 f.1 f.3, height_is r f.1 f.0 f.4);
      reached = λ r l ne.
          let y = first_in r (omega (arith, l, x.count)) in
          let e = arc_into r y.0 y.1 y.2 ne in
          (e.0, e.3);
    }

    module _ (numbers : List ℕ) (longest : AreLongest arcs o numbers) where
      at_most : (bound f u v : ℕ) → InWalk map walks f u v → get_or numbers f 0 < bound → get_or numbers f 0 ≤ number (u, v)
      at_most zero f u v y less = absurd (omega arith)
      at_most (suc bound) f u v y less =
          elim (cases_eq f o) [
            | inl e ↦ omega (arith, ap (λ z. get_or numbers z 0) e, longest.first)
            | inr ne ↦
                let e = longest.one_more f (omega (arith, y.0, x.count)) ne in
                let a = arc_from e.0 f e.1 in
                let rest = at_most bound e.0 a.0 a.1 a.3 (omega (arith, less, e.2)) in
                let more = w.greatest a.0 a.1 a.2 (off_base f a.1 a.0 a.4 ne) in
                omega (arith, rest, more, e.2, w.of_faces (a.1, a.0) (u, v) (walk_dart f a.1 a.0 a.4) (walk_dart f u v y) (walk_face f a.1 a.0 u v a.4 y))
          ]

      at_least : (bound f u v : ℕ) → InWalk map walks f u v → number (u, v) < bound → number (u, v) ≤ get_or numbers f 0
      at_least zero f u v y less = absurd (omega arith)
      at_least (suc bound) f u v y less =
          elim (cases_eq f o) [
            | inl e ↦
                let here = subst (λ g. InWalk map walks g s t) (sym e) base in
                omega (arith, w.first, w.of_faces (s, t) (u, v) (walk_dart f s t here) (walk_dart f u v y) (walk_face f s t u v here y))
            | inr ne ↦
                let e = arc_into f u v y ne in
                omega (arith, at_least bound e.0 e.1 e.2 e.4 (omega (arith, less, e.5)), longest.greatest e.0 f e.3 ne, e.5)
          ]

      -- the numbers are those of the faces
      pub numbers_agree : (f u v : ℕ) → InWalk map walks f u v → get_or numbers f 0 ≡ number (u, v)
      numbers_agree f u v y = omega (arith, at_most (get_or numbers f 0 + 1) f u v y (omega arith), at_least (number (u, v) + 1) f u v y (omega arith))
