-- The longest paths over the arcs between faces are the numbering of the faces, and give the dual numbers.
use Rattle.std.proofs.Common.{◌≡◌, ◌≢◌, ℕ, zero, suc, ◌+◌, ◌<◌, ◌≤◌, cond, List, [], ◌∷◌, length, map, get_or, refl, sym, ap, ◌∙◌, subst, inl, inr, arith}
use Rattle.std.proofs.lemmas.Bool.{cases_eq, cases_lt, lt-ltb, le-ltb}
use Rattle.std.proofs.lemmas.List.{length-map, get_or-map, get_or_past}
use Rattle.std.proofs.lemmas.List.Elements.{Contains-get_or}
use Rattle.classes.proofs.Classes.{Together-from, same_class-from}
use Rattle.map_lists.specs.Lists.{Lists}
use Rattle.map_theory.specs.Maps.{Dart, IsSimpleMap, HasDart, list_of, place_of, darts, dart_count, dart_number, face_classes}
use Rattle.map_theory.specs.Paths.{SameFace}
use Rattle.map_theory.proofs.DartLemmas.{IsDartNumber-darts, dart_number-lt, place_of-lt-length, get_or-place_of}
use Rattle.graph_search.specs.Arcs.{arcs_of, HasArc, IsAcyclic, AreLongest}
use Rattle.bipolar.specs.DualNumbers.{IsUpward, IsFaceNumbering}
use Rattle.bipolar.specs.Laws.{IsStMap}
use Rattle.bipolar.specs.Columns.{in_row}
use Rattle.bipolar.specs.Numbered.{GiveDuals}
use Rattle.bipolar.specs.FaceNumbers.{face_of, AreFaceNumbers, AreFaceArcs, left_at, rows_since, left_rows}
use Rattle.bipolar.proofs.Bipolar.{one_vertex}
use Rattle.bipolar.proofs.Numberings.{one_numbering}

-- the rows of numbers by vertices and neighbours
length-rows : (x : ℕ → ℕ → ℕ) (k : ℕ) (lists : Lists) → length (rows_since x k lists) ≡ length lists
length-rows x k [] = refl
length-rows x k (us ∷ lists) = ap suc (length-rows x (k + 1) lists)

row-since : (x : ℕ → ℕ → ℕ) (k v : ℕ) (lists : Lists) → arcs_of (rows_since x k lists) v ≡ map (x (k + v)) (list_of lists v)
row-since x k v [] = refl
row-since x k zero (us ∷ lists) = let e : k ≡ k + 0 = omega arith in ap (λ z. map (x z) us) e
row-since x k (suc v) (us ∷ lists) = row-since x (k + 1) v lists ∙ (let e : k + 1 + v ≡ k + suc v = omega arith in ap (λ z. map (x z) (list_of lists v)) e)

module _ (lists : Lists) (rank of numbers : List ℕ) where
  pub length-left_rows : length (left_rows lists rank of numbers) ≡ length lists
  length-left_rows = length-rows (left_at lists rank of numbers) 0 lists

  pub left_row : (v : ℕ) → arcs_of (left_rows lists rank of numbers) v ≡ map (left_at lists rank of numbers v) (list_of lists v)
  left_row v = row-since (left_at lists rank of numbers) 0 v lists ∙ (let e : 0 + v ≡ v = omega arith in ap (λ z. map (left_at lists rank of numbers z) (list_of lists v)) e)

  pub left_row-at : (v i : ℕ) → i < length (list_of lists v) → get_or (arcs_of (left_rows lists rank of numbers) v) i 0 ≡ left_at lists rank of numbers v (get_or (list_of lists v) i 0)
  left_row-at v i l = ap (λ (r : List ℕ). get_or r i 0) (left_row v) ∙ get_or-map (left_at lists rank of numbers v) (list_of lists v) i 0 0 l

  pub length-left_row : (v : ℕ) → length (arcs_of (left_rows lists rank of numbers) v) ≡ length (list_of lists v)
  length-left_row v = ap (λ (r : List ℕ). length r) (left_row v) ∙ length-map (list_of lists v) (left_at lists rank of numbers v)

  pub in_left_row : (v u : ℕ) → HasDart lists v u → in_row lists (left_rows lists rank of numbers) v u ≡ left_at lists rank of numbers v u
  in_left_row v u has =
      let place = place_of-lt-length u (list_of lists v) has.1 in
      left_row-at v (place_of u (list_of lists v)) place ∙ ap (left_at lists rank of numbers v) (get_or-place_of u (list_of lists v) 0 place)

module _ (lists : Lists) (simple : IsSimpleMap lists) (of : List ℕ) (count : ℕ) (faces : AreFaceNumbers lists of count) where
  -- darts with one number are in one face
  same_face : (u v a b : ℕ) → HasDart lists u v → HasDart lists a b → face_of lists of u v ≡ face_of lists of a b → SameFace lists (u, v) (a, b)
  same_face u v a b h k e = same_class-from (face_classes lists) (dart_number lists (u, v)) (dart_number lists (a, b)) (faces.one (dart_number lists (u, v)) (dart_number lists (a, b)) (dart_number-lt lists u v h) (dart_number-lt lists a b k) e)

  -- and the other way about
  one_number : (u v a b : ℕ) → HasDart lists u v → HasDart lists a b → SameFace lists (u, v) (a, b) → face_of lists of u v ≡ face_of lists of a b
  one_number u v a b h k same = faces.alike (dart_number lists (u, v)) (dart_number lists (a, b)) (dart_number-lt lists u v h) (dart_number-lt lists a b k) (Together-from (face_classes lists) (dart_number lists (u, v)) (dart_number lists (a, b)) same)

  face_in : (u v : ℕ) → HasDart lists u v → face_of lists of u v < count
  face_in u v h = faces.below (dart_number lists (u, v)) (dart_number-lt lists u v h)

  -- each number is of a dart
  dart_in : (f : ℕ) → f < count → (u : ℕ) × (v : ℕ) × HasDart lists u v × (face_of lists of u v ≡ f)
  dart_in f l =
      let i = faces.some f l in
      let d : Dart = get_or (darts lists) i.0 (0, 0) in
      let is = IsDartNumber-darts lists i.0 (0, 0) simple.no_repeat i.1 in
      (d.0, d.1, is.is_dart, ap (λ z. get_or of z 0) is.number ∙ i.2)

  module _ (rank : List ℕ) (s t : ℕ) (st : HasDart lists s t) (number : Dart → ℕ) (w : IsFaceNumbering lists rank s t number) (arcs : List (List ℕ)) (x : AreFaceArcs lists rank of count arcs) where
    abbrev base : ℕ
    base = face_of lists of s t

    off_base : (u v : ℕ) → HasDart lists u v → face_of lists of u v ≢ base → ¬ SameFace lists (s, t) (u, v)
    off_base u v h ne same = ne (sym (one_number s t u v st h same))

    height : ℕ → ℕ
    height f = number (get_or (darts lists) (place_of f of) (0, 0))

    height_is : (u v : ℕ) → HasDart lists u v → height (face_of lists of u v) ≡ number (u, v)
    unfolding height
    height_is u v h =
        let f = face_of lists of u v in
        let i_in = dart_number-lt lists u v h in
        let place = place_of-lt-length f of (Contains-get_or of (dart_number lists (u, v)) 0 (omega (arith, i_in, faces.size))) in
        let j_in : place_of f of < dart_count lists = omega (arith, place, faces.size) in
        let is = IsDartNumber-darts lists (place_of f of) (0, 0) simple.no_repeat j_in in
        let d : Dart = get_or (darts lists) (place_of f of) (0, 0) in
        w.of_faces d (u, v) is.is_dart h (same_face d.0 d.1 u v is.is_dart h (ap (λ z. get_or of z 0) is.number ∙ get_or-place_of f of 0 place))

    -- a face but the first is reached by an arc
    arc_into : (a b : ℕ) → HasDart lists a b → face_of lists of a b ≢ base → (u : ℕ) × (v : ℕ) × IsUpward lists rank u v × HasArc arcs (face_of lists of u v) (face_of lists of a b) × (number (a, b) ≡ number (u, v) + 1)
    arc_into a b h ne =
        let f = w.reached (a, b) h (off_base a b h ne) in
        let back = simple.both_ways f.0 f.1 f.2.0 in
        let same = one_number a b f.1 f.0 h back f.3 in
        (f.0, f.1, f.2, subst (HasArc arcs (face_of lists of f.0 f.1)) (sym same) (x.to f.0 f.1 f.2), f.4)

    pub acyclic : IsAcyclic arcs base
    acyclic = record {
      base_in = omega (arith, face_in s t st, x.count_is);
      within = λ e r has. let f = x.from e r has in omega (arith, face_in f.1 f.0 (simple.both_ways f.0 f.1 f.2.0), f.4, x.count_is);
      height = height;
      rising = λ e r has ne.
          let f = x.from e r has in
          let back = simple.both_ways f.0 f.1 f.2.0 in
          let more = w.greatest f.0 f.1 f.2 (off_base f.1 f.0 back (λ z. ne (sym f.4 ∙ z))) in
          omega (arith, more, height_is f.0 f.1 f.2.0, height_is f.1 f.0 back, ap height f.3, ap height f.4);
      reached = λ r l ne.
          let y = dart_in r (omega (arith, l, x.count_is)) in
          let e = arc_into y.0 y.1 y.2 (λ z. ne (sym y.3 ∙ z)) in
          (face_of lists of e.0 e.1, subst (HasArc arcs (face_of lists of e.0 e.1)) y.3 e.3);
    }

    module _ (numbers : List ℕ) (longest : AreLongest arcs base numbers) where
      at_most : (bound u v : ℕ) → HasDart lists u v → get_or numbers (face_of lists of u v) 0 < bound → get_or numbers (face_of lists of u v) 0 ≤ number (u, v)
      at_most zero u v h less = absurd (omega (arith, less))
      at_most (suc bound) u v h less =
          let f = face_of lists of u v in
          elim (cases_eq f base) [
            | inl e ↦ omega (arith, ap (λ z. get_or numbers z 0) e, longest.first)
            | inr ne ↦
                let e = longest.one_more f (omega (arith, face_in u v h, x.count_is)) ne in
                let a = x.from e.0 f e.1 in
                let back = simple.both_ways a.0 a.1 a.2.0 in
                let at : get_or numbers (face_of lists of a.0 a.1) 0 ≡ get_or numbers e.0 0 = ap (λ z. get_or numbers z 0) a.3 in
                let rest = at_most bound a.0 a.1 a.2.0 (omega (arith, less, e.2, at)) in
                let more = w.greatest a.0 a.1 a.2 (off_base a.1 a.0 back (λ z. ne (sym a.4 ∙ z))) in
                let same = w.of_faces (a.1, a.0) (u, v) back h (same_face a.1 a.0 u v back h a.4) in
                omega (arith, rest, more, e.2, at, same)
          ]

      at_least : (bound u v : ℕ) → HasDart lists u v → number (u, v) < bound → number (u, v) ≤ get_or numbers (face_of lists of u v) 0
      at_least zero u v h less = absurd (omega (arith, less))
      at_least (suc bound) u v h less =
          let f = face_of lists of u v in
          elim (cases_eq f base) [
            | inl e ↦ omega (arith, w.first, w.of_faces (s, t) (u, v) st h (same_face s t u v st h (sym e)))
            | inr ne ↦
                let e = arc_into u v h ne in
                omega (arith, at_least bound e.0 e.1 e.2.0 (omega (arith, less, e.4)), longest.greatest (face_of lists of e.0 e.1) f e.3 ne, e.4)
          ]

      -- the numbers are those of the faces
      pub numbers_agree : (u v : ℕ) → HasDart lists u v → get_or numbers (face_of lists of u v) 0 ≡ number (u, v)
      numbers_agree u v h = omega (arith, at_most (get_or numbers (face_of lists of u v) 0 + 1) u v h (omega arith), at_least (number (u, v) + 1) u v h (omega arith))

module _ (lists : Lists) (rank at : List ℕ) (s t : ℕ) (m : IsStMap lists s t at rank) (of : List ℕ) (count : ℕ) (faces : AreFaceNumbers lists of count) (arcs : List (List ℕ)) (x : AreFaceArcs lists rank of count arcs) where
  pub acyclic_faces : IsAcyclic arcs (face_of lists of s t)
  acyclic_faces =
      let number = (one_numbering m).some in
      acyclic lists m.simple of count faces rank s t m.dart number.0 number.1 arcs x

  module _ (numbers : List ℕ) (longest : AreLongest arcs (face_of lists of s t) numbers) where
    abbrev rows : Lists
    rows = left_rows lists rank of numbers

    agree : (number : Dart → ℕ) → IsFaceNumbering lists rank s t number → (u v : ℕ) → HasDart lists u v → get_or numbers (face_of lists of u v) 0 ≡ number (u, v)
    agree number w = numbers_agree lists m.simple of count faces rank s t m.dart number w arcs x numbers longest

    left_up : (v u : ℕ) → get_or rank v 0 < get_or rank u 0 → left_at lists rank of numbers v u ≡ get_or numbers (face_of lists of v u) 0
    left_up v u up = ap (λ b. get_or numbers (cond b (face_of lists of v u) (face_of lists of u v)) 0) (lt-ltb (get_or rank v 0) (get_or rank u 0) up)

    left_down : (v u : ℕ) → get_or rank u 0 ≤ get_or rank v 0 → left_at lists rank of numbers v u ≡ get_or numbers (face_of lists of u v) 0
    left_down v u down = ap (λ b. get_or numbers (cond b (face_of lists of v u) (face_of lists of u v)) 0) (le-ltb (get_or rank v 0) (get_or rank u 0) down)

    -- of two neighbours one ranks higher
    other_rank : (u v : ℕ) → HasDart lists u v → get_or rank v 0 ≤ get_or rank u 0 → get_or rank v 0 < get_or rank u 0
    other_rank u v has most = elim (cases_eq (get_or rank v 0) (get_or rank u 0)) [
      | inl e ↦ absurd (m.simple.no_loop u v has (one_vertex m v u (m.simple.both_ways u v has).0 has.0 e))
      | inr ne ↦ omega (arith, most, ne)
    ]

    pub give_duals : GiveDuals lists rank s t rows
    give_duals = record {
      sizes = record { count = length-left_rows lists rank of numbers; sizes = λ v l. length-left_row lists rank of numbers v };
      both = λ u v has.
          in_left_row lists rank of numbers u v has ∙ (elim (cases_lt (get_or rank u 0) (get_or rank v 0)) [
            | inl up ↦ left_up u v up ∙ sym (left_down v u (omega (arith, up)))
            | inr most ↦ left_down u v most ∙ sym (left_up v u (other_rank u v has most))
          ] ∙ sym (in_left_row lists rank of numbers v u (m.simple.both_ways u v has)));
      low = λ v i.
          let number = (one_numbering m).some in
          let below = (one_numbering m).below number.0 number.1 in
          let some = below (s, t) m.dart in
          elim (cases_lt i (length (list_of lists v))) [
            | inr past ↦ omega (arith, some, get_or_past (arcs_of rows v) i 0 (omega (arith, past, length-left_row lists rank of numbers v)))
            | inl li ↦
                let u = get_or (list_of lists v) i 0 in
                let v_in : v < length lists = elim (cases_lt v (length lists)) [ inl l ↦ l | inr past ↦ absurd (omega (arith, li, ap (λ (us : List ℕ). length us) (get_or_past lists v [] past))) ] in
                let has : HasDart lists v u = (v_in, Contains-get_or (list_of lists v) i 0 li) in
                let back = m.simple.both_ways v u has in
                let is = left_row-at lists rank of numbers v i li in
                elim (cases_lt (get_or rank v 0) (get_or rank u 0)) [
                  | inl up ↦ omega (arith, is, left_up v u up, agree number.0 number.1 v u has, below (v, u) has)
                  | inr down ↦ omega (arith, is, left_down v u down, agree number.0 number.1 u v back, below (u, v) back)
                ]
          ];
      duals = λ columns c.
          let number = (one_numbering m).some in (
            number.0,
            number.1,
            record {
              count = c.count;
              left = λ u v up.
                  let has = up.0 in
                  let back = m.simple.both_ways u v has in
                  elim (cases_lt u v) [
                    | inl less ↦ rw (lt-ltb u v less) (c.each u v (less, has) ∙ (in_left_row lists rank of numbers v u back ∙ (left_down v u (omega (arith, up.1)) ∙ agree number.0 number.1 u v has)))
                    | inr most ↦
                        let more : v < u = by_loop u v has most in
                        rw (le-ltb u v most) (c.each v u (more, back) ∙ (in_left_row lists rank of numbers u v has ∙ (left_up u v up.1 ∙ agree number.0 number.1 u v has)))
                  ];
            },
          );
    }
      where
        by_loop : (u v : ℕ) → HasDart lists u v → v ≤ u → v < u
        by_loop u v has l = elim (cases_lt v u) [ inl less ↦ less | inr more ↦ (let e : v ≡ u = omega (arith, l, more) in absurd (m.simple.no_loop u v has e)) ]
