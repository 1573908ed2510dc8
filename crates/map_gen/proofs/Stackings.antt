-- What the generator keeps: as many vertices as were put in have edges, three for each, and its faces are faces of the map, no two of which share a dart.
use Rattle.std.proofs.Common.{◌≡◌, ◌≢◌, ℕ, zero, suc, ◌+◌, ◌*◌, ◌-◌, ◌<◌, ◌≤◌, ◌==◌, ◌&&◌, if◌then◌else◌, List, [], ◌∷◌, length, get_or, set, refl, sym, ap, ap₂, ◌∙◌, subst, inl, inr, arith, length-set, length-append, get_or-set_same, get_or-set_other}
use Rattle.std.proofs.lemmas.Bool.{cases_eq, cases_lt}
use Rattle.std.proofs.lemmas.Bool.Decides.{nat_tests}
use Rattle.std.proofs.lemmas.List.{get_or_append_left, get_or-append-add}
use Rattle.map_lists.specs.Lists.{Lists}
use Rattle.map_theory.specs.Maps.{list_of, HasDart, IsSimpleMap, IsPlane, edge_count}
use Rattle.map_theory.proofs.DartLemmas.{HasDart-follows}
use Rattle.map_gen.specs.Stacked.{Face, Stacking, with_vertex, with_faces, face_at, next_number, chosen, stack, triangle, stacking}
use Rattle.map_gen.specs.Faces.{IsFaceOf}
use Rattle.map_gen.specs.Laws.{StackedIsTriangulation}
use Rattle.map_gen.proofs.Start as start
use Rattle.map_gen.proofs.VertexPut.{third_is, length-third, edges-third, simple-third, plane-third, face_ab, face_bc, face_ca, face-third, isolated-third, third, none_in, IsOn, IsOwned, IsStacked}

-- Owners of the darts of a face that was split: the first part keeps the number i, and the others have n and n + 1.
abbrev separated : (ℕ → ℕ → ℕ) → Face → ℕ → ℕ → ℕ → ℕ → ℕ → ℕ
separated owner f k i n x y =
    if y == k then (if x == f.b then i else if x == f.c then n else n + 1)
    else if x == k then (if y == f.a then i else if y == f.b then n else n + 1)
    else if (x == f.b) && (y == f.c) then n
    else if (x == f.c) && (y == f.a) then n + 1
    else owner x y

-- a face's vertices are three, and other than k
record AreApart (f : Face) (k : ℕ) : Type 0 where
  a_b : f.a ≢ f.b
  b_c : f.b ≢ f.c
  a_c : f.a ≢ f.c
  a_k : f.a ≢ k
  b_k : f.b ≢ k
  c_k : f.c ≢ k

module _ (owner : ℕ → ℕ → ℕ) (f : Face) (k i n : ℕ) (apart : AreApart f k) where
  owned_ab : IsOwned owner f i → IsOwned (separated owner f k i n) (record { a = f.a; b = f.b; c = k }) i
  owned_ab h = record { of_ab = grind (arith, nat_tests); of_bc = grind (arith, nat_tests); of_ca = grind (arith, nat_tests) }

  owned_bc : IsOwned (separated owner f k i n) (record { a = f.b; b = f.c; c = k }) n
  owned_bc = record { of_ab = grind (arith, nat_tests); of_bc = grind (arith, nat_tests); of_ca = grind (arith, nat_tests) }

  owned_ca : IsOwned (separated owner f k i n) (record { a = f.c; b = f.a; c = k }) (n + 1)
  owned_ca = record { of_ab = grind (arith, nat_tests); of_bc = grind (arith, nat_tests); of_ca = grind (arith, nat_tests) }

  owned_else : (x y : ℕ) → x ≢ k → y ≢ k → ¬ IsOn f x y → separated owner f k i n x y ≡ owner x y
  owned_else x y nx ny off = grind (arith, nat_tests)

-- the owner of a dart
owner_on : (owner : ℕ → ℕ → ℕ) (f : Face) (j x y : ℕ) → IsOwned owner f j → IsOn f x y → owner x y ≡ j
owner_on owner f j x y h on =
    elim on [
      | inl e ↦ ap₂ owner e.0 e.1 ∙ h.of_ab
      | inr r ↦ elim r [ inl e ↦ ap₂ owner e.0 e.1 ∙ h.of_bc | inr e ↦ ap₂ owner e.0 e.1 ∙ h.of_ca ]
    ]

-- ---- the faces with one of them split

-- a place among them, and what stands there
module _ (P : Face → ℕ → Type 0) (faces : List Face) (i k : ℕ) (l : i < length faces) (f : Face) where
  abbrev one : Face
  one = record { a = f.a; b = f.b; c = k }

  abbrev two : Face
  two = record { a = f.b; b = f.c; c = k }

  abbrev three : Face
  three = record { a = f.c; b = f.a; c = k }

  abbrev none : Face
  none = record { a = 0; b = 0; c = 0 }

  pub length-with_faces : length (with_faces faces i k f) ≡ length faces + 2
  length-with_faces = let n = length-append (set faces i one) (two ∷ three ∷ []) in let m = length-set faces i one in omega arith

  pub each_face : P one i → P two (length faces) → P three (length faces + 1) → ((j : ℕ) → j < length faces → j ≢ i → P (face_at faces j) j) → (j : ℕ) → j < length (with_faces faces i k f) → P (face_at (with_faces faces i k f) j) j
  each_face at_i at_n at_next other j within =
      let front = set faces i one in
      let m : length front ≡ length faces = length-set faces i one in
      let n = length-with_faces in
      let back : (d : ℕ) → face_at (with_faces faces i k f) (length faces + d) ≡ get_or (two ∷ three ∷ []) d none = λ d.
      ap (λ z. face_at (with_faces faces i k f) (z + d)) (sym m) ∙ get_or-append-add front (two ∷ three ∷ []) d none in
      elim (cases_lt j (length faces)) [
        | inl below ↦
            let at : face_at (with_faces faces i k f) j ≡ face_at front j = get_or_append_left front (two ∷ three ∷ []) none j (omega arith) in
            elim (cases_eq j i) [
              | inl e ↦ subst (λ z. P (face_at (with_faces faces i k f) z) z) (sym e) (subst (λ g. P g i) (sym (sym (ap (face_at (with_faces faces i k f)) e) ∙ (at ∙ (ap (face_at front) e ∙ get_or-set_same faces i one none l)))) at_i)
              | inr ne ↦ subst (λ g. P g j) (sym (at ∙ get_or-set_other faces i j one none ne)) (other j below ne)
            ]
        | inr above ↦ elim (cases_eq j (length faces)) [
          | inl e ↦ (let z : j ≡ length faces + 0 = omega arith in let e' : length faces ≡ j = sym e in subst (λ g. P g j) (sym (ap (face_at (with_faces faces i k f)) z ∙ back 0)) (subst (P two) e' at_n))
          | inr ne ↦ (let z : j ≡ length faces + 1 = omega arith in subst (λ g. P g j) (sym (ap (face_at (with_faces faces i k f)) z ∙ back 1)) (subst (P three) (sym z) at_next))
        ]
      ]

-- a face's vertices are three, and no isolated one is among them
apart_from_face : (lists : Lists) (f : Face) (k : ℕ) → IsSimpleMap lists → IsFaceOf lists f → list_of lists k ≡ [] → AreApart f k
apart_from_face lists f k simple face alone =
    let has_ba = simple.both_ways f.a f.b face.edge in
    let has_bc : HasDart lists f.b f.c = subst (HasDart lists f.b) face.after_b (HasDart-follows lists f.b f.a has_ba) in
    let has_cb = simple.both_ways f.b f.c has_bc in
    let has_ca : HasDart lists f.c f.a = subst (HasDart lists f.c) face.after_c (HasDart-follows lists f.c f.b has_cb) in
    let not_k : (v u : ℕ) → HasDart lists v u → v ≢ k = λ v u h e. none_in (list_of lists v) u (ap (list_of lists) e ∙ alone) h.1 in
    record {
      a_b = λ e. simple.no_loop f.a f.b face.edge (sym e);
      b_c = λ e. simple.no_loop f.b f.c has_bc (sym e);
      a_c = simple.no_loop f.c f.a has_ca;
      a_k = not_k f.a f.b face.edge;
      b_k = not_k f.b f.a has_ba;
      c_k = not_k f.c f.a has_ca;
    }

-- BEGIN: the triangle
pub IsStacked-triangle : (n number : ℕ) → 3 ≤ n → IsStacked n 3 (triangle n number)
IsStacked-triangle n number some =
    let m = n - 3 in
    let count = start.length-triangle m in
    record {
      vertices = omega arith;
      simple = start.simple m;
      plane = start.plane m;
      edges = let e = start.edges m in omega arith;
      isolated = start.isolated m;
      some_face = omega arith;
      faces = λ i l. (let e : i ≡ 0 = omega arith in rw e (start.inner m));
      apart = (λ x y. 0, λ i l. (let e : i ≡ 0 = omega arith in rw e (record { of_ab = refl; of_bc = refl; of_ca = refl })));
    }

-- MORE: the next vertex
module _ (n k : ℕ) (s : Stacking) (h : IsStacked n k s) (l : k < n) where
  abbrev number : ℕ
  number = next_number s.number

  abbrev i : ℕ
  i = chosen number (length s.faces)

  abbrev f : Face
  f = face_at s.faces i

  in_i : i < length s.faces
  in_i = let some = h.some_face in omega arith

  face : IsFaceOf s.lists f
  face = h.faces i in_i

  in_k : k < length s.lists
  in_k = let same = h.vertices in omega arith

  alone : list_of s.lists k ≡ []
  alone = h.isolated k (omega arith)

  below : f.a < k
  below = elim (cases_lt f.a k) [ inl l ↦ l | inr l ↦ absurd (none_in (list_of s.lists f.a) f.b (h.isolated f.a l) face.edge.1) ]

  abbrev new : Lists
  new = with_vertex s.lists k f

  abbrev put : Lists
  put = third s.lists k f h.simple face in_k alone

  same : put ≡ new
  same = third_is s.lists k f h.simple face in_k alone

  pub IsStacked-more : IsStacked n (k + 1) (stack k s)
  IsStacked-more =
      let owner = h.apart.0 in
      let three = apart_from_face s.lists f k h.simple face alone in
      let to_new : (P : Lists → Type 0) → P put → P new = λ P p. subst P same p in
      record {
        vertices = to_new (λ ls. length ls ≡ n) (length-third s.lists k f h.simple face in_k alone ∙ h.vertices);
        simple = to_new IsSimpleMap (simple-third s.lists k f h.simple face in_k alone);
        plane = to_new IsPlane (plane-third s.lists k f h.simple face in_k alone h.plane below);
        edges = to_new (λ ls. edge_count ls + 6 ≡ 3 * (k + 1)) (let e = edges-third s.lists k f h.simple face in_k alone in let e' = h.edges in omega arith);
        isolated = λ v m. to_new (λ ls. list_of ls v ≡ []) (isolated-third s.lists k f h.simple face in_k alone v (omega arith) (h.isolated v (omega arith)));
        some_face = let len = length-with_faces (λ g j. Unit {0}) s.faces i k in_i f in omega arith;
        faces = each_face (λ g j. IsFaceOf new g) s.faces i k in_i f
            (to_new (λ ls. IsFaceOf ls (record { a = f.a; b = f.b; c = k })) (face_ab s.lists k f h.simple face in_k alone))
            (to_new (λ ls. IsFaceOf ls (record { a = f.b; b = f.c; c = k })) (face_bc s.lists k f h.simple face in_k alone))
            (to_new (λ ls. IsFaceOf ls (record { a = f.c; b = f.a; c = k })) (face_ca s.lists k f h.simple face in_k alone))
            (λ j m ne. to_new (λ ls. IsFaceOf ls (face_at s.faces j)) (face-third s.lists k f h.simple face in_k alone (face_at s.faces j) (h.faces j m) (λ x y on on'. ne (sym (owner_on owner (face_at s.faces j) j x y (h.apart.1 j m) on) ∙ owner_on owner f i x y (h.apart.1 i in_i) on'))));
        apart = (
          separated owner f k i (length s.faces),
          each_face (IsOwned (separated owner f k i (length s.faces))) s.faces i k in_i f
              (owned_ab owner f k i (length s.faces) three (h.apart.1 i in_i))
              (owned_bc owner f k i (length s.faces) three)
              (owned_ca owner f k i (length s.faces) three)
              (λ j m ne.
              let g = face_at s.faces j in
              let mine = h.apart.1 j m in
              let far = apart_from_face s.lists g k h.simple (h.faces j m) alone in
              let off : (x y : ℕ) → IsOn g x y → ¬ IsOn f x y = λ x y on on'. ne (sym (owner_on owner g j x y mine on) ∙ owner_on owner f i x y (h.apart.1 i in_i) on') in
              record {
                of_ab = owned_else owner f k i (length s.faces) three g.a g.b far.a_k far.b_k (off g.a g.b (inl (refl, refl))) ∙ mine.of_ab;
                of_bc = owned_else owner f k i (length s.faces) three g.b g.c far.b_k far.c_k (off g.b g.c (inr (inl (refl, refl)))) ∙ mine.of_bc;
                of_ca = owned_else owner f k i (length s.faces) three g.c g.a far.c_k far.a_k (off g.c g.a (inr (inr (refl, refl)))) ∙ mine.of_ca;
              }),
        );
      }

-- so it is after any number of vertices
pub IsStacked-stacking : (n number k : ℕ) → k + 3 ≤ n → IsStacked n (k + 3) (stacking n number k)
unfolding stacking
IsStacked-stacking n number zero l = IsStacked-triangle n number l
IsStacked-stacking n number (suc k) l =
    let e : (k + 3) + 1 ≡ suc k + 3 = omega arith in
    subst (λ z. IsStacked n z (stack (k + 3) (stacking n number k))) e (IsStacked-more n (k + 3) (stacking n number k) (IsStacked-stacking n number k (omega arith)) (omega arith))

-- DONE, and THE LAW: all vertices are put in
pub stacked_is_triangulation : StackedIsTriangulation
stacked_is_triangulation n number some =
    let h = IsStacked-stacking n number (n - 3) (omega arith) in
    let e : (n - 3) + 3 ≡ n = omega arith in
    let edges = h.edges in
    let vertices = h.vertices in
    (record { simple = h.simple; plane = h.plane; some = omega arith; edges = omega arith }, vertices)
