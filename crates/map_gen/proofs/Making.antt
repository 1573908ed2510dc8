-- A map in the making: with the vertices below k put in, it has the lists, the faces and the number of the generator.
use Rattle.std.proofs.Common.{◌≡◌, ◌≢◌, ℕ, suc, ◌+◌, ◌-◌, ◌<◌, ◌≤◌, List, [], ◌∷◌, ◌++◌, length, get_or, set, refl, sym, ap, ap₂, ◌∙◌, subst, arith, append_assoc, length-set, length-append, get_or-set_same, get_or-set_other}
use Rattle.std.proofs.lemmas.List.{get_or_append_left, get_or-append-add}
use Rattle.map_theory.specs.Maps.{list_of}
use Rattle.half_edges.specs.Map.{Map}
use Rattle.map_gen.specs.Stacked.{Face, Stacking, with_vertex, face_at, next_number, chosen, stack, triangle, stacking}
use Rattle.map_gen.specs.Faces.{IsFaceOf}
use Rattle.map_gen.proofs.VertexPut.{IsStacked}
use Rattle.map_gen.specs.Darts.{HasDarts, IsVertexPut}
use Rattle.map_gen.specs.declared.stacked_maps.FaceDarts.{FaceDarts}
use Rattle.map_gen.proofs.Stackings.{IsStacked-stacking, each_face, length-with_faces}

-- the lists, the number, and the faces under the ids of their darts
pub record IsMade (s : Stacking) (map : Map) (ids : List FaceDarts) (row : ℕ) : Type 0 where
  pub lists : map.lists ≡ s.lists
  pub row_is : row ≡ s.number
  pub count : length ids ≡ length s.faces
  pub darts : (i : ℕ) (d : FaceDarts) → i < length ids → HasDarts map (get_or ids i d) (face_at s.faces i)

-- what the generator keeps before it puts in the vertex k
abbrev pub before : ℕ → ℕ → ℕ → Stacking
before n number k = stacking n number (k - 3)

-- BEGIN
pub IsMade-begin : (n number : ℕ) (map : Map) (ids : FaceDarts) → map.lists ≡ (triangle n number).lists → HasDarts map ids (record { a = 0; b = 2; c = 1 }) → IsMade (before n number 3) map (ids ∷ []) number
unfolding stacking
IsMade-begin n number map ids e h = record {
  lists = e;
  row_is = refl;
  count = refl;
  darts = λ i d l. (let z : i ≡ 0 = omega arith in rw z h);
}

before_next : (n number k : ℕ) → 3 ≤ k → before n number (k + 1) ≡ stack k (before n number k)
unfolding stacking
before_next n number k some =
    let e : k + 1 - 3 ≡ suc (k - 3) = omega arith in
    let e' : k - 3 + 3 ≡ k = omega arith in
    ap (stacking n number) e ∙ ap (λ z. stack z (before n number k)) e'

-- the ids of the faces, of which one was split
module _ (ids : List FaceDarts) (i : ℕ) (one two three d : FaceDarts) (l : i < length ids) where
  abbrev pub separated_ids : List FaceDarts
  separated_ids = (set ids i one ++ two ∷ []) ++ three ∷ []

  whole : separated_ids ≡ set ids i one ++ two ∷ three ∷ []
  whole = append_assoc (set ids i one) (two ∷ []) (three ∷ [])

  pub length-separated_ids : length separated_ids ≡ length ids + 2
  length-separated_ids = let n = length-append (set ids i one) (two ∷ three ∷ []) in let m = length-set ids i one in ap length whole ∙ omega arith

  front : (j : ℕ) → j < length ids → get_or separated_ids j d ≡ get_or (set ids i one) j d
  front j m = let n = length-set ids i one in ap (λ xs. get_or xs j d) whole ∙ get_or_append_left (set ids i one) (two ∷ three ∷ []) d j (omega arith)

  pub id_here : get_or separated_ids i d ≡ one
  id_here = front i l ∙ get_or-set_same ids i one d l

  pub id_other : (j : ℕ) → j < length ids → j ≢ i → get_or separated_ids j d ≡ get_or ids j d
  id_other j m ne = front j m ∙ get_or-set_other ids i j one d ne

  back : (j : ℕ) → get_or separated_ids (length ids + j) d ≡ get_or (two ∷ three ∷ []) j d
  back j = ap (λ xs. get_or xs (length ids + j) d) whole ∙ (ap (λ z. get_or (set ids i one ++ two ∷ three ∷ []) (z + j) d) (sym (length-set ids i one)) ∙ get_or-append-add (set ids i one) (two ∷ three ∷ []) j d)

  pub id_next : (j : ℕ) → j ≡ length ids → get_or separated_ids j d ≡ two
  id_next j e = let z : j ≡ length ids + 0 = omega arith in ap (λ x. get_or separated_ids x d) z ∙ back 0

  pub id_last : (j : ℕ) → j ≡ length ids + 1 → get_or separated_ids j d ≡ three
  id_last j e = ap (λ x. get_or separated_ids x d) e ∙ back 1

module _ (n number k : ℕ) (map : Map) (ids : List FaceDarts) (row : ℕ) (some : 3 ≤ k) (l : k < n) (h : IsMade (before n number k) map ids row) where
  abbrev s : Stacking
  s = before n number k

  stacked_is : IsStacked n k s
  stacked_is = let e : k - 3 + 3 ≡ k = omega arith in subst (λ z. IsStacked n z s) e (IsStacked-stacking n number (k - 3) (omega arith))

  -- the face that is chosen
  abbrev pub at : ℕ
  at = chosen (next_number s.number) (length s.faces)

  abbrev pub f : Face
  f = face_at s.faces at

  in_at : at < length s.faces
  in_at = let some = stacked_is.some_face in omega arith

  pub some_face : 0 < length ids
  some_face = let some = stacked_is.some_face in let c = h.count in omega arith

  -- what is asked of it
  pub vertex_in : k < length map.lists
  vertex_in = let e = ap length h.lists in let v = stacked_is.vertices in omega arith

  pub vertex_alone : list_of map.lists k ≡ []
  vertex_alone = ap (λ ls. list_of ls k) h.lists ∙ stacked_is.isolated k (omega arith)

  pub is_face : IsFaceOf map.lists f
  is_face = subst (λ ls. IsFaceOf ls f) (sym h.lists) (stacked_is.faces at in_at)

  module _ (i : ℕ) (choice : i ≡ chosen (next_number row) (length ids)) where
    at_is : i ≡ at
    at_is = choice ∙ ap₂ (λ r c. chosen (next_number r) c) h.row_is h.count

    pub in_ids : i < length ids
    in_ids = let some = some_face in omega arith

    pub face_darts : (d : FaceDarts) → HasDarts map (get_or ids i d) f
    face_darts d = subst (λ z. HasDarts map (get_or ids i d) (face_at s.faces z)) at_is (h.darts i d in_ids)

    -- MORE
    pub IsMade-more : (new : Map) (one two three : FaceDarts) → IsVertexPut map new k f one two three → IsMade (before n number (k + 1)) new ((set ids i one ++ two ∷ []) ++ three ∷ []) (next_number row)
    IsMade-more new one two three put =
        let grown = (set ids i one ++ two ∷ []) ++ three ∷ [] in
        let next : Stacking = stack k s in
        let total = length-separated_ids ids i one two three one in_ids in
        let faces = length-with_faces (λ g j. Unit {0}) s.faces at k in_at f in
        let made : IsMade next new grown (next_number row) = record {
          lists = put.lists ∙ ap (λ ls. with_vertex ls k f) h.lists;
          row_is = ap next_number h.row_is;
          count = let c = h.count in omega arith;
          darts = λ j d m.
              let c = h.count in
              let P : Face → ℕ → Type 0 = λ g x. HasDarts new (get_or grown x d) g in
              each_face P s.faces at k in_at f
              (subst (λ ids. HasDarts new ids (record { a = f.a; b = f.b; c = k })) (sym (ap (λ x. get_or grown x d) (sym at_is) ∙ id_here ids i one two three d in_ids)) put.of_ab)
              (subst (λ ids. HasDarts new ids (record { a = f.b; b = f.c; c = k })) (sym (id_next ids i one two three d in_ids (length s.faces) (sym c))) put.of_bc)
              (subst (λ ids. HasDarts new ids (record { a = f.c; b = f.a; c = k })) (sym (id_last ids i one two three d in_ids (length s.faces + 1) (omega arith))) put.of_ca)
              (λ x within ne.
              let old = h.darts x d (omega arith) in
              subst (λ ids. HasDarts new ids (face_at s.faces x)) (sym (id_other ids i one two three d in_ids x (omega arith) (λ e. ne (e ∙ at_is))))
              (record { ab = put.ids _ _ _ old.ab; bc = put.ids _ _ _ old.bc; ca = put.ids _ _ _ old.ca }))
              j (omega arith);
        } in
        subst (λ z. IsMade z new grown (next_number row)) (sym (before_next n number k some)) made
