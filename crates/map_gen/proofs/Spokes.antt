-- The three edges of a vertex that is put into a face, under the ids of their darts.
use Rattle.std.proofs.Common.{◌≡◌, ◌≢◌, ℕ, ◌+◌, ◌<◌, [], ◌∷◌, length, set, Option, Some, None, option_map, refl, sym, ap, ap₂, ◌∙◌, subst}
use Rattle.std.specs.List.{insert}
use Rattle.std.proofs.lemmas.Option.{some_pair_parts}
use Rattle.map_lists.specs.Lists.{Lists}
use Rattle.map_lists.specs.declared.ids.DartId.{DartId}
use Rattle.map_lists.specs.declared.ids.VertexId.{VertexId}
use Rattle.map_theory.specs.Maps.{Dart, list_of, place_of, HasDart, IsSimpleMap, twin_dart}
use Rattle.half_edges.specs.Map.{Map, dart_at}
use Rattle.half_edges.specs.Edges.{with_edge, corner_place}
use Rattle.half_edges.specs.declared.edge_edits.Corner.{Corner}
use Rattle.half_edges.specs.declared.edge_edits.Corner.TheVariants.{After, Only}
use Rattle.map_gen.specs.Stacked.{Face}
use Rattle.map_gen.specs.Faces.{IsFaceOf}
use Rattle.map_gen.specs.Darts.{HasDarts, IsVertexPut}
use Rattle.map_gen.specs.declared.stacked_maps.FaceDarts.{FaceDarts}
use Rattle.map_gen.proofs.VertexPut.{first, second, third_is, far2, far3, not_to_k, b_k, c_k}

-- the place of a corner behind a dart
corner_at : (map : Map) (d : DartId) (u a : ℕ) → dart_at map d.0 ≡ Some (u, a) → corner_place map (After d) ≡ Some (u, Some a)
corner_at map d u a e = ap (λ o. option_map (λ (dart : Dart). (dart.0, Some dart.1)) o) e

vertex_is : (map : Map) (d : DartId) (u a v : ℕ) (b : Option ℕ) → dart_at map d.0 ≡ Some (u, a) → corner_place map (After d) ≡ Some (v, b) → u ≡ v
vertex_is map d u a v b e q = (some_pair_parts u v (Some a) b (sym (corner_at map d u a e) ∙ q)).0

-- e has the twin of the dart of d
abbrev pub IsTwin : Map → DartId → DartId → Type 0
IsTwin map d e = dart_at map e.0 ≡ option_map twin_dart (dart_at map d.0)

twin_at : (map : Map) (d e : DartId) (u v : ℕ) → IsTwin map d e → dart_at map d.0 ≡ Some (u, v) → dart_at map e.0 ≡ Some (v, u)
twin_at map d e u v q at = q ∙ ap (option_map twin_dart) at

-- ids have the darts of one face
pub one_face : (map : Map) (ids : FaceDarts) (f g : Face) → HasDarts map ids f → HasDarts map ids g → f ≡ g
one_face map ids f g h h' =
    let ends = some_pair_parts f.a g.a f.b g.b (sym h.ab ∙ h'.ab) in
    let third = some_pair_parts f.b g.b f.c g.c (sym h.bc ∙ h'.bc) in
    ap₂ (λ (x : ℕ) (p : ℕ × ℕ). let z : Face = record { a = x; b = p.0; c = p.1 } in z) ends.0 (ap₂ (λ (x y : ℕ). (x, y)) ends.1 third.1)

-- what an edge between two corners leaves: its lists, its dart, and that old darts keep their ids
abbrev pub PutsLists : Map → Map → Corner → Corner → Type 0
PutsLists old new c e =
    (u v : ℕ) (a b : Option ℕ) → corner_place old c ≡ Some (u, a) → corner_place old e ≡ Some (v, b) → new.lists ≡ with_edge old.lists u a v b

abbrev pub PutsDart : Map → Map → Corner → Corner → DartId → Type 0
PutsDart old new c e d =
    (u v : ℕ) (a b : Option ℕ) → corner_place old c ≡ Some (u, a) → corner_place old e ≡ Some (v, b) → dart_at new d.0 ≡ Some (u, v)

abbrev pub AreKept : Map → Map → Type 0
AreKept old new = (e v u : ℕ) → dart_at old e ≡ Some (v, u) → dart_at new e ≡ Some (v, u)

-- the new map has these lists, and its two ids the darts of an edge between u and k
pub record IsSpoke (old new : Map) (lists : Lists) (u k : ℕ) (out back : DartId) : Type 0 where
  pub lists_are : new.lists ≡ lists
  pub ids : AreKept old new
  pub at_out : dart_at new out.0 ≡ Some (u, k)
  pub at_back : dart_at new back.0 ≡ Some (k, u)

-- ids have the darts of a face, and k is isolated
pub record IsReady (map : Map) (ids : FaceDarts) (k : VertexId) (f : Face) : Type 0 where
  pub darts : HasDarts map ids f
  pub face : IsFaceOf map.lists f
  pub simple : IsSimpleMap map.lists
  pub vertex : k.0 < length map.lists
  pub alone : list_of map.lists k.0 ≡ []

pub ready : (map : Map) (ids : FaceDarts) (k : VertexId) (f : Face) → HasDarts map ids f → IsFaceOf map.lists f → IsSimpleMap map.lists → k.0 < length map.lists → list_of map.lists k.0 ≡ [] → IsReady map ids k f
ready map ids k f darts face simple vertex alone = record { darts = darts; face = face; simple = simple; vertex = vertex; alone = alone }

module _ (map : Map) (ids : FaceDarts) (k : VertexId) (f : Face) (r : IsReady map ids k f) where
  abbrev pub with_first : Lists
  with_first = first map.lists k.0 f r.simple r.face r.vertex r.alone

  abbrev pub with_second : Lists
  with_second = second map.lists k.0 f r.simple r.face r.vertex r.alone

  first_is : with_edge map.lists f.a (Some f.c) k.0 None ≡ with_first
  first_is =
      let ls = set map.lists f.a (insert (list_of map.lists f.a) (place_of f.c (list_of map.lists f.a) + 1) k.0) in
      ap (set ls k.0) (ap (λ us. f.a ∷ us) r.alone ∙ sym (ap (λ us. insert us 0 f.a) r.alone))

  -- the edge from a, behind c
  module _ (at : DartId) (twin : IsTwin map ids.c at) where
    behind_c : dart_at map at.0 ≡ Some (f.a, f.c)
    behind_c = twin_at map ids.c at f.c f.a twin r.darts.ca

    pub far_a : (u v : ℕ) (a b : Option ℕ) → corner_place map (After at) ≡ Some (u, a) → corner_place map (Only k) ≡ Some (v, b) → ¬ HasDart map.lists u v
    far_a u v a b e e' has =
        not_to_k map.lists k.0 f r.simple r.face r.vertex r.alone f.a
        (subst (λ x. HasDart map.lists x k.0) (sym (vertex_is map at f.a f.c u a behind_c e)) (subst (HasDart map.lists u) (sym (some_pair_parts k.0 v None b e').0) has))

    pub spoke_a : (new : Map) (out back : DartId) → PutsLists map new (After at) (Only k) → PutsDart map new (After at) (Only k) out → AreKept map new → IsTwin new out back → IsSpoke map new with_first f.a k.0 out back
    spoke_a new out back lists dart kept twin' =
        let corner = corner_at map at f.a f.c behind_c in
        let at_out = dart f.a k.0 (Some f.c) None corner refl in
        record {
          lists_are = lists f.a k.0 (Some f.c) None corner refl ∙ first_is;
          ids = kept;
          at_out = at_out;
          at_back = twin_at new out back f.a k.0 twin' at_out;
        }

  -- the edge from c, behind b
  module _ (one : Map) (out_a back_a : DartId) (h : IsSpoke map one with_first f.a k.0 out_a back_a) (at : DartId) (twin : IsTwin map ids.b at) where
    behind_b : dart_at one at.0 ≡ Some (f.c, f.b)
    behind_b = h.ids at.0 f.c f.b (twin_at map ids.b at f.b f.c twin r.darts.bc)

    pub two_c : (u v : ℕ) (a b : Option ℕ) → corner_place one (After at) ≡ Some (u, a) → corner_place one (After back_a) ≡ Some (v, b) → u ≢ v
    two_c u v a b e e' q = c_k map.lists k.0 f r.simple r.face r.vertex r.alone (vertex_is one at f.c f.b u a behind_b e ∙ (q ∙ sym (vertex_is one back_a k.0 f.a v b h.at_back e')))

    pub far_c : (u v : ℕ) (a b : Option ℕ) → corner_place one (After at) ≡ Some (u, a) → corner_place one (After back_a) ≡ Some (v, b) → ¬ HasDart one.lists u v
    far_c u v a b e e' has =
        far2 map.lists k.0 f r.simple r.face r.vertex r.alone
        (subst (λ ls. HasDart ls f.c k.0) h.lists_are (subst (λ x. HasDart one.lists x k.0) (sym (vertex_is one at f.c f.b u a behind_b e)) (subst (HasDart one.lists u) (sym (vertex_is one back_a k.0 f.a v b h.at_back e')) has)))

    pub spoke_c : (new : Map) (out back : DartId) → PutsLists one new (After at) (After back_a) → PutsDart one new (After at) (After back_a) out → AreKept one new → IsTwin new out back → IsSpoke one new with_second f.c k.0 out back
    spoke_c new out back lists dart kept twin' =
        let corner = corner_at one at f.c f.b behind_b in
        let hub = corner_at one back_a k.0 f.a h.at_back in
        let at_out = dart f.c k.0 (Some f.b) (Some f.a) corner hub in
        record {
          lists_are = lists f.c k.0 (Some f.b) (Some f.a) corner hub ∙ ap (λ ls. with_edge ls f.c (Some f.b) k.0 (Some f.a)) h.lists_are;
          ids = kept;
          at_out = at_out;
          at_back = twin_at new out back f.c k.0 twin' at_out;
        }

    -- the edge from b, behind a
    module _ (two : Map) (out_c back_c : DartId) (h' : IsSpoke one two with_second f.c k.0 out_c back_c) (at_b : DartId) (twin_b : IsTwin map ids.a at_b) where
      behind_a : dart_at two at_b.0 ≡ Some (f.b, f.a)
      behind_a = h'.ids at_b.0 f.b f.a (h.ids at_b.0 f.b f.a (twin_at map ids.a at_b f.a f.b twin_b r.darts.ab))

      pub two_b : (u v : ℕ) (a b : Option ℕ) → corner_place two (After at_b) ≡ Some (u, a) → corner_place two (After back_c) ≡ Some (v, b) → u ≢ v
      two_b u v a b e e' q = b_k map.lists k.0 f r.simple r.face r.vertex r.alone (vertex_is two at_b f.b f.a u a behind_a e ∙ (q ∙ sym (vertex_is two back_c k.0 f.c v b h'.at_back e')))

      pub far_b : (u v : ℕ) (a b : Option ℕ) → corner_place two (After at_b) ≡ Some (u, a) → corner_place two (After back_c) ≡ Some (v, b) → ¬ HasDart two.lists u v
      far_b u v a b e e' has =
          far3 map.lists k.0 f r.simple r.face r.vertex r.alone
          (subst (λ ls. HasDart ls f.b k.0) h'.lists_are (subst (λ x. HasDart two.lists x k.0) (sym (vertex_is two at_b f.b f.a u a behind_a e)) (subst (HasDart two.lists u) (sym (vertex_is two back_c k.0 f.c v b h'.at_back e')) has)))

      -- and all three
      pub vertex_put : (new : Map) (out_b back_b : DartId) → PutsLists two new (After at_b) (After back_c) → PutsDart two new (After at_b) (After back_c) out_b → AreKept two new → IsTwin new out_b back_b → (g : Face) → HasDarts map ids g → IsVertexPut map new k.0 g (record { a = ids.a; b = out_b; c = back_a }) (record { a = ids.b; b = out_c; c = back_b }) (record { a = ids.c; b = out_a; c = back_c })
      vertex_put new out_b back_b lists dart kept twin' g same =
          let corner = corner_at two at_b f.b f.a behind_a in
          let hub = corner_at two back_c k.0 f.c h'.at_back in
          let at_out = dart f.b k.0 (Some f.a) (Some f.c) corner hub in
          let on : AreKept one new = λ e v u q. kept e v u (h'.ids e v u q) in
          let all : AreKept map new = λ e v u q. on e v u (h.ids e v u q) in
          let put : IsVertexPut map new k.0 f (record { a = ids.a; b = out_b; c = back_a }) (record { a = ids.b; b = out_c; c = back_b }) (record { a = ids.c; b = out_a; c = back_c }) = record {
            lists = lists f.b k.0 (Some f.a) (Some f.c) corner hub ∙ (ap (λ ls. with_edge ls f.b (Some f.a) k.0 (Some f.c)) h'.lists_are ∙ third_is map.lists k.0 f r.simple r.face r.vertex r.alone);
            ids = all;
            of_ab = record { ab = all ids.a.0 f.a f.b r.darts.ab; bc = at_out; ca = on back_a.0 k.0 f.a h.at_back };
            of_bc = record { ab = all ids.b.0 f.b f.c r.darts.bc; bc = kept out_c.0 f.c k.0 h'.at_out; ca = twin_at new out_b back_b f.b k.0 twin' at_out };
            of_ca = record { ab = all ids.c.0 f.c f.a r.darts.ca; bc = on out_a.0 f.a k.0 h.at_out; ca = kept back_c.0 k.0 f.c h'.at_back };
          } in
          subst (λ x. IsVertexPut map new k.0 x (record { a = ids.a; b = out_b; c = back_a }) (record { a = ids.b; b = out_c; c = back_b }) (record { a = ids.c; b = out_a; c = back_c })) (one_face map ids f g r.darts same) put
