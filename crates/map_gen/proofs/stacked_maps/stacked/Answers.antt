use Rattle.std.proofs.Common.{◌≡◌, ◌-◌, arith, ap, ap₂, ◌∙◌, sym, subst, List, [], ◌∷◌, ◌++◌, length}
use Rattle.map_lists.specs.Lists.{Lists}
use Rattle.map_theory.specs.Maps.{IsSimpleMap}
use Rattle.map_gen.specs.Stacked.{triangle, chosen, next_number}
use Rattle.map_gen.specs.Faces.{IsFaceOf}
use Rattle.map_gen.specs.Darts.{HasDarts}
use Rattle.map_gen.specs.declared.stacked_maps.FaceDarts.{FaceDarts}
use Rattle.map_gen.proofs.Start as start
use Rattle.map_gen.proofs.Making.{IsMade-begin, IsMade-more, some_face, vertex_in, vertex_alone, face_darts, is_face, f}
use Rattle.map_gen.proofs.stacked_maps.stacked.Goals as goal

pub from_simple-requires : goal.from_simple-requires
from_simple-requires c = record { simple = subst IsSimpleMap (sym (c.in_ok-start.ensures 0)) (start.simple (c.args.n - 3)) }

pub inner_face-requires : goal.inner_face-requires
inner_face-requires c =
    let is : c.reserve_edges.new.self.lists ≡ start.lists (c.args.n - 3) = c.in_ok-reserve_edges.ensures.lists ∙ (c.in_ok-map.ensures.lists ∙ c.in_ok-start.ensures 0) in
    subst (λ (ls : Lists). IsFaceOf ls (record { a = 0; b = 2; c = 1 })) (sym is) (start.inner (c.args.n - 3))

pub loop-k-init : goal.loop-k-init
loop-k-init c =
    let number = c.args.number in
    let is : c.reserve_edges.new.self.lists ≡ (triangle c.args.n number).lists = c.in_ok-reserve_edges.ensures.lists ∙ (c.in_ok-map.ensures.lists ∙ c.in_ok-start.ensures number) in
    record {
      some = omega arith;
      most = omega arith;
      room = omega (arith, c.in_ok-reserve_edges.ensures.spare, c.in_ok-map.ensures.spare);
      made = rw (c.in_ok-push.ensures.items, c.new-faces.ensures.items) (IsMade-begin c.args.n number c.reserve_edges.new.self c.inner_face.result is c.inner_face.ensures);
    }

pub chosen-i-requires : goal.chosen-i-requires
chosen-i-requires c =
    let h = c.loop-k.invariant in
    omega (arith, some_face c.args.n c.args.number c.loop-k.k c.loop-k.map c.loop-k.faces.items c.loop-k.row h.some c.loop-k-test.true h.made)

pub put_vertex-parts-requires-clause-vertex : goal.put_vertex-parts-requires-clause-vertex
put_vertex-parts-requires-clause-vertex c =
    let h = c.loop-k.invariant in
    vertex_in c.args.n c.args.number c.loop-k.k c.loop-k.map c.loop-k.faces.items c.loop-k.row h.some c.loop-k-test.true h.made

pub put_vertex-parts-requires-clause-alone : goal.put_vertex-parts-requires-clause-alone
put_vertex-parts-requires-clause-alone c =
    let h = c.loop-k.invariant in
    vertex_alone c.args.n c.args.number c.loop-k.k c.loop-k.map c.loop-k.faces.items c.loop-k.row h.some c.loop-k-test.true h.made

pub put_vertex-parts-requires-clause-face : goal.put_vertex-parts-requires-clause-face
put_vertex-parts-requires-clause-face c =
    let h = c.loop-k.invariant in
    let ids = c.loop-k.faces.items in
    let len : c.len.result ≡ length ids = omega (arith, c.loop-k.faces.ok.0) in
    let choice : c.chosen-i.result ≡ chosen (next_number c.loop-k.row) (length ids) = c.chosen-i.ensures.is ∙ ap₂ chosen c.next_number-row.ensures len in
    let darts = face_darts c.args.n c.args.number c.loop-k.k c.loop-k.map c.loop-k.faces.items c.loop-k.row h.some c.loop-k-test.true h.made c.chosen-i.result choice c.index.result.now in (
      f c.args.n c.args.number c.loop-k.k c.loop-k.map c.loop-k.faces.items c.loop-k.row h.some c.loop-k-test.true h.made,
      subst (λ (d : FaceDarts). HasDarts c.loop-k.map d (f c.args.n c.args.number c.loop-k.k c.loop-k.map c.loop-k.faces.items c.loop-k.row h.some c.loop-k-test.true h.made)) (sym c.index.ensures) darts,
      is_face c.args.n c.args.number c.loop-k.k c.loop-k.map c.loop-k.faces.items c.loop-k.row h.some c.loop-k-test.true h.made,
    )

pub loop-k-preserved : goal.loop-k-preserved
loop-k-preserved c =
    let h = c.loop-k.invariant in
    let some = h.some in
    let room = h.room in
    let ids = c.loop-k.faces.items in
    let len : c.len.result ≡ length ids = omega (arith, c.loop-k.faces.ok.0) in
    let choice : c.chosen-i.result ≡ chosen (next_number c.loop-k.row) (length ids) = c.chosen-i.ensures.is ∙ ap₂ chosen c.next_number-row.ensures len in
    let darts = face_darts c.args.n c.args.number c.loop-k.k c.loop-k.map c.loop-k.faces.items c.loop-k.row h.some c.loop-k-test.true h.made c.chosen-i.result choice c.index.result.now in
    let here : HasDarts c.loop-k.map c.index.result.now (f c.args.n c.args.number c.loop-k.k c.loop-k.map c.loop-k.faces.items c.loop-k.row h.some c.loop-k-test.true h.made) = subst (λ (d : FaceDarts). HasDarts c.loop-k.map d (f c.args.n c.args.number c.loop-k.k c.loop-k.map c.loop-k.faces.items c.loop-k.row h.some c.loop-k-test.true h.made)) (sym c.index.ensures) darts in
    let put = c.put_vertex-parts.ensures.put (f c.args.n c.args.number c.loop-k.k c.loop-k.map c.loop-k.faces.items c.loop-k.row h.some c.loop-k-test.true h.made) here in
    let made = IsMade-more c.args.n c.args.number c.loop-k.k c.loop-k.map c.loop-k.faces.items c.loop-k.row h.some c.loop-k-test.true h.made c.chosen-i.result choice c.put_vertex-parts.new.map c.put_vertex-parts.result.0 c.put_vertex-parts.result.1 c.put_vertex-parts.result.2 put in
    let items = c.in_ok-push-3.ensures.items ∙ ap (λ (xs : List FaceDarts). xs ++ c.put_vertex-parts.result.2 ∷ []) c.in_ok-push-2.ensures.items in
    record {
      some = omega arith;
      most = omega (arith, c.loop-k-test.true);
      room = omega (arith, c.put_vertex-parts.ensures.spare);
      made = rw (items, c.next_number-row.ensures) made;
    }
