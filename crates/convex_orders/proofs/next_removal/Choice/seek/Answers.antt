use Rattle.std.proofs.Common.{◌≡◌, ◌-◌, refl, suc, inl, inr, sym, ap, ◌∙◌, subst, length, arith}
use Rattle.std.proofs.lemmas.Bool.{cases_eq, true≢false}
use Rattle.map_theory.specs.Maps.{list_of}
use Rattle.convex_orders.specs.Contours.{vertices_of}
use Rattle.convex_orders.specs.Splits.{IsRemovableRow}
use Rattle.convex_orders.proofs.Moves.{length-contour, last_left}
use Rattle.convex_orders.proofs.next_removal.Choice.seek.Goals as goal

pub is_removable-requires : goal.is_removable-requires
is_removable-requires c =
    let left = c.loop.contour.left.items in
    let e : suc (c.len.result - 1) ≡ length left = omega (arith, c.len.ensures, c.loop.invariant.long, c.loop-test.true, c.len-end.ensures) in
    let at = last_left left c.loop.contour.right.items (vertices_of c.args.contour.now) _ _ c.index-v.result.now _ e refl c.loop.invariant.same c.index-v.ensures in
    omega (arith, at, c.requires.vertices (c.len.result - 1) (omega (arith, e, length-contour left c.loop.contour.right.items, ap length c.loop.invariant.same)))

pub loop-preserved : goal.loop-preserved
loop-preserved c =
    let faces = c.args.self.now.map.tables.now.faces in
    let counts = c.args.self.now.counts.now in
    let left = c.loop.contour.left.items in
    let s = c.in_ok-step_back.ensures in
    record {
      same = s.same ∙ c.loop.invariant.same;
      long = omega (arith, c.loop.invariant.long, s.long);
      behind = omega (arith, s.more);
      none = λ j is l. elim (cases_eq (suc j) (length left)) [
        | inl e ↦
            let at = last_left left c.loop.contour.right.items (vertices_of c.args.contour.now) j _ c.index-v.result.now _ e (omega (arith, e, c.len.ensures)) c.loop.invariant.same c.index-v.ensures in
            absurd (true≢false (sym (c.is_removable.ensures.1 (subst (λ v. IsRemovableRow (list_of faces.own v) (list_of faces.other v) c.args.self.now.map.marks.now counts.places.items counts.edges.items) at is.removable)) ∙ c.if-is_removable.false))
        | inr ne ↦ omega (arith, ne, c.loop.invariant.none j is l, s.long)
      ];
    }
