use Rattle.std.proofs.Common.{refl, ◌+◌, List, ℕ, sym, ap, ◌∙◌, subst, arith}
use Rattle.std.specs.Prelude.{slice_range}
use Rattle.std.proofs.lemmas.List.{get_or_default}
use Rattle.convex_orders.specs.declared.count_direction.Way.TheVariants.{Goes}
use Rattle.convex_orders.specs.Contours.{vertices_of, AreInner}
use Rattle.convex_orders.specs.Moved.{CanMoveAll, AreMoved}
use Rattle.convex_orders.proofs.Outs.{inner_prefix, can_go, gone_all, taken_out}
use Rattle.convex_orders.proofs.removals.RowTables.take_out.Goals as goal

pub invariant_of-stretch-clause-numbered : goal.invariant_of-stretch-clause-numbered
invariant_of-stretch-clause-numbered c =
    let t = c.args.tables.now in
    let s = c.args.self.now in
    let now = c.move_to.new.self in
    let prefix = inner_prefix (vertices_of s.contour) now.left.items now.right.items c.in_ok-move_to.ensures.same t.lists t.faces.own s.rims.inner.items c.requires.kept.inner in
    ∣ subst (λ (z : List ℕ). AreInner t.lists t.faces.own z c.deref.result.now) (sym c.deref-2.ensures.value) (subst (AreInner t.lists t.faces.own now.left.items) (sym c.deref.ensures.value) prefix) ∣₁

pub move_part-requires-clause-can : goal.move_part-requires-clause-can
move_part-requires-clause-can c =
    let t = c.args.tables.now in
    let s = c.args.self.now in
    let now = c.move_to.new.self in
    subst (λ (z : List ℕ). CanMoveAll t.lists t.faces.own t.faces.count Goes z c.args.first c.args.end s.counts) (sym c.deref-2.ensures.value)
    (can_go (vertices_of s.contour) now.left.items now.right.items c.in_ok-move_to.ensures.same t.lists t.faces.own t.faces.count c.args.first c.args.end c.requires.order (omega (arith, c.in_ok-move_to.ensures.long)) s.counts c.requires.kept.counts)

pub returns-clause-out : goal.returns-clause-out
returns-clause-out c =
    let now = c.move_to.new.self in
    let news = c.part.ensures ∙ ap (λ (z : List ℕ). slice_range z (c.args.first + 1) c.args.end) c.deref-3.ensures.value in
    taken_out (vertices_of c.args.self.now.contour) now.left.items now.right.items c.in_ok-move_to.ensures.same c.args.first c.args.end _ c.requires.order c.in_ok-move_to.ensures.long (c.index-x.ensures ∙ get_or_default now.left.items c.args.end _ 0 (omega (arith, c.in_ok-move_to.ensures.long))) _ c.part.result.now c.truncate.ensures.items news c.args.self.now.rows (record { rows = c.args.self.now.rows.rows; cuts = c.args.self.now.rows.cuts; news = c.push.new.self }) (refl, refl, c.in_ok-push.ensures.ok)

pub returns-clause-counts : goal.returns-clause-counts
returns-clause-counts c =
    let t = c.args.tables.now in
    let s = c.args.self.now in
    let now = c.move_to.new.self in
    gone_all (vertices_of s.contour) now.left.items now.right.items c.in_ok-move_to.ensures.same t.lists t.faces.own t.faces.count c.args.first c.args.end c.requires.order (omega (arith, c.in_ok-move_to.ensures.long)) Goes s.counts c.move_part.new.self
    (subst (λ (z : List ℕ). AreMoved t.lists t.faces.own t.faces.count Goes z c.args.first c.args.end s.counts c.move_part.new.self) c.deref-2.ensures.value c.move_part.ensures)
