use Rattle.std.proofs.Common.{ℕ, ◌/◌, List, length, ap, ◌∙◌, arith}
use Rattle.map_theory.proofs.DartLemmas.{length-darts}
use Rattle.pg_plane.specs.declared.figures.BarFigure.{BarFigure}
use Rattle.visibility.specs.Spans.{AreSides}
use Rattle.visibility.proofs.DrawerLemmas.{IsFaced, some_face, acyclic_arcs, are_sides, is_figure, is_biconnected}
use Rattle.visibility.proofs.bar_figures.drawer.DualTables.draw.Goals as goal
use Rattle.visibility.proofs.bar_figures.drawer.DualTables.draw.Goals.{After-deref-3}

-- what is known once the faces are counted
faced : (c : After-deref-3) → IsFaced c.args.map.now.lists.now c.args.map.now.twins.now c.args.map.now.t c.fill_places.new.ranges.from.items c.number_faces_into.new.tables.of.items c.number_faces_into.new.tables.arcs
faced c =
    let r = c.facts.ensures in
    let order = c.in_ok-fill_places.ensures.order in
    record {
      rooted = r;
      connected = c.requires.connected;
      at = order.0;
      order = order.1;
      faces = c.in_ok-number_faces_into.ensures.numbers;
      lead = rw c.deref-2.ensures.value at c.in_ok-number_faces_into.ensures.arcs;
      counted = omega (arith, c.if-len-map.false, c.len.ensures.is, c.len-2.ensures, ap (λ n. n / 2) (r.are_twins.count ∙ length-darts c.args.map.now.lists.now));
    }

pub first_of-base-requires : goal.first_of-base-requires
first_of-base-requires c = omega (arith, some_face _ _ _ _ _ _ (faced c), ap (λ (xs : List ℕ). length xs) c.deref-3.ensures.value)

pub find-requires-clause-acyclic : goal.find-requires-clause-acyclic
find-requires-clause-acyclic c =
    rw (c.first_of-base.ensures, c.deref-3.ensures.value) (acyclic_arcs _ _ _ _ _ _ (faced ((goal.at.find-requires-clause-acyclic c).After-deref-3)))

pub invariant_of-sides : goal.invariant_of-sides
invariant_of-sides c =
    let f = faced ((goal.at.invariant_of-sides c).After-deref-3) in
    let longest = rw (c.first_of-base.ensures, c.deref-3.ensures.value) at c.in_ok-find.ensures.longest in
    let known : AreSides c.args.map.now.lists.now c.deref-4.result.now c.deref-5.result.now c.args.map.now.twins.now c.deref-6.result.now = rw (c.deref-4.ensures.value, c.deref-5.ensures.value, c.deref-6.ensures.value) (are_sides _ _ _ _ _ _ f c.find.new.self.number.items longest) in
    record { sides = ∣ known ∣₁ }

pub returns : goal.returns
returns c =
    let f = faced ((goal.at.returns c).After-deref-3) in
    let longest = rw (c.first_of-base.ensures, c.deref-3.ensures.value) at c.in_ok-find.ensures.longest in
    let spanned = rw (c.deref-4.ensures.value, c.deref-5.ensures.value, c.deref-6.ensures.value) at c.in_ok-fill.ensures in
    let made : BarFigure = record { y = c.taken-y.result; x1 = c.taken-x1.result; x2 = c.taken-x2.result; column = c.taken-column.result } in (
      is_biconnected _ _ _ _ _ _ f c.requires.uncut,
      is_figure _ _ _ _ _ _ f c.find.new.self.number.items longest c.fill.new.self.columns.items c.fill.new.self.x1.items c.fill.new.self.x2.items spanned made
          (c.taken-y.ensures ∙ (rw c.deref-7.ensures.value at c.in_ok-fill_heights.ensures)) c.taken-column.ensures c.taken-x1.ensures c.taken-x2.ensures,
    )
