use Rattle.std.proofs.Common.{Bool, List, Contains, drop, length, sym, ap, subst, arith}
use Rattle.map_theory.specs.Maps.{Dart}
use Rattle.left_right_lists.specs.Trees.{AreSides}
use Rattle.left_right_lists.specs.Sides.{side_in, AreOrdered}
use Rattle.left_right_lists.proofs.SideLemmas.{few_ordered, lent_whole, places_in, answered_none, answered_some}
use Rattle.left_right_lists.proofs.side_tables.sides_of.Goals as goal

pub sides-requires-clause-few : goal.sides-requires-clause-few
sides-requires-clause-few c =
    let up = c.args.up.now in
    let h = c.requires.1 in
    let few = few_ordered up.darts.items 65280 h.ordered (places_in c.requires.0 _ _ _ _ _ h.tree up.darts.items h.darts h.ordered) in
    omega (arith, few, h.tree.few, h.tree.parents_long, ap length c.deref-3.ensures.value, ap length c.deref.ensures.value)

pub returns-in_default : goal.returns-in_default
returns-in_default c = λ graph h.
    let up = c.args.up.now in
    answered_none graph _ _ _ _ _ h.tree up.darts.items h.darts h.ordered (λ sides. sides.items) _ c.deref.ensures.value c.deref-2.ensures.value c.deref-3.ensures.value c.deref-4.ensures.value c.in_default.is c.in_ok-numbered.ensures

pub put_sides-requires-clause-ordered : goal.put_sides-requires-clause-ordered
put_sides-requires-clause-ordered c = subst AreOrdered (sym c.deref-5.ensures.value) c.requires.1.ordered

pub put_sides-requires-clause-placed : goal.put_sides-requires-clause-placed
put_sides-requires-clause-placed c = λ d has.
    let up = c.args.up.now in
    let h = c.requires.1 in
    let l = places_in c.requires.0 _ _ _ _ _ h.tree up.darts.items h.darts h.ordered d (subst (λ (ds : List Dart). Contains ds d) c.deref-5.ensures.value has) in
    omega (arith, l, c.deref_mut.ensures.len, c.in_ok-table.ensures.len)

pub returns : goal.returns
returns c = λ graph h.
    let up = c.args.up.now in
    let new = c.put_sides.new.table in
    subst (λ (xs : List Bool). AreSides graph up.tree.parents.items up.tree.depths.items (side_in xs)) (sym (lent_whole new (drop (length new) c.in_ok-table.table.items) c.in_ok-table.table.len (omega (arith, c.put_sides.auto.table, c.deref_mut.ensures.len))))
    (answered_some graph _ _ _ _ _ h.tree up.darts.items h.darts h.ordered (λ sides. sides.items) _ c.deref.ensures.value c.deref-2.ensures.value c.deref-3.ensures.value c.deref-4.ensures.value c.in-Some.numbered c.in-Some.is c.in_ok-numbered.ensures _ _ new c.deref-5.ensures.value c.deref-6.ensures.value c.put_sides.ensures.told)
