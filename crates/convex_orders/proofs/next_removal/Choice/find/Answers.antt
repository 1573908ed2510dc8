use Rattle.std.proofs.Common.{ℕ, List, inl, inr, length, sym, ap, ◌∙◌, subst, arith}
use Rattle.std.proofs.lemmas.Bool.{cases_Bool}
use Rattle.convex_orders.specs.Splits.{IsRemovablePlace}
use Rattle.convex_orders.proofs.Moves.{length-contour}
use Rattle.convex_orders.proofs.next_removal.Choice.find.Goals as goal

pub overflow_sub-last : goal.overflow_sub-last
overflow_sub-last c = omega (arith, c.len-last.ensures, c.requires.removable.1.before)

pub returns-then-branch-clause-found : goal.returns-then-branch-clause-found
returns-then-branch-clause-found c = λ j e.
    let t = c.args.self.now.map.tables.now.faces in
    let counts = c.args.self.now.counts.now in
    subst (λ (z : List ℕ). IsRemovablePlace t.own t.other c.args.self.now.map.marks.now counts.places.items counts.edges.items z j) c.in_ok-move_to.ensures.same (c.in_ok-seek.ensures.found c.if-branch.true j e)

pub returns-clause-found : goal.returns-clause-found
returns-clause-found c = λ j e.
    let t = c.args.self.now.map.tables.now.faces in
    let counts = c.args.self.now.counts.now in
    let same = c.in_ok-move_to-2.ensures.same ∙ (c.in_ok-seek.ensures.same ∙ c.in_ok-move_to.ensures.same) in
    elim (cases_Bool c.in_ok-_found._found) [
      | inl yes' ↦ subst (λ (z : List ℕ). IsRemovablePlace t.own t.other c.args.self.now.map.marks.now counts.places.items counts.edges.items z j) same (c.in_ok-_found.ensures.found yes' j e)
      | inr no' ↦
          let removable = c.requires.removable in
          let l = c.in_ok-_found.ensures.none no' removable.0 (subst (λ (z : List ℕ). IsRemovablePlace t.own t.other c.args.self.now.map.marks.now counts.places.items counts.edges.items z removable.0) (sym same) removable.1) in
          absurd (omega (arith, l, c.len-last.ensures, removable.1.before, c.in_ok-move_to-2.ensures.long))
    ]

pub move_to-requires-2 : goal.move_to-requires-2
move_to-requires-2 c = omega (arith, c.len-last.ensures, length-contour c.seek.new.contour.left.items c.seek.new.contour.right.items, ap length c.in_ok-seek.ensures.same, ap length c.in_ok-move_to.ensures.same)
