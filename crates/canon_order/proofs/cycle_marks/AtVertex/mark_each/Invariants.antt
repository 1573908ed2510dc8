use Rattle.std.proofs.Common.{◌≡◌, ◌⊎◌, ◌↔◌, ℕ, true, false, take, Contains}
use Rattle.canon_order.specs.Marks.{is_set, IsNoted}
use Rattle.canon_order.proofs.cycle_marks.AtVertex.mark_each.Given as goal

abbrev pub invariant-loop-u : goal.invariant-loop-u
invariant-loop-u l = record {
  noted : IsNoted l.self.lists.now l.initial.marked l.initial.near l.initial.stack.items l.marked l.near l.stack.items;
  marks : (u : ℕ) → (is_set l.marked u ≡ true) ↔ ((is_set l.initial.marked u ≡ true) ⊎ (Contains (take l.u-index l.fresh) u × (is_set l.self.gone.now u ≡ false)));
}
