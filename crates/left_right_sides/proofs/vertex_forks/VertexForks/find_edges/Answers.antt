use Rattle.std.proofs.Common.{◌+◌, ◌∷◌, ℕ, List, length, slice_index, Contains, refl, sym, ap₂, ◌∙◌, subst, arith}
use Rattle.left_right_blocks.specs.declared.fork_edges.ForkEdge.{ForkEdge}
use Rattle.left_right_sides.specs.Views.{rooted_by, AreFoundTo, MatchLooked}
use Rattle.left_right_sides.proofs.Items.{popped_none}
use Rattle.left_right_sides.proofs.Searching.{none_looked}
use Rattle.left_right_sides.proofs.Taken.{popped_step, taken_none, taken_some, found_when_none, found_when_full, but_when_none}
use Rattle.left_right_sides.proofs.vertex_forks.VertexForks.find_edges.Goals as goal

pub loop-init : goal.loop-init
loop-init c = record {
  alike = record { edges = refl; count = refl };
  numbers = refl;
  popped = λ lists0 held. (lists0, popped_none lists0 (c.stacks.result + c.from.result) c.args.items.now held);
  found = λ edge number root k P lists0 t s st next held whole.
      let r = rooted_by edge number c.args.self.now.parents.now c.args.self.now.depths.now c.args.self.now.darts.now c.args.self.now.heights.now in
      (lists0, (popped_none lists0 (c.stacks.result + c.from.result) c.args.items.now held, subst (λ (ds : List ForkEdge). AreFoundTo r c.args.v P c.args.blocks.now.ties.items c.args.blocks.now ds (lists0 (c.stacks.result + c.from.result))) (sym c.new-found.ensures.items) (none_looked r root k c.args.v (slice_index c.args.lows.now) P c.args.blocks.now.ties.items t st next c.args.blocks.now c.args.blocks.now.ties.items (lists0 (c.stacks.result + c.from.result)) s refl whole)));
}

pub returns-in_default-clause-kept : goal.returns-in_default-clause-kept
returns-in_default-clause-kept c = λ lists held.
    but_when_none lists _ _ c.loop.counter c.loop.items c.pop.new.self (ap₂ ◌+◌ c.stacks.ensures c.from.ensures) c.in_default.ensures.popped (c.loop.invariant.popped lists held)

pub returns-in_default-clause-found : goal.returns-in_default-clause-found
returns-in_default-clause-found c = λ edge number root k P lists t s st next held whole.
    let r = rooted_by edge number c.args.self.now.parents.now c.args.self.now.depths.now c.args.self.now.darts.now c.args.self.now.heights.now in
    let at = ap₂ ◌+◌ c.stacks.ensures c.from.ensures in
    found_when_none r c.args.v P c.args.blocks.now.ties.items lists _ c.loop.counter c.loop.items c.pop.new.self c.loop.blocks c.loop.found.items c.in_default.ensures.popped
    (c.loop.invariant.found edge number root k P lists t s st next held (λ p o. subst (λ z. Contains (lists z) p) (sym at) (whole p o)))

pub loop-preserved-in_default-2 : goal.loop-preserved-in_default-2
loop-preserved-in_default-2 c = record {
  alike = record { edges = c.edge_of.ensures.alike.edges ∙ c.loop.invariant.alike.edges; count = c.edge_of.ensures.alike.count ∙ c.loop.invariant.alike.count };
  numbers = c.pop.ensures.numbers ∙ c.loop.invariant.numbers;
  popped = λ lists0 held. popped_step lists0 (c.stacks.result + c.from.result) c.loop.counter c.in-Some.p c.loop.items c.pop.new.self c.in-Some.ensures.popped (c.loop.invariant.popped lists0 held);
  found = λ edge number root k P lists0 t s st next held whole.
      let r = rooted_by edge number c.args.self.now.parents.now c.args.self.now.depths.now c.args.self.now.darts.now c.args.self.now.heights.now in
      let ties = c.args.blocks.now.ties.items in
      let now = c.loop.invariant.found edge number root k P lists0 t s st next held whole in
      taken_none r c.args.v P ties lists0 (c.stacks.result + c.from.result) c.loop.counter c.in-Some.p c.loop.items c.pop.new.self c.in-Some.ensures.popped c.loop.blocks c.edge_of.new.blocks c.loop.found.items now c.in_ok-edge.field-0
      (subst (λ z. (left : List ℕ) → ¬ Contains left z → AreFoundTo r c.args.v P ties c.loop.blocks c.loop.found.items (z ∷ left) → MatchLooked r c.args.v P ties c.edge_of.new.blocks c.loop.found.items left c.in_ok-edge.field-0) c.from-in-loop.ensures
      (λ left. c.in_ok-edge.ensures.found edge number root k P ties c.loop.found.items left t st next)) c.in_default-2.is;
}

pub loop-preserved : goal.loop-preserved
loop-preserved c = record {
  alike = record { edges = c.edge_of.ensures.alike.edges ∙ c.loop.invariant.alike.edges; count = c.edge_of.ensures.alike.count ∙ c.loop.invariant.alike.count };
  numbers = c.pop.ensures.numbers ∙ c.loop.invariant.numbers;
  popped = λ lists0 held. popped_step lists0 (c.stacks.result + c.from.result) c.loop.counter c.in-Some.p c.loop.items c.pop.new.self c.in-Some.ensures.popped (c.loop.invariant.popped lists0 held);
  found = λ edge number root k P lists0 t s st next held whole.
      let r = rooted_by edge number c.args.self.now.parents.now c.args.self.now.depths.now c.args.self.now.darts.now c.args.self.now.heights.now in
      let ties = c.args.blocks.now.ties.items in
      let now = c.loop.invariant.found edge number root k P lists0 t s st next held whole in
      taken_some r c.args.v P ties lists0 (c.stacks.result + c.from.result) c.loop.counter c.in-Some.p c.loop.items c.pop.new.self c.in-Some.ensures.popped c.loop.blocks c.edge_of.new.blocks c.loop.found.items now c.in_ok-edge.field-0
      (subst (λ z. (left : List ℕ) → ¬ Contains left z → AreFoundTo r c.args.v P ties c.loop.blocks c.loop.found.items (z ∷ left) → MatchLooked r c.args.v P ties c.edge_of.new.blocks c.loop.found.items left c.in_ok-edge.field-0) c.from-in-loop.ensures
      (λ left. c.in_ok-edge.ensures.found edge number root k P ties c.loop.found.items left t st next)) c.in-Some-2.edge c.insert_nested.new.edges.items c.in-Some-2.is c.in_ok-insert_nested.ensures;
}

pub returns-clause-found : goal.returns-clause-found
returns-clause-found c = λ edge number root k P lists t s st next held whole.
    let r = rooted_by edge number c.args.self.now.parents.now c.args.self.now.depths.now c.args.self.now.darts.now c.args.self.now.heights.now in
    let at = ap₂ ◌+◌ c.stacks.ensures c.from.ensures in
    found_when_full r c.args.v P c.args.blocks.now.ties.items lists (c.stacks.result + c.from.result) c.loop.counter (length c.args.self.now.darts.now + length c.args.self.now.parents.now) c.args.items.now c.loop.items c.loop.blocks c.loop.found.items held c.requires (omega (arith, c.loop-test.false, c.stacks-end.ensures, c.loop.auto.counter-end))
    (c.loop.invariant.found edge number root k P lists t s st next held (λ p o. subst (λ z. Contains (lists z) p) (sym at) (whole p o)))
