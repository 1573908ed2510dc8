use Rattle.std.proofs.Common.{false, get_or, ◌∙◌, sym, subst, arith, slice_index}
use Rattle.std.proofs.lemmas.List.{take_all}
use Rattle.left_right_blocks.specs.States.{Obeys}
use Rattle.left_right_blocks.specs.Forks.{IsGathered}
use Rattle.left_right_blocks.specs.declared.fork_edges.ForkEdge.{ForkEdge}
use Rattle.left_right_blocks.proofs.Stated.{state_moved}
use Rattle.left_right_blocks.proofs.Forking.{gathered_first}
use Rattle.left_right_blocks.proofs.Gathering.{first_of, gather_step, gather_clash}
use Rattle.left_right_blocks.proofs.blocks.Blocks.gather.Goals as goal

none : ForkEdge
none = record { stack = 0; low = 0; mixed = false }

pub loop-i-init : goal.loop-i-init
unfolding none
loop-i-init c = record {
  same = c.append.ensures.same;
  gathered = λ P s fork.
      let ds = c.args.edges.now in
      let height = slice_index c.args.heights.now in
      let first = first_of ds none c.is_empty.result c.is_empty.ensures c.if-is_empty.false in
      let d = get_or ds 0 none in
      let m = state_moved height c.args.self.now c.append.new.self P s c.args.into d.stack c.append.ensures.same c.append.ensures.lists c.append.ensures.stacks (fork.apart d first.1.0) fork.empty in
      (m.0, (m.1.0, subst (IsGathered height c.args.into P m.0 c.args.self.now.ties.items) (sym first.0) (gathered_first height c.args.into P c.args.self.now.ties.items m.0 d fork.empty (fork.are d first.1.0) (fork.apart d first.1.0) m.1.1)));
}

pub returns-then-not-merge-clause-gathered : goal.returns-then-not-merge-clause-gathered
unfolding none
returns-then-not-merge-clause-gathered c = λ P s fork side obeys.
    let height = slice_index c.args.heights.now in
    let g = c.loop-i.invariant.gathered P s fork in
    gather_clash height c.loop-i.self c.merge.new.self c.args.into P c.args.self.now.ties.items c.args.edges.now c.loop-i.i none fork (omega (arith, c.loop-i.auto.i)) (omega (arith, c.loop-i-test.true)) g.0 g.1.0 g.1.1 c.merge.ensures.same c.loop-i.invariant.same.ties c.if-not-merge.ensures.merged side
    (subst (Obeys side P) (c.merge.ensures.same.ties ∙ c.loop-i.invariant.same.ties) obeys)

pub loop-i-preserved : goal.loop-i-preserved
unfolding none
loop-i-preserved c =
    let old = c.loop-i.invariant.same in
    let now = c.merge.ensures.same in
    record {
      same = record { edges = now.edges ∙ old.edges; ties = now.ties ∙ old.ties; count = now.count ∙ old.count };
      gathered = λ P s fork.
          let height = slice_index c.args.heights.now in
          let g = c.loop-i.invariant.gathered P s fork in
          gather_step height c.loop-i.self c.merge.new.self c.args.into P c.args.self.now.ties.items c.args.edges.now c.loop-i.i none fork (omega (arith, c.loop-i.auto.i)) (omega (arith, c.loop-i-test.true)) g.0 g.1.0 g.1.1 now old.ties c.if-not-merge.ensures.merged;
    }

pub returns-clause-gathered : goal.returns-clause-gathered
returns-clause-gathered c = λ P s fork.
    let height = slice_index c.args.heights.now in
    let g = c.loop-i.invariant.gathered P s fork in
    (g.0, (g.1.0, subst (λ us. IsGathered height c.args.into P g.0 us c.args.edges.now) (sym c.loop-i.invariant.same.ties) (subst (IsGathered height c.args.into P g.0 c.args.self.now.ties.items) (take_all c.loop-i.i c.args.edges.now (omega (arith, c.loop-i-test.false))) g.1.1)))
