use Rattle.std.proofs.Common.{arith}
use Rattle.rect_dual.proofs.Ways.{IsOnWay-begin, IsFirstAlong-from, IsOnWay-more}
use Rattle.rect_dual.proofs.side_lines.leading.Goals as goal

pub loop-step-init : goal.loop-step-init
loop-step-init c = record {
  vertex = c.requires.start;
  on = λ way m start leads end. IsOnWay-begin c.args.leads.now way m c.args.start start;
}

pub loop-step-preserved : goal.loop-step-preserved
loop-step-preserved c = record {
  vertex = c.requires.within c.loop-step.v 0 c.loop-step.invariant.vertex;
  on = λ way m start leads end. IsOnWay-more c.args.leads.now way m c.loop-step._step c.loop-step.v (c.loop-step.invariant.on way m start leads end) c.if-leads-v.false c.args.links.now leads end;
}

pub returns-then-leads-v-clause-first : goal.returns-then-leads-v-clause-first
returns-then-leads-v-clause-first c = λ way m start leads end few.
    IsFirstAlong-from c.args.leads.now way m c.loop-step._step c.loop-step.v (c.loop-step.invariant.on way m start leads end) c.if-leads-v.true

pub returns-clause-first : goal.returns-clause-first
returns-clause-first c = λ way m start leads end few.
    let h = c.loop-step.invariant.on way m start leads end in
    let w = h.within in
    absurd (omega arith)
