use Rattle.std.proofs.Common.{◌<◌, length, ap, ◌∙◌, arith}
use Rattle.std.proofs.lemmas.List.{get_or_read}
use Rattle.classes.specs.Classes.{orbits, same_class}
use Rattle.pg_perm.proofs.Perms.{IsAt-more, same_orbit-met, same_orbit-back, same_orbit-never}
use Rattle.pg_perm.proofs.perm.Perm.same_orbit.Goals as goal

pub returns-then-x-b : goal.returns-then-x-b
returns-then-x-b c =
    let images = c.self.inside.images.items in
    let in_a : c.args.a < length images = omega (arith, ap length c.self.view_is) in
    same_orbit-met images c.args.a c.args.b c.loop-step.x c.loop-step._step c.self.invariant.bijection in_a c.loop-step.invariant c.if-x-b.true ∙ ap (λ l. same_class (orbits l) c.args.a c.args.b) c.self.view_is

pub returns-then-x-a : goal.returns-then-x-a
returns-then-x-a c =
    let images = c.self.inside.images.items in
    let in_a : c.args.a < length images = omega (arith, ap length c.self.view_is) in
    let in_b : c.args.b < length images = omega (arith, ap length c.self.view_is) in
    let at = c.loop-step.invariant in
    let y = get_or_read images c.loop-step.x c.index-x.result.now at.within c.index-x.ensures c.loop-step.x in
    same_orbit-back images c.args.a c.args.b c.loop-step.x c.index-x.result.now c.loop-step._step c.self.invariant.bijection in_a in_b at c.if-x-b.false y c.if-x-a.true ∙ ap (λ l. same_class (orbits l) c.args.a c.args.b) c.self.view_is

pub loop-step-preserved : goal.loop-step-preserved
loop-step-preserved c =
    let images = c.self.inside.images.items in
    let at = c.loop-step.invariant in
    let y = get_or_read images c.loop-step.x c.index-x.result.now at.within c.index-x.ensures c.loop-step.x in
    IsAt-more images c.args.a c.args.b c.loop-step.x c.index-x.result.now c.loop-step._step _ c.self.invariant.bijection at c.if-x-b.false y c.if-x-a.false (omega arith)

pub returns : goal.returns
returns c =
    let images = c.self.inside.images.items in
    let in_a : c.args.a < length images = omega (arith, ap length c.self.view_is) in
    absurd (same_orbit-never images c.args.a c.args.b c.loop-step.x c.loop-step._step c.self.invariant.bijection in_a c.loop-step.invariant (omega arith))
