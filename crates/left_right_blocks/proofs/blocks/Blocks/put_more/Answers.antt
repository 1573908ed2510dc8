use Rattle.std.proofs.Common.{◌≡◌, ◌+◌, ap, ◌∙◌, sym, subst, refl, arith, slice_index}
use Rattle.left_right_blocks.specs.Found.{is_deep}
use Rattle.left_right_blocks.proofs.Steps.{PopsAbove, PopsNone, puts_step_one, puts_step_other, puts_clash, puts_full, puts_done}
use Rattle.left_right_blocks.proofs.blocks.Blocks.put_more.Goals as goal

pub returns-in_default-clause-put : goal.returns-in_default-clause-put
returns-in_default-clause-put c = λ lists0 stacks0 a b h.
    puts_done (slice_index c.args.heights.now) c.args.self.now.edges lists0 stacks0 c.args.first c.args.fork.low c.args.fork.into c.loop.counter c.loop.self.lists c.loop.self.stacks c.pop_above.new.self.lists c.pop_above.new.self.stacks c.pop_above.ensures.lists
    (subst (PopsNone (slice_index c.args.heights.now) c.args.fork.low c.loop.self.lists c.loop.self.stacks c.pop_above.new.self.stacks c.args.fork.into) c.loop.invariant.same.edges c.in_default.ensures.popped)
    (c.loop.invariant.put lists0 stacks0 a b h)

pub loop-preserved-then-not-is_deep : goal.loop-preserved-then-not-is_deep
loop-preserved-then-not-is_deep c =
    let old = c.loop.invariant.same in
    let now = c.pop_above.ensures.same in
    let is : c.pop_above.new.self.edges ≡ c.args.self.now.edges = now.edges ∙ old.edges in
    let height = slice_index c.args.heights.now in
    record {
      same = record { edges = is; ties = now.ties ∙ old.ties; count = now.count ∙ old.count };
      put = λ lists0 stacks0 a b h.
          puts_step_other height c.args.self.now.edges lists0 stacks0 c.args.first c.args.fork.low c.args.fork.into c.loop.counter c.in-Some.b c.from-one.result c.other-other.result c.other-into.result c.from.result c.loop.self.lists c.loop.self.stacks c.pop_above.new.self.lists c.pop_above.new.self.stacks c.join.new.self c.join-then-not-is_deep.new.self c.pop_above.ensures.lists
          (c.other-other.ensures ∙ ap (λ e. c.in-Some.b + e) is) c.from-one.ensures (c.other-into.ensures ∙ ap (λ e. c.args.first + e) is) c.from.ensures
          (subst (PopsAbove height c.args.fork.low c.loop.self.lists c.loop.self.stacks c.pop_above.new.self.stacks c.args.fork.into c.in-Some.b) old.edges c.in-Some.ensures.popped)
          (c.loop.invariant.put lists0 stacks0 a b h)
          (λ ls held. ap (λ x. is_deep height c.args.fork.low (ls x)) (sym c.from-one.ensures) ∙ (sym (c.is_deep.ensures ls held) ∙ c.if-not-is_deep.true))
          c.join.ensures.joined c.join-then-not-is_deep.ensures.joined;
    }

pub returns-then-is_deep-clause-put : goal.returns-then-is_deep-clause-put
returns-then-is_deep-clause-put c = λ lists0 stacks0 a b h.
    let old = c.loop.invariant.same in
    let now = c.pop_above.ensures.same in
    let is : c.pop_above.new.self.edges ≡ c.args.self.now.edges = now.edges ∙ old.edges in
    let height = slice_index c.args.heights.now in
    puts_clash height c.args.self.now.edges lists0 stacks0 c.args.first c.args.fork.low c.args.fork.into c.loop.counter c.in-Some.b c.from-one.result c.other-other.result c.other-into.result c.args.first c.loop.self.lists c.loop.self.stacks c.pop_above.new.self.lists c.pop_above.new.self.stacks c.loop.self.lists c.loop.self.lists c.pop_above.ensures.lists
    (c.other-other.ensures ∙ ap (λ e. c.in-Some.b + e) is) c.from-one.ensures (c.other-into.ensures ∙ ap (λ e. c.args.first + e) is) refl
    (subst (PopsAbove height c.args.fork.low c.loop.self.lists c.loop.self.stacks c.pop_above.new.self.stacks c.args.fork.into c.in-Some.b) old.edges c.in-Some.ensures.popped)
    (c.loop.invariant.put lists0 stacks0 a b h)
    (λ ls held. ap (λ x. is_deep height c.args.fork.low (ls x)) (sym c.from-one.ensures) ∙ (sym (c.is_deep.ensures ls held) ∙ c.if-not-is_deep.false))
    (λ ls held. ap (λ x. is_deep height c.args.fork.low (ls x)) (sym (c.other-other.ensures ∙ ap (λ e. c.in-Some.b + e) is)) ∙ (sym (c.is_deep-in-loop.ensures ls held) ∙ c.if-is_deep.true))

pub loop-preserved : goal.loop-preserved
loop-preserved c =
    let old = c.loop.invariant.same in
    let now = c.pop_above.ensures.same in
    let is : c.pop_above.new.self.edges ≡ c.args.self.now.edges = now.edges ∙ old.edges in
    let height = slice_index c.args.heights.now in
    record {
      same = record { edges = is; ties = now.ties ∙ old.ties; count = now.count ∙ old.count };
      put = λ lists0 stacks0 a b h.
          puts_step_one height c.args.self.now.edges lists0 stacks0 c.args.first c.args.fork.low c.args.fork.into c.loop.counter c.in-Some.b c.from-one.result c.other-other.result c.other-into.result c.from-in-loop.result c.loop.self.lists c.loop.self.stacks c.pop_above.new.self.lists c.pop_above.new.self.stacks c.join-in-loop.new.self c.join-in-loop-2.new.self c.pop_above.ensures.lists
          (c.other-other.ensures ∙ ap (λ e. c.in-Some.b + e) is) c.from-one.ensures (c.other-into.ensures ∙ ap (λ e. c.args.first + e) is) c.from-in-loop.ensures
          (subst (PopsAbove height c.args.fork.low c.loop.self.lists c.loop.self.stacks c.pop_above.new.self.stacks c.args.fork.into c.in-Some.b) old.edges c.in-Some.ensures.popped)
          (c.loop.invariant.put lists0 stacks0 a b h)
          (λ ls held. ap (λ x. is_deep height c.args.fork.low (ls x)) (sym c.from-one.ensures) ∙ (sym (c.is_deep.ensures ls held) ∙ c.if-not-is_deep.false))
          (λ ls held. ap (λ x. is_deep height c.args.fork.low (ls x)) (sym (c.other-other.ensures ∙ ap (λ e. c.in-Some.b + e) is)) ∙ (sym (c.is_deep-in-loop.ensures ls held) ∙ c.if-is_deep.false))
          c.join-in-loop.ensures.joined c.join-in-loop-2.ensures.joined;
    }

pub returns-clause-put : goal.returns-clause-put
returns-clause-put c = λ lists0 stacks0 a b h.
    absurd (puts_full (slice_index c.args.heights.now) c.args.self.now.edges lists0 stacks0 c.args.first c.args.fork.low c.args.fork.into c.loop.counter c.loop.self.lists c.loop.self.stacks (omega (arith, c.loop-test.false)) (c.loop.invariant.put lists0 stacks0 a b h))
