use Rattle.std.proofs.Common.{◌≡◌, ◌+◌, ap, ◌∙◌, sym, subst, refl, arith, slice_index}
use Rattle.left_right_blocks.specs.Parts.{block_of}
use Rattle.left_right_blocks.specs.Steps.{IsTwoSided}
use Rattle.std.proofs.lemmas.Bool.{true≢false}
use Rattle.left_right_blocks.proofs.Steps.{PopsAbove, PopsNone, takes_begin, takes_step, takes_full, takes_done, takes_clash}
use Rattle.left_right_blocks.proofs.blocks.Blocks.take_more.Goals as goal

pub loop-init : goal.loop-init
loop-init c = record {
  same = record { edges = refl; ties = refl; count = refl };
  taken = λ lists0 stacks0 lists stacks ids a b h. takes_begin (slice_index c.args.heights.now) c.args.self.now.edges lists0 stacks0 c.args.first c.args.fork.limit c.args.fork.from lists stacks ids c.args.self.now.lists c.args.self.now.stacks a b h;
}

pub returns-in_default-clause-taken : goal.returns-in_default-clause-taken
returns-in_default-clause-taken c = λ lists0 stacks0 lists stacks ids a b h.
    takes_done (slice_index c.args.heights.now) c.args.self.now.edges lists0 stacks0 c.args.first c.args.fork.limit c.args.fork.from c.loop.counter c.loop.self.lists c.loop.self.stacks c.pop_above.new.self.lists c.pop_above.new.self.stacks c.pop_above.ensures.lists
    (subst (PopsNone (slice_index c.args.heights.now) c.args.fork.limit c.loop.self.lists c.loop.self.stacks c.pop_above.new.self.stacks c.args.fork.from) c.loop.invariant.same.edges c.in_default.ensures.popped)
    (c.loop.invariant.taken lists0 stacks0 lists stacks ids a b h)

pub returns-then-is_two_sided-clause-taken : goal.returns-then-is_two_sided-clause-taken
returns-then-is_two_sided-clause-taken c = λ lists0 stacks0 lists stacks ids a b h.
    takes_clash (slice_index c.args.heights.now) c.args.self.now.edges lists0 stacks0 c.args.first c.args.fork.limit c.args.fork.from c.loop.counter c.in-Some.b c.loop.self.lists c.loop.self.stacks c.pop_above.new.self.lists c.pop_above.new.self.stacks c.pop_above.ensures.lists
    (subst (PopsAbove (slice_index c.args.heights.now) c.args.fork.limit c.loop.self.lists c.loop.self.stacks c.pop_above.new.self.stacks c.args.fork.from c.in-Some.b) c.loop.invariant.same.edges c.in-Some.ensures.popped)
    (λ ls held. subst (λ e. IsTwoSided (block_of e ls c.in-Some.b)) (c.pop_above.ensures.same.edges ∙ c.loop.invariant.same.edges) ((c.is_two_sided.ensures ls held).0 c.if-is_two_sided.true))
    (c.loop.invariant.taken lists0 stacks0 lists stacks ids a b h)

pub loop-preserved : goal.loop-preserved
loop-preserved c =
    let old = c.loop.invariant.same in
    let now = c.pop_above.ensures.same in
    let is : c.pop_above.new.self.edges ≡ c.args.self.now.edges = now.edges ∙ old.edges in
    record {
      same = record { edges = is; ties = now.ties ∙ old.ties; count = now.count ∙ old.count };
      taken = λ lists0 stacks0 lists stacks ids a b h.
          takes_step (slice_index c.args.heights.now) c.args.self.now.edges lists0 stacks0 c.args.first c.args.fork.limit c.args.fork.from c.loop.counter c.in-Some.b c.other-into.result c.other-other.result c.from.result c.loop.self.lists c.loop.self.stacks c.pop_above.new.self.lists c.pop_above.new.self.stacks c.join.new.self c.join-in-loop.new.self c.pop_above.ensures.lists
          (c.other-into.ensures ∙ ap (λ e. c.args.first + e) is) (c.other-other.ensures ∙ ap (λ e. c.in-Some.b + e) is) c.from.ensures
          (subst (PopsAbove (slice_index c.args.heights.now) c.args.fork.limit c.loop.self.lists c.loop.self.stacks c.pop_above.new.self.stacks c.args.fork.from c.in-Some.b) c.loop.invariant.same.edges c.in-Some.ensures.popped)
          (λ ls held two. true≢false (sym ((c.is_two_sided.ensures ls held).1 (subst (λ e. IsTwoSided (block_of e ls c.in-Some.b)) (sym is) two)) ∙ c.if-is_two_sided.false))
          c.join.ensures.joined c.join-in-loop.ensures.joined
          (c.loop.invariant.taken lists0 stacks0 lists stacks ids a b h);
    }

pub returns-clause-taken : goal.returns-clause-taken
returns-clause-taken c = λ lists0 stacks0 lists stacks ids a b h.
    absurd (takes_full (slice_index c.args.heights.now) c.args.self.now.edges lists0 stacks0 c.args.first c.args.fork.limit c.args.fork.from c.loop.counter c.loop.self.lists c.loop.self.stacks (omega (arith, c.loop-test.false)) (c.loop.invariant.taken lists0 stacks0 lists stacks ids a b h))
