use Rattle.std.proofs.Common.{◌+◌, ◌<◌, [], ◌∷◌, ◌++◌, ap, ◌∙◌, sym, subst, slice_index}
use Rattle.std.proofs.lemmas.Bool.{true≢false}
use Rattle.chained_lists.specs.Chains.{put}
use Rattle.chained_lists.specs.Held.{Holds}
use Rattle.chained_lists.specs.declared.ChainedLists.{ChainedLists}
use Rattle.left_right_blocks.specs.Parts.{block_of, blocks_of}
use Rattle.left_right_blocks.specs.Steps.{IsTwoSided, HasTwoSided, IsTaken, AreTaken}
use Rattle.left_right_blocks.proofs.Merging.{taken_first, clash_first, joined_held}
use Rattle.left_right_blocks.proofs.blocks.Blocks.take.Goals as goal

pub returns-in_default-clause-taken : goal.returns-in_default-clause-taken
returns-in_default-clause-taken c = λ lists stacks a b.
    let p = c.in_default.ensures.popped lists stacks a b in
    (subst (λ (z : ChainedLists). Holds z lists) (sym c.pop_above.ensures.lists) a, (p.0, p.1))

pub returns-then-is_two_sided-clause-taken : goal.returns-then-is_two_sided-clause-taken
returns-then-is_two_sided-clause-taken c = λ lists stacks a b.
    let p = c.in-Some.ensures.popped lists stacks a b in
    let held = subst (λ (z : ChainedLists). Holds z lists) (sym c.pop_above.ensures.lists) a in
    clash_first (slice_index c.args.heights.now) c.args.self.now.edges c.args.fork.limit c.args.fork.from lists stacks b.apart (λ q x k. subst (λ z. x < z) c.args.self.now.stacks_of (b.within q x k)) c.in-Some.first p.0.0 p.0.1.0
    (subst (λ e. IsTwoSided (block_of e lists c.in-Some.first)) c.pop_above.ensures.same.edges ((c.is_two_sided.ensures lists held).0 c.if-is_two_sided.true))

pub returns-then-take_more-clause-taken : goal.returns-then-take_more-clause-taken
returns-then-take_more-clause-taken c = λ lists stacks a b.
    let p = c.in-Some.ensures.popped lists stacks a b in
    let first = c.in-Some.first in
    let edges = c.args.self.now.edges in
    let height = slice_index c.args.heights.now in
    let e = c.pop_above.ensures.same.edges in
    let held = subst (λ (z : ChainedLists). Holds z lists) (sym c.pop_above.ensures.lists) a in
    let single : ¬ IsTwoSided (block_of edges lists first) = λ two. true≢false (sym ((c.is_two_sided.ensures lists held).1 (subst (λ k. IsTwoSided (block_of k lists first)) (sym e) two)) ∙ c.if-is_two_sided.false) in
    let t = taken_first height edges c.args.fork.limit c.args.fork.from lists stacks b.apart (λ q x k. subst (λ z. x < z) c.args.self.now.stacks_of (b.within q x k)) first p.0.0 p.0.1.0 single p.1 in
    let joined = joined_held edges first c.other-into.result c.from.result c.pop_above.new.self.lists c.join.new.self lists c.in-Some.ensures.number (c.other-into.ensures ∙ ap (λ k. first + k) e) c.from.ensures held c.join.ensures.joined in
    subst (λ k. AreTaken height k c.args.fork.limit c.args.fork.from lists stacks c.take_more.new.self first) e
    (c.if-take_more.ensures.taken lists stacks _ _ _ joined p.0.1.1 (subst (λ k. IsTaken height k c.args.fork.limit c.args.fork.from lists stacks (put first [] (put (first + edges) (lists (first + edges) ++ lists first) lists)) (put c.args.fork.from p.0.0 stacks) first (first ∷ [])) (sym e) t))

pub returns-else-take_more-clause-taken : goal.returns-else-take_more-clause-taken
returns-else-take_more-clause-taken c = λ lists stacks a b.
    let p = c.in-Some.ensures.popped lists stacks a b in
    let first = c.in-Some.first in
    let edges = c.args.self.now.edges in
    let height = slice_index c.args.heights.now in
    let e = c.pop_above.ensures.same.edges in
    let held = subst (λ (z : ChainedLists). Holds z lists) (sym c.pop_above.ensures.lists) a in
    let single : ¬ IsTwoSided (block_of edges lists first) = λ two. true≢false (sym ((c.is_two_sided.ensures lists held).1 (subst (λ k. IsTwoSided (block_of k lists first)) (sym e) two)) ∙ c.if-is_two_sided.false) in
    let t = taken_first height edges c.args.fork.limit c.args.fork.from lists stacks b.apart (λ q x k. subst (λ z. x < z) c.args.self.now.stacks_of (b.within q x k)) first p.0.0 p.0.1.0 single p.1 in
    let joined = joined_held edges first c.other-into.result c.from.result c.pop_above.new.self.lists c.join.new.self lists c.in-Some.ensures.number (c.other-into.ensures ∙ ap (λ k. first + k) e) c.from.ensures held c.join.ensures.joined in
    subst (λ k. HasTwoSided (blocks_of k lists (stacks c.args.fork.from))) e
    (c.if-take_more.ensures.taken lists stacks _ _ _ joined p.0.1.1 (subst (λ k. IsTaken height k c.args.fork.limit c.args.fork.from lists stacks (put first [] (put (first + edges) (lists (first + edges) ++ lists first) lists)) (put c.args.fork.from p.0.0 stacks) first (first ∷ [])) (sym e) t))
