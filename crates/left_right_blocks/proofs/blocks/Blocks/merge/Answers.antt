use Rattle.std.proofs.Common.{◌<◌, ℕ, [], Contains, sym, subst, slice_index}
use Rattle.left_right_blocks.specs.Parts.{blocks_of}
use Rattle.left_right_blocks.specs.Steps.{IsPut, ArePut, HasTwoDeep}
use Rattle.left_right_blocks.proofs.Merging.{put_begin, same_p, end_fresh, merged_some, merged_none, clash_taken, clash_put}
use Rattle.left_right_blocks.proofs.blocks.Blocks.merge.Goals as goal

pub returns-in-Clash-clause-merged : goal.returns-in-Clash-clause-merged
returns-in-Clash-clause-merged c = λ lists stacks a b h.
    clash_taken (slice_index c.args.heights.now) c.args.self.now.edges c.args.fork.limit c.args.fork.low c.args.fork.into c.args.fork.from lists stacks b.apart (λ q x k. subst (λ z. x < z) c.args.self.now.stacks_of (b.within q x k)) h.apart h.one h.other h.nested (c.in-Clash.ensures.taken lists stacks a b)

pub returns-in-Nothing-clause-merged : goal.returns-in-Nothing-clause-merged
returns-in-Nothing-clause-merged c = λ lists stacks a b h.
    let t = c.in-Nothing.ensures.taken lists stacks a b in
    merged_none (slice_index c.args.heights.now) c.args.self.now.edges c.args.fork.limit c.args.fork.low c.args.fork.into c.args.fork.from lists stacks b.apart (λ q x k. subst (λ z. x < z) c.args.self.now.stacks_of (b.within q x k)) h.apart h.one h.other h.nested h.none t.1.1 c.take.new.self.lists c.join.new.self t.0 (c.join.ensures.joined stacks t.1.0 h.apart)

pub returns-then-not-put_more-clause-merged : goal.returns-then-not-put_more-clause-merged
returns-then-not-put_more-clause-merged c = λ lists stacks a b h.
    let height = slice_index c.args.heights.now in
    let edges = c.args.self.now.edges in
    let fork = c.args.fork in
    let e = c.take.ensures.same.edges in
    let first = c.in-First.first in
    let t = c.in-First.ensures.taken lists stacks a b in
    let within : (q x : ℕ) → Contains (stacks q) x → x < edges = λ q x k. subst (λ z. x < z) c.args.self.now.stacks_of (b.within q x k) in
    let begin = put_begin height edges fork.limit fork.low fork.into fork.from lists stacks b.apart within h.apart t.0 t.1.0 first t.1.1.0 t.1.1.1.1.1.0 t.1.1.1.1.0.apart in
    let same = same_p height edges fork.limit fork.low fork.into fork.from lists stacks b.apart within h.apart t.0 t.1.0 first t.1.1.0 t.1.1.1.1.1.0 t.1.1.1.1.0.apart in
    let deep = c.if-not-put_more.ensures.put t.0 t.1.0 t.1.1.1.0 t.1.1.1.1.0 (subst (λ k. IsPut height k fork.low fork.into t.0 t.1.0 t.0 t.1.0 first []) (sym e) begin) in
    clash_put height edges fork.limit fork.low fork.into fork.from lists stacks b.apart within h.apart h.one h.other h.nested
    (subst (HasTwoDeep height fork.low) same (subst (λ k. HasTwoDeep height fork.low (blocks_of k t.0 (t.1.0 fork.into))) e deep))

pub returns-else-not-put_more-clause-merged : goal.returns-else-not-put_more-clause-merged
returns-else-not-put_more-clause-merged c = λ lists stacks a b h.
    let height = slice_index c.args.heights.now in
    let edges = c.args.self.now.edges in
    let fork = c.args.fork in
    let e = c.take.ensures.same.edges in
    let first = c.in-First.first in
    let t = c.in-First.ensures.taken lists stacks a b in
    let within : (q x : ℕ) → Contains (stacks q) x → x < edges = λ q x k. subst (λ z. x < z) c.args.self.now.stacks_of (b.within q x k) in
    let begin = put_begin height edges fork.limit fork.low fork.into fork.from lists stacks b.apart within h.apart t.0 t.1.0 first t.1.1.0 t.1.1.1.1.1.0 t.1.1.1.1.0.apart in
    let put = subst (λ k. ArePut height k fork.low fork.into t.0 t.1.0 c.put_more.new.self first) e (c.if-not-put_more.ensures.put t.0 t.1.0 t.1.1.1.0 t.1.1.1.1.0 (subst (λ k. IsPut height k fork.low fork.into t.0 t.1.0 t.0 t.1.0 first []) (sym e) begin)) in
    let joined = c.join-in-First.ensures.joined put.1.0 put.1.1.1.1.0 h.apart in
    let fresh = end_fresh height edges fork.limit fork.low fork.into fork.from lists stacks b.apart within h.apart t.0 t.1.0 first t.1.1.0 t.1.1.1.1.1.0 t.1.1.1.1.0.apart put.0 put.1.0 put.1.1.0 put.1.1.1.1.1.0 in
    merged_some height edges fork.limit fork.low fork.into fork.from lists stacks b.apart within h.apart t.0 t.1.0 first t.1.1.0 t.1.1.1.1.1.0 t.1.1.1.1.0.apart put.0 put.1.0 put.1.1.0 put.1.1.1.1.1.0 h.one h.other h.nested t.1.1.1.1.1.1 put.1.1.1.1.1.1 c.put_more.new.self.lists c.push.new.self put.1.1.1.0 (c.push.ensures.pushed _ joined fresh)
