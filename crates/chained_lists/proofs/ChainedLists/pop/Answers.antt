use Rattle.std.proofs.Common.{slice_index, ap, ◌∙◌, arith}
use Rattle.chained_lists.proofs.Links.{read, in_list, is_first, takes_last, takes_more}
use Rattle.chained_lists.proofs.ChainedLists.pop.Goals as goal

pub returns-then-x-last-clause-popped : goal.returns-then-x-last-clause-popped
returns-then-x-last-clause-popped c = λ lists h.
    let s = c.args.self.now in
    let b = c.in_ok-x.ensures.first lists h in
    let l = in_list s.next.items s.first.items s.last.items lists h c.args.p c.in_ok-x.x b.0 b.1 in
    (b.0, (b.1, takes_last s.next.items s.first.items s.last.items lists h c.args.p c.in_ok-x.x 65535 c.index-last.result.now b.0 b.1 (let f = s.few in omega arith) (read s.last.items c.args.p c.index-last.result.now (let e = s.ends in omega arith) c.index-last.ensures) c.if-x-last.true))

pub returns-clause-popped : goal.returns-clause-popped
returns-clause-popped c = λ lists h.
    let s = c.args.self.now in
    let b = c.in_ok-x.ensures.first lists h in
    let l = in_list s.next.items s.first.items s.last.items lists h c.args.p c.in_ok-x.x b.0 b.1 in
    let f = is_first s.next.items s.first.items s.last.items lists h c.args.p c.in_ok-x.x b.0 b.1 in
    (b.0, (b.1, takes_more s.next.items s.first.items s.last.items lists h c.args.p c.in_ok-x.x c.index-next.result.now c.index-last.result.now b.0 b.1 (read s.last.items c.args.p c.index-last.result.now (let e = s.ends in omega arith) c.index-last.ensures) c.if-x-last.false (read s.next.items c.from.result c.index-next.result.now (let a = f.0 in let m = f.1 in omega (arith, c.from.ensures)) c.index-next.ensures ∙ ap (slice_index s.next.items) c.from.ensures)))
