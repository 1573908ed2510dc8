use Rattle.std.proofs.Common.{refl, arith}
use Rattle.chained_lists.proofs.Links.{at_least, read, in_list, joined_none, joins_by, joins_behind, joins_into}
use Rattle.chained_lists.proofs.ChainedLists.join.Goals as goal

pub returns-in_default-clause-joined : goal.returns-in_default-clause-joined
returns-in_default-clause-joined c = λ lists h ne.
    let s = c.args.self.now in
    joined_none s.next.items s.first.items s.last.items lists h c.args.p c.args.q ne (c.in_default.ensures.first lists h)

pub returns-then-is_number-clause-joined : goal.returns-then-is_number-clause-joined
returns-then-is_number-clause-joined c = λ lists h ne.
    let s = c.args.self.now in
    let e = s.ends in
    let r = c.requires.room in
    let f = s.few in
    let b = c.in-Some.ensures.first lists h in
    let l = in_list s.next.items s.first.items s.last.items lists h c.args.q c.in-Some.x b.0 b.1 in
    joins_by s.next.items s.first.items s.last.items lists h _ _ _ _ c.args.p c.args.q c.index-end.result.now 65535 _ c.link.ensures.next c.link.ensures.first c.link.ensures.last (joins_behind s.next.items s.first.items s.last.items lists h c.args.p c.args.q c.in-Some.x c.index-begin.result.now c.index-before.result.now c.index-end.result.now 65535 b.0 r ne b.1 (read s.first.items c.args.p c.index-begin.result.now r c.index-begin.ensures) (c.if-is_number.ensures.0 refl)
    (read s.last.items c.args.p c.index-before.result.now (omega arith) c.index-before.ensures)
    (read s.last.items c.args.q c.index-end.result.now (omega arith) c.index-end.ensures)
    (omega arith) e)

pub returns-clause-joined : goal.returns-clause-joined
returns-clause-joined c = λ lists h ne.
    let s = c.args.self.now in
    let e = s.ends in
    let r = c.requires.room in
    let f = s.few in
    let b = c.in-Some.ensures.first lists h in
    let l = in_list s.next.items s.first.items s.last.items lists h c.args.q c.in-Some.x b.0 b.1 in
    joins_into s.next.items s.first.items s.last.items lists h c.args.p c.args.q c.in-Some.x c.index-begin.result.now c.index-end.result.now 65535 b.0 r ne b.1 (read s.first.items c.args.p c.index-begin.result.now r c.index-begin.ensures) (at_least _ _ c.if-is_number.ensures.1)
    (read s.last.items c.args.q c.index-end.result.now (omega arith) c.index-end.ensures)
    (omega arith) e
