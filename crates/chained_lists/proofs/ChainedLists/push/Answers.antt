use Rattle.std.proofs.Common.{refl}
use Rattle.chained_lists.proofs.Links.{at_least, read, puts_before, puts_alone}
use Rattle.chained_lists.proofs.ChainedLists.push.Goals as goal

pub returns-then-is_number-clause-pushed : goal.returns-then-is_number-clause-pushed
returns-then-is_number-clause-pushed c = λ lists h fresh.
    let s = c.args.self.now in
    puts_before s.next.items s.first.items s.last.items lists h c.args.p c.args.x c.index-old.result.now c.from.result c.from.ensures c.requires.room c.requires.number fresh (read s.first.items c.args.p c.index-old.result.now c.requires.room c.index-old.ensures) (c.if-is_number.ensures.0 refl)

pub returns-clause-pushed : goal.returns-clause-pushed
returns-clause-pushed c = λ lists h fresh.
    let s = c.args.self.now in
    puts_alone s.next.items s.first.items s.last.items lists h c.args.p c.args.x c.index-old.result.now c.requires.room c.requires.number fresh (read s.first.items c.args.p c.index-old.result.now c.requires.room c.index-old.ensures) (at_least _ _ c.if-is_number.ensures.1) s.ends
