use Rattle.std.proofs.Common.{◌<◌, length, get_or, sym, ap, ◌∙◌, subst, arith}
use Rattle.std.proofs.lemmas.List.{take_at}
use Rattle.rect_dual.specs.Lines.{AreLines}
use Rattle.rect_dual.proofs.Walks.{number-walked}
use Rattle.rect_dual.proofs.line_lists.Linked.numbers.Goals as goal

pub returns-clause-numbers : goal.returns-clause-numbers
returns-clause-numbers c = λ f h v l.
    let s = c.args.self.now in
    let lines = s.lines.now in
    let next = s.next.now in
    let count = c.args.count in
    let first = c.args.first in
    let same = take_at c.walk.new.numbers _ c.in_ok-numbers.numbers.len (omega (arith, c.walk.auto.numbers, c.in_ok-numbers.ensures.len, ap length c.deref_mut.ensures.value)) in
    let h' = subst (λ m. AreLines f m count first lines next) (sym s.size) h in
    let w = c.walk.ensures f lines h' in
    let end : v < c.loop-v.v = omega (arith, l, c.loop-v-test.false, c.loop-v.auto.v-end) in
    c.loop-v.invariant.at v end ∙ (ap (λ us. get_or us (get_or lines v 0) 0) same ∙ number-walked f (length next) count first lines next h' w.0 c.walk.new.numbers w.1 v (omega (arith, l, s.size)))
