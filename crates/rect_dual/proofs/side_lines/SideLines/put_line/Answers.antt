use Rattle.std.proofs.Common.{suc, ◌<◌, ◌++◌, length, take, drop, sym, subst, ap, arith}
use Rattle.rect_runs.specs.Numbers.{with_new}
use Rattle.rect_dual.specs.Lines.{AreLines}
use Rattle.rect_dual.specs.States.{IsBehindLead}
use Rattle.rect_dual.proofs.SideLemmas.{lent}
use Rattle.rect_dual.proofs.side_lines.SideLines.put_line.Goals as goal

pub returns-then-own-clause-own : goal.returns-then-own-clause-own
returns-then-own-clause-own c =
    let a = c.args in
    let s = a.self.now in
    let p = c.put_own in
    let lines = c.deref_mut.ensures.value in
    let next = c.deref_mut-then-own.ensures.value in
    let links = c.deref.ensures.value in
    let leads = c.deref-then-own.ensures.value in
    let ended = take s.next.len (p.new.next ++ drop (length p.new.next) s.next.items) in
    let here : IsBehindLead a.at a.own a.z c.deref_mut.result.now c.deref_mut-then-own.result.now c.deref.result.now c.deref-then-own.result.now p.new.lines p.new.next = (λ e f q first h way m start marked end few older.
    let along = c.leading-u.ensures.first way m start marked end (omega (arith, few, ap length links, ap length lines, s.links_size)) in
    let w = along.within in
    let placed : c.leading-u.result < a.z = omega (arith, along.vertex, older along.place w) in
    (c.leading-u.result, along, p.ensures.lines f q first h placed)) in
    subst (λ l. IsBehindLead a.at a.own a.z s.lines.items s.next.items s.links.items s.leads.items l ended) (lent s.lines.len p.new.lines (drop (length p.new.lines) s.lines.items) (omega arith))
    (subst (λ l. IsBehindLead a.at a.own a.z s.lines.items s.next.items s.links.items s.leads.items p.new.lines l) (lent s.next.len p.new.next (drop (length p.new.next) s.next.items) (omega arith))
    (subst (λ l. IsBehindLead a.at a.own a.z l s.next.items s.links.items s.leads.items p.new.lines p.new.next) lines
    (subst (λ l. IsBehindLead a.at a.own a.z c.deref_mut.result.now l s.links.items s.leads.items p.new.lines p.new.next) next
    (subst (λ l. IsBehindLead a.at a.own a.z c.deref_mut.result.now c.deref_mut-then-own.result.now l s.leads.items p.new.lines p.new.next) links
    (subst (λ l. IsBehindLead a.at a.own a.z c.deref_mut.result.now c.deref_mut-then-own.result.now c.deref.result.now l p.new.lines p.new.next) leads here)))))

pub returns-else-own-clause-level : goal.returns-else-own-clause-level
returns-else-own-clause-level c = λ e f q first h older.
    let a = c.args in
    let s = a.self.now in
    let p = c.put_level in
    let before = subst (λ l. AreLines f a.z q first l s.next.items) (sym c.deref_mut-else-own.ensures.value) h in
    subst (λ l. AreLines (with_new a.z f (f a.at)) (suc a.z) q first l s.next.items) (lent s.lines.len p.new.lines (drop (length p.new.lines) s.lines.items) (omega arith)) (p.ensures.lines f q first s.next.items before older)
