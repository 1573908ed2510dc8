use Rattle.std.proofs.Common.{length, drop, set, ap, subst, ◌∙◌, arith}
use Rattle.rect_dual.specs.Ways.{is_marked}
use Rattle.rect_dual.specs.States.{IsPutOver}
use Rattle.rect_dual.proofs.SideLemmas.{lent}
use Rattle.rect_dual.proofs.side_lines.SideLines.put_over.Goals as goal

pub returns-clause-over : goal.returns-clause-over
returns-clause-over c =
    let a = c.args in
    let s = a.self.now in
    let new = c.put_line.new.self in
    let marks = c.mark.new.leads in
    let links = set (set new.links.items a.z a.seat.far) a.seat.near a.z in
    subst (λ l. IsPutOver a.seat.at a.own a.seat.near a.seat.far a.z s.lines.items s.next.items s.links.items s.leads.items new.lines.items new.next.items links l) (lent new.leads.len marks (drop (length marks) new.leads.items) (omega arith))
    record {
      level = c.put_line.ensures.level;
      behind = c.put_line.ensures.own;
      linked = ap (λ l. set (set l.items a.z a.seat.far) a.seat.near a.z) c.put_line.ensures.links;
      new = c.mark.ensures.new;
      end = c.mark.ensures.end;
      others = λ v b d. c.mark.ensures.others v b d ∙ ap (λ l. is_marked l v) (c.deref_mut.ensures.value ∙ ap (λ l. l.items) c.put_line.ensures.leads);
    }
