use Rattle.std.proofs.Common.{refl, ◌<◌, ◌∷◌, length, slice_index, ap, ◌∙◌, sym, arith}
use Rattle.chained_lists.proofs.Links.{begins, read}
use Rattle.chained_lists.proofs.ChainedLists.first.Goals as goal

pub returns-then-is_number-clause-first : goal.returns-then-is_number-clause-first
returns-then-is_number-clause-first c = λ lists h.
    let s = c.args.self.now in
    let l : c.args.p < length s.first.items = omega (arith, c.if-p-len.false, c.len.ensures, s.first.ok.0) in
    let is = read s.first.items c.args.p c.index-x.result.now l c.index-x.ensures in
    let near : slice_index s.first.items c.args.p < length s.next.items = (let m = c.if-is_number.ensures.0 refl in omega (arith, is, m)) in
    let b = begins s.next.items s.first.items s.last.items lists h c.args.p l near in
    (b.0, b.1 ∙ ap (λ z. z ∷ b.0) (sym is))
