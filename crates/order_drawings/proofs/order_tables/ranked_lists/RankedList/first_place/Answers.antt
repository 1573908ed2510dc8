use Rattle.std.proofs.Common.{ℕ, sym, ◌∙◌, arith, below_more}
use Rattle.std.proofs.lemmas.Bool.{true≢false}
use Rattle.order_drawings.specs.Rows.{IsFirstPlace}
use Rattle.order_drawings.proofs.RowLemmas.{first-before, first-round}
use Rattle.order_drawings.proofs.order_tables.ranked_lists.RankedList.first_place.Goals as goal

pub returns-then-end-ranked-clause-place : goal.returns-then-end-ranked-clause-place
returns-then-end-ranked-clause-place c = λ start us row.
    first-before c.args.self.now.list.now c.args.self.now.ranks.now c.args.self.now.k c.first_earlier-first.result c.first_later-end.result start us row c.first_earlier-first.ensures.here c.first_later-end.ensures.from c.first_later-end.ensures.before c.if-end-ranked.true c.first_later-end.ensures.here

pub returns-then-first-gt0-clause-place : goal.returns-then-first-gt0-clause-place
returns-then-first-gt0-clause-place c = λ start us row.
    first-round c.args.self.now.list.now c.args.self.now.ranks.now c.args.self.now.k c.first_earlier-first.result c.first_later-end.result start us row c.if-first-gt0.true c.if-first-ranked.true (λ i l. c.first_earlier-first.ensures.before i (omega arith) l) c.first_earlier-first.ensures.here c.first_later-end.ensures.from c.first_later-end.ensures.within c.first_later-end.ensures.before (omega (arith, c.if-end-ranked.false))

pub loop-i-preserved : goal.loop-i-preserved
loop-i-preserved c =
    let row = c.args.self.now in
    below_more (λ (j : ℕ). ¬ IsFirstPlace row.list.now row.ranks.now row.k j) c.loop-i.i c.loop-i.invariant (λ first. true≢false (sym (c.is_first.ensures.1 first) ∙ c.if-is_first.false))
