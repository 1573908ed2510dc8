use Rattle.std.proofs.Common.{◌≢◌, ◌-◌, inl, inr, ◌≡◌, ◌<◌, ◌≤◌, ℕ, length, subst, arith}
use Rattle.std.proofs.lemmas.Bool.{cases_lt}
use Rattle.fpp_shift.specs.ShiftTreesRows.{IsEarlier, BeginsRow, EndsRow}
use Rattle.fpp_shift.proofs.DartLemmas.{row-within, row-round-first, row-again, row-first, none-earlier, begin-alone, end-alone}
use Rattle.fpp_shift.proofs.shift_trees.trees_by_lists.interval_in.Goals as goal

pub returns-then-first-list-clause-begin : goal.returns-then-first-list-clause-begin
returns-then-first-list-clause-begin c = λ lists v p is b only. absurd (none-earlier lists v c.args.row.now.list.now c.args.row.now.ranks.now is c.args.row.now.k c.first_earlier-first.result p c.if-first-list.true c.first_earlier-first.ensures.before b.dart b.earlier)

pub returns-then-first-list-clause-end : goal.returns-then-first-list-clause-end
returns-then-first-list-clause-end c = λ lists v q is b only. absurd (none-earlier lists v c.args.row.now.list.now c.args.row.now.ranks.now is c.args.row.now.k c.first_earlier-first.result q c.if-first-list.true c.first_earlier-first.ensures.before b.dart b.earlier)

strictly : (a b : ℕ) → a ≤ b → a ≢ b → a < b
strictly a b m ne = elim (cases_lt a b) [ inl l ↦ l | inr o ↦ absurd (ne (omega (arith, m, o))) ]

pub returns-then-first-gt0-clause-begin : goal.returns-then-first-gt0-clause-begin
returns-then-first-gt0-clause-begin c = λ lists v p is b only.
    let l = strictly c.first_earlier-first.result (length c.args.row.now.list.now) c.first_earlier-first.ensures.within c.if-first-list.false in
    (row-within lists v c.args.row.now.list.now c.args.row.now.ranks.now is c.args.row.now.k c.first_earlier-first.result c.first_later-end.result c.if-first-gt0.true l c.first_earlier-first.ensures.before c.first_earlier-first.ensures.here c.first_later-end.ensures.from c.first_later-end.ensures.within c.first_later-end.ensures.before c.first_later-end.ensures.here).0

pub returns-then-first-gt0-clause-end : goal.returns-then-first-gt0-clause-end
returns-then-first-gt0-clause-end c = λ lists v q is b only.
    let l = strictly c.first_earlier-first.result (length c.args.row.now.list.now) c.first_earlier-first.ensures.within c.if-first-list.false in
    (row-within lists v c.args.row.now.list.now c.args.row.now.ranks.now is c.args.row.now.k c.first_earlier-first.result c.first_later-end.result c.if-first-gt0.true l c.first_earlier-first.ensures.before c.first_earlier-first.ensures.here c.first_later-end.ensures.from c.first_later-end.ensures.within c.first_later-end.ensures.before c.first_later-end.ensures.here).1

pub returns-then-end-list-clause-begin : goal.returns-then-end-list-clause-begin
returns-then-end-list-clause-begin c = λ lists v p is b only.
    subst (λ (u : ℕ). BeginsRow lists c.args.row.now.ranks.now c.args.row.now.k v u) (only (begin-alone lists v c.args.row.now.list.now c.args.row.now.ranks.now is c.args.row.now.k c.first_earlier-first.result c.first_later-end.result p (omega (arith, c.if-first-gt0.false)) c.first_earlier-first.ensures.here c.if-end-list.true c.first_later-end.ensures.before b)) b

pub returns-then-end-list-clause-end : goal.returns-then-end-list-clause-end
returns-then-end-list-clause-end c = λ lists v q is b only.
    subst (λ (u : ℕ). EndsRow lists c.args.row.now.ranks.now c.args.row.now.k v u) (only (end-alone lists v c.args.row.now.list.now c.args.row.now.ranks.now is c.args.row.now.k c.first_earlier-first.result c.first_later-end.result q (omega (arith, c.if-first-gt0.false)) c.first_earlier-first.ensures.here c.if-end-list.true c.first_later-end.ensures.before b)) b

pub returns-then-k-last-clause-begin : goal.returns-then-k-last-clause-begin
returns-then-k-last-clause-begin c = λ lists v p is b only. row-round-first lists v c.args.row.now.list.now c.args.row.now.ranks.now is c.args.row.now.k c.first_earlier-first.result c.first_later-end.result (omega (arith, c.if-first-gt0.false)) c.first_earlier-first.ensures.here c.first_later-end.ensures.from c.first_later-end.ensures.within c.if-end-list.false c.first_later-end.ensures.before c.first_later-end.ensures.here

pub returns-clause-begin : goal.returns-clause-begin
returns-clause-begin c = λ lists v p is b only. row-round-first lists v c.args.row.now.list.now c.args.row.now.ranks.now is c.args.row.now.k c.first_earlier-first.result c.first_later-end.result (omega (arith, c.if-first-gt0.false)) c.first_earlier-first.ensures.here c.first_later-end.ensures.from c.first_later-end.ensures.within c.if-end-list.false c.first_later-end.ensures.before c.first_later-end.ensures.here

pub returns-then-k-last-clause-end : goal.returns-then-k-last-clause-end
returns-then-k-last-clause-end c = λ lists v p is b only.
    let none : c.first_earlier-first.result ≡ 0 = omega (arith, c.if-first-gt0.false) in
    let low = λ (l : 0 < length c.args.row.now.list.now). subst (λ (i : ℕ). IsEarlier c.args.row.now.ranks.now c.args.row.now.k c.args.row.now.list.now i) none (c.first_earlier-first.ensures.here (omega (arith, none, l))) in
    row-first lists v c.args.row.now.list.now c.args.row.now.ranks.now is c.args.row.now.k low c.requires (omega (arith, c.if-k-last.true, c.rank-last.ensures))

pub returns-clause-end : goal.returns-clause-end
returns-clause-end c = λ lists v q is b only.
    let l = strictly c.first_later-end.result (length c.args.row.now.list.now) c.first_later-end.ensures.within c.if-end-list.false in
    let n : c.first_earlier-again.result < length c.args.row.now.list.now = elim (cases_lt c.first_earlier-again.result (length c.args.row.now.list.now)) [
      | inl m ↦ m
      | inr m ↦
          let late = c.first_earlier-again.ensures.before (length c.args.row.now.list.now - 1) (omega (arith, l)) (omega (arith, l, m)) in
          absurd (omega (arith, late, c.if-k-last.false, c.rank-last.ensures))
    ] in
    row-again lists v c.args.row.now.list.now c.args.row.now.ranks.now is c.args.row.now.k c.first_later-end.result c.first_earlier-again.result l c.first_later-end.ensures.here c.first_earlier-again.ensures.from n c.first_earlier-again.ensures.before c.first_earlier-again.ensures.here (omega (arith, c.first_later-end.ensures.from))
