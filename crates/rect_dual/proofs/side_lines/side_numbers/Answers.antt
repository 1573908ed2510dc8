use Rattle.std.proofs.Common.{◌≡◌, ◌+◌, ℕ, suc, length, sym, subst, ap, ◌∙◌, arith}
use Rattle.rect_dual.specs.SidesOfBoxes.{number_of, second_line, IsSideState}
use Rattle.rect_runs.specs.Numbers.{numbers}
use Rattle.rect_dual.proofs.RectNumbersRows.{lines_begin, lines_more, from_bool-le, line_count}
use Rattle.rect_dual.proofs.SideLemmas.{AreLines-done, AreLines-at}
use Rattle.rect_dual.proofs.side_lines.side_numbers.Goals as goal

pub loop-k-init : goal.loop-k-init
loop-k-init c =
    let is = c.in_ok-made.ensures.side in
    let n = length c.args.turned.now.rows.now in
    let made = c.in_ok-made.made in
    record {
      side = is;
      size = omega (arith, c.in_ok-made.ensures.size, c.len-n.ensures.is);
      few = omega (arith, c.from-count.ensures, c.second_line.ensures.bound);
      state = λ steps rows turns labelled. (
        c.in_ok-made.ensures.state steps n,
        ap (λ k. k + 1) (c.from-count.ensures ∙ c.second_line.ensures.line) ∙ lines_begin c.args.side steps,
      );
    }

pub loop-k-preserved : goal.loop-k-preserved
loop-k-preserved c =
    let h = c.loop-k.invariant in
    let t = c.args.turned.now in
    let n = length t.rows.now in
    let k : ℕ = c.loop-k.k in
    let made = c.put.new.self in
    let own = c.gets_line.result in
    let next : suc k ≡ k + 1 = omega arith in
    record {
      side = c.put.ensures.side ∙ h.side;
      size = c.put.ensures.size ∙ h.size;
      few = omega (arith, h.few, from_bool-le own, c.from-count-in-loop-k.ensures);
      state = λ steps rows turns labelled.
          let old = h.state steps rows turns labelled in
          let before = subst (λ s. IsSideState s steps n k c.loop-k.made.lines.items c.loop-k.made.next.items c.loop-k.made.links.items c.loop-k.made.leads.items) (sym h.side) old.0 in
          let after = subst (λ s. IsSideState s steps n (suc k) made.lines.items made.next.items made.links.items made.leads.items) h.side (c.put.ensures.state steps rows turns labelled before) in (
            subst (λ j. IsSideState c.args.side steps n j made.lines.items made.next.items made.links.items made.leads.items) next after,
            ap (λ b. c.loop-k.count + b) c.from-count-in-loop-k.ensures ∙ lines_more c.args.side steps k _ own c.loop-k.count (turns.run k (omega (arith, c.loop-k-test.true, c.len-n.ensures.is))) c.gets_line.ensures old.1 ∙ ap (line_count c.args.side steps) next,
          );
    }

pub returns-clause-numbers : goal.returns-clause-numbers
returns-clause-numbers c = λ steps rows turns labelled v l.
    let side = c.args.side in
    let n = length c.args.turned.now.rows.now in
    let done = c.loop-k.made in
    let lines = c.deref.ensures.value in
    let all : c.loop-k.k ≡ n = omega (arith, c.loop-k-test.false, c.loop-k.auto.k-end, c.len-n.ensures.is) in
    let size : length c.deref.result.now ≡ n + 2 = omega (arith, ap length lines, c.loop-k.invariant.size) in
    let end = c.loop-k.invariant.state steps rows turns labelled in
    let lie = AreLines-done side steps n done.lines.items done.next.items done.links.items done.leads.items (subst (λ k. IsSideState side steps n k done.lines.items done.next.items done.links.items done.leads.items) all end.0) in
    c.in_ok-numbers.ensures.numbers (number_of side (numbers steps n))
    (AreLines-at (number_of side (numbers steps n)) (n + 2) _ (line_count side steps n) _ (second_line side) _ done.lines.items _ done.next.items _ size (end.1 ∙ ap (line_count side steps) all) c.second_line-2.ensures.line lines c.deref-2.ensures.value lie)
    v (omega (arith, l, size))
