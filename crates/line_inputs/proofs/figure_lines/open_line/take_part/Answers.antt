-- No line was taken at the front, and the part holds a byte 10 or none.
use Rattle.std.proofs.Common.{◌≡◌, ◌<◌, ◌++◌, ℕ, List, length, take, sym, subst, arith, rules}
use Rattle.std.proofs.lemmas.List.{nil_from_length}
use Rattle.line_inputs.specs.FigureLinesProgress.{Progress}
use Rattle.line_inputs.proofs.FigureLinesPartLemmas.{joins-all, closes-line, joined}
use Rattle.line_inputs.proofs.figure_lines.open_line.take_part.Goals as goal

pub returns-then-len-part-clause-takes : goal.returns-then-len-part-clause-takes
returns-then-len-part-clause-takes c = λ consumed figures p few.
    let lent : c.deref.result.now ≡ c.args.pending.now.items = search rules in
    let here = subst (λ (x : List ℕ). Progress consumed figures c.args.line x c.args.before) (sym lent) p in
    let front = rw c.in-NoLine.is at (c.in_ok-run.ensures.takes consumed figures c.args.line few here) in
    let still = subst (λ (x : List ℕ). Progress consumed figures c.args.line x c.in-NoLine.before) lent front in
    joins-all consumed figures c.args.line c.args.pending.now.items c.extend_from_slice.new.self.items c.in-NoLine.before c.args.part.now c.line_length-len.result c.if-len-part.true c.line_length-len.ensures.before c.in_ok-extend_from_slice-in-NoLine.ensures.items still

pub returns-in_ok-after-in-NoLine-clause-takes : goal.returns-in_ok-after-in-NoLine-clause-takes
returns-in_ok-after-in-NoLine-clause-takes c = λ consumed figures p few.
    let lent : c.deref.result.now ≡ c.args.pending.now.items = search rules in
    let here = subst (λ (x : List ℕ). Progress consumed figures c.args.line x c.args.before) (sym lent) p in
    let front = rw c.in-NoLine.is at (c.in_ok-run.ensures.takes consumed figures c.args.line few here) in
    let still = subst (λ (x : List ℕ). Progress consumed figures c.args.line x c.in-NoLine.before) lent front in
    let n = c.line_length-len.result in
    let part = c.args.part.now in
    let within : n < length part = let le = c.line_length-len.ensures.within in let ne = c.if-len-part.false in omega arith in
    let line : c.chosen.result.now ≡ c.args.pending.now.items ++ take n part =
    joined c.is_empty-alone.result c.args.pending.now.items (take n part) c.join.new.front.items c.chosen.result.now (λ is. nil_from_length c.args.pending.now.items (search rules)) c.in_ok-join-in-NoLine.ensures (search rules) in
    (c.clear.ensures.items, closes-line consumed figures c.args.line c.args.pending.now.items c.chosen.result.now c.in-NoLine.before c.in_ok-after-in-NoLine.after part n within c.line_length-len.ensures.before (c.line_length-len.ensures.found within) few line still c.in_ok-after-in-NoLine.ensures.makes)
