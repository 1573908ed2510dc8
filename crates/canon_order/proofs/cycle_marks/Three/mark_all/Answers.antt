use Rattle.std.proofs.Common.{◌≡◌, ◌↔◌, ℕ, List, [], ◌∷◌, Bool, true, set, Contains, subst, sym, ap, ◌∙◌, arith}
use Rattle.canon_order.specs.Marks.{is_set}
use Rattle.canon_order.proofs.Marks.{is_set-other, IsTally-none, three_marked}
use Rattle.canon_order.proofs.cycle_marks.Three.mark_all.Goals as goal

pub mark-requires-clause-tally : goal.mark-requires-clause-tally
mark-requires-clause-tally c = IsTally-none c.args.self.now.lists.now c.args.marks.now c.args.counts.now c.requires.unmarked

pub mark-requires-clause-unmarked : goal.mark-requires-clause-unmarked
mark-requires-clause-unmarked c = c.requires.unmarked.none c.args.self.now.first

pub mark-requires-2-clause-unmarked : goal.mark-requires-2-clause-unmarked
mark-requires-2-clause-unmarked c = ap (λ (m : List Bool). is_set m c.args.self.now.second) c.mark.ensures.marks ∙ (is_set-other c.args.marks.now c.args.self.now.first c.args.self.now.second true (λ e. c.args.self.now.first_second (sym e)) ∙ c.requires.unmarked.none c.args.self.now.second)

pub mark-requires-3-clause-unmarked : goal.mark-requires-3-clause-unmarked
mark-requires-3-clause-unmarked c =
    ap (λ (m : List Bool). is_set m c.args.self.now.third) c.mark-2.ensures.marks
    ∙ (is_set-other c.mark.new.marks c.args.self.now.second c.args.self.now.third true (λ e. c.args.self.now.second_third (sym e))
    ∙ (ap (λ (m : List Bool). is_set m c.args.self.now.third) c.mark.ensures.marks ∙ (is_set-other c.args.marks.now c.args.self.now.first c.args.self.now.third true (λ e. c.args.self.now.first_third (sym e)) ∙ c.requires.unmarked.none c.args.self.now.third)))

pub returns-clause-marks : goal.returns-clause-marks
returns-clause-marks c =
    let n = c.requires.unmarked.marks_of_all in
    let two = c.mark-2.ensures.marks ∙ ap (λ (m : List Bool). set m c.args.self.now.second true) c.mark.ensures.marks in
    let three = c.mark-3.ensures.marks ∙ ap (λ (m : List Bool). set m c.args.self.now.third true) two in
    let a = c.args.self.now.first_in in
    let b = c.args.self.now.second_in in
    let e = c.args.self.now.third_in in
    subst (λ (m : List Bool). (u : ℕ) → (is_set m u ≡ true) ↔ Contains (c.args.self.now.first ∷ c.args.self.now.second ∷ c.args.self.now.third ∷ []) u) (sym three)
    (three_marked c.args.marks.now c.args.self.now.first c.args.self.now.second c.args.self.now.third c.requires.unmarked.none (omega arith) (omega arith) (omega arith))
