use Rattle.std.proofs.Common.{◌≡◌, ◌+◌, ◌<◌, ℕ, List, true, length, get_or, set, All, Contains, refl, subst, sym, ◌∙◌, arith, length-set}
use Rattle.map_theory.specs.Maps.{list_of}
use Rattle.map_theory.proofs.EntryLemmas.{count_of}
use Rattle.canon_order.specs.Marks.{IsNoted}
use Rattle.canon_order.proofs.Marks.{is_set-here, list_within, room, IsTally-marked, elsewhere-marked, IsNoted-marked, IfOk-of_noted}
use Rattle.canon_order.proofs.cycle_marks.AtVertex.mark_new.Goals as goal

pub raise_noting-requires-clause-within : goal.raise_noting-requires-clause-within
raise_noting-requires-clause-within c =
    let n = c.requires.tally.counts_of_all in
    subst (λ (us : List ℕ). All (λ u. u < length c.args.near.now) us) (sym c.list.ensures) (λ k d l. let h = list_within c.args.self.now.lists.now c.facts.ensures c.args.self.now.v c.args.self.now.vertex k d l in omega arith)

pub raise_noting-requires-clause-marks : goal.raise_noting-requires-clause-marks
raise_noting-requires-clause-marks c =
    let n = c.requires.tally.marks_of_all in
    let same = length-set c.args.marked.now c.args.self.now.v true in
    subst (λ (us : List ℕ). All (λ u. u < length (set c.args.marked.now c.args.self.now.v true)) us) (sym c.list.ensures) (λ k d l. let h = list_within c.args.self.now.lists.now c.facts.ensures c.args.self.now.v c.args.self.now.vertex k d l in omega arith)

pub raise_noting-requires-clause-room : goal.raise_noting-requires-clause-room
raise_noting-requires-clause-room c =
    subst (λ (us : List ℕ). (w : ℕ) → get_or c.args.near.now w 0 + count_of w us < 65536) (sym c.list.ensures)
    (room c.args.self.now.lists.now c.facts.ensures c.args.marked.now c.args.near.now c.args.self.now.v c.args.self.now.vertex c.requires.tally c.args.self.now.few)

pub returns-clause-noted : goal.returns-clause-noted
returns-clause-noted c =
    let lists = c.args.self.now.lists.now in
    let v = c.args.self.now.v in
    let near = c.raise_noting.new.counts in
    let stack = c.raise_noting.new.stack.items in
    let within = list_within lists c.facts.ensures v c.args.self.now.vertex in
    let more = λ (vs : List ℕ). (w : ℕ) → w < length c.args.near.now → get_or near w 0 ≡ get_or c.args.near.now w 0 + count_of w vs in
    let same = sym c.reserve.ensures.items in
    let old = c.note.ensures.vertices (length lists) c.args.self.now.vertex (subst (λ (us : List ℕ). All (λ u. u < length lists) us) same c.requires.vertices) in
    IfOk-of_noted c.raise_noting.result (λ _. more c.list.result.now) _ _ _ (λ _. IsNoted lists c.args.marked.now c.args.near.now c.args.stack.now.items (set c.args.marked.now v true) near stack)
    (λ _ counts kept vertices noted.
    let counts' = subst more c.list.ensures counts in
    let elsewhere = elsewhere-marked lists c.facts.ensures c.args.marked.now c.args.near.now v c.args.self.now.vertex c.requires.tally near c.raise_noting.auto.counts counts' in
    let own : ¬ Contains (list_of lists v) v = λ has. c.facts.ensures.no_loop v v (c.args.self.now.vertex, has) refl in
    IsNoted-marked lists c.args.marked.now c.args.near.now c.args.stack.now.items v _ near stack refl
    (IsTally-marked lists c.facts.ensures c.args.marked.now c.args.near.now v c.args.self.now.vertex c.requires.tally near c.raise_noting.auto.counts c.requires.unmarked counts')
    elsewhere
    (vertices (length lists) (subst (λ (us : List ℕ). All (λ u. u < length lists) us) (sym c.list.ensures) within) old)
    (λ u has. kept u (c.note.ensures.kept u (subst (λ (us : List ℕ). Contains us u) same has)))
    (λ two. kept v (c.note.ensures.noted (is_set-here c.args.marked.now v true (let m = c.requires.tally.marks_of_all in let l = c.args.self.now.vertex in omega arith)) (sym (elsewhere v own) ∙ two)))
    (λ u has on two. noted u (subst (λ (us : List ℕ). Contains us u) (sym c.list.ensures) has) on two))
    c.raise_noting.ensures.counts c.raise_noting.ensures.kept c.raise_noting.ensures.vertices c.raise_noting.ensures.noted
