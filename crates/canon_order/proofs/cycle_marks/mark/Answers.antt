use Rattle.std.proofs.Common.{◌≡◌, ◌+◌, ◌<◌, ℕ, List, length, get_or, All, subst, sym, arith}
use Rattle.map_theory.proofs.EntryLemmas.{count_of}
use Rattle.canon_order.proofs.Marks.{list_within, room, IsTally-marked, elsewhere-marked}
use Rattle.canon_order.proofs.cycle_marks.mark.Goals as goal

pub raise-requires-clause-within : goal.raise-requires-clause-within
raise-requires-clause-within c =
    let n = c.requires.tally.counts_of_all in
    subst (λ (us : List ℕ). All (λ u. u < length c.args.counts.now) us) (sym c.list.ensures) (λ k d l. let h = list_within c.args.lists.now c.requires.simple c.args.v c.requires.vertex k d l in omega arith)

pub raise-requires-clause-room : goal.raise-requires-clause-room
raise-requires-clause-room c =
    subst (λ (us : List ℕ). (w : ℕ) → get_or c.args.counts.now w 0 + count_of w us < 65536) (sym c.list.ensures)
    (room c.args.lists.now c.requires.simple c.args.marks.now c.args.counts.now c.args.v c.requires.vertex c.requires.tally c.facts.ensures)

pub returns-clause-tally : goal.returns-clause-tally
returns-clause-tally c =
    let more = subst (λ (vs : List ℕ). (w : ℕ) → w < length c.args.counts.now → get_or c.raise.new.counts w 0 ≡ get_or c.args.counts.now w 0 + count_of w vs) c.list.ensures c.raise.ensures in
    IsTally-marked c.args.lists.now c.requires.simple c.args.marks.now c.args.counts.now c.args.v c.requires.vertex c.requires.tally c.raise.new.counts c.raise.auto.counts c.requires.unmarked more

pub returns-clause-elsewhere : goal.returns-clause-elsewhere
returns-clause-elsewhere c =
    let more = subst (λ (vs : List ℕ). (w : ℕ) → w < length c.args.counts.now → get_or c.raise.new.counts w 0 ≡ get_or c.args.counts.now w 0 + count_of w vs) c.list.ensures c.raise.ensures in
    elsewhere-marked c.args.lists.now c.requires.simple c.args.marks.now c.args.counts.now c.args.v c.requires.vertex c.requires.tally c.raise.new.counts c.raise.auto.counts more
