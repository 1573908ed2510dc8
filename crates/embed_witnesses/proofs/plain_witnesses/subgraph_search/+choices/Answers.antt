use Rattle.std.proofs.Common.{length, sym, ◌∙◌, arith, rules}
use Rattle.std.proofs.lemmas.Bool.{true≢false}
use Rattle.std.proofs.lemmas.Grind.{get_or_default_zero}
use Rattle.embed_witnesses.proofs.Plain.{is_witness, is_joined, is_live, weaker}
use Rattle.embed_witnesses.proofs.plain_witnesses.subgraph_search.+choices.Goals as goal

pub begun-returns-then-chosen-branch_count : goal.begun-returns-then-chosen-branch_count
begun-returns-then-chosen-branch_count t c =
    let full = c.if-chosen-branch_count.true in
    let n = c.branch_count.ensures in
    weaker c.as_witness.result _ _ _ (λ none branch plain begins. none (is_witness c.args.search.now.graph.now c.args.search.now.kind branch plain c.args.chosen.now begins (omega arith))) c.as_witness.ensures

pub begun-returns : goal.begun-returns
begun-returns t c branch plain begins =
    let few = c.if-chosen-branch_count.false in
    let n = c.branch_count.ensures in
    let live = is_live c.args.search.now.graph.now c.args.search.now.kind branch c.args.search.now.live.now (length c.args.chosen.now) plain c.requires.live (omega arith) in
    let l = live.1 in
    let t = c.loop-i-test.false in
    let a = c.loop-i.auto.i-end in
    c.loop-i.invariant branch plain begins live.0 (omega arith) (sym live.2 ∙ get_or_default_zero c.args.search.now.live.now live.0 (branch (length c.args.chosen.now)) l)

pub continued-returns-then-not-has : goal.continued-returns-then-not-has
continued-returns-then-not-has t c branch plain begins next =
    true≢false (sym (is_joined c.args.search.now.graph.now c.args.search.now.kind branch c.args.chosen.now c.args.v c.loop-i.i plain begins c.requires.few next (omega (arith, c.loop-i-test.true)) (search rules)) ∙ (sym c.has.ensures ∙ c.if-not-has.true))
