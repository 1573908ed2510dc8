use Rattle.std.proofs.Common.{◌≡◌, Contains, length, get_or, take, ap, ◌∙◌, subst, arith}
use Rattle.std.proofs.Math.Seq.{take-length}
use Rattle.std.proofs.lemmas.List.Elements.{Contains-get_or}
use Rattle.map_theory.proofs.EntryLemmas.{count_of}
use Rattle.graph_search.proofs.Sums.{joined-at, all_into-joined}
use Rattle.graph_search.proofs.longest_paths.arc_queue.count_arcs.Goals as goal

pub bounds-counts-r : goal.bounds-counts-r
bounds-counts-r c =
    let items = c.entries-r-items.result.now in
    let x = get_or items c.loop-r.r-index 0 in
    let found = joined-at c.args.arcs.now x (subst (λ us. Contains us x) c.entries-r-items.ensures (Contains-get_or items c.loop-r.r-index 0 c.loop-r-test.true)) in
    omega (arith, c.requires.within found.0 x found.1, c.requires.size)

pub bounds-counts-r-in-loop-r : goal.bounds-counts-r-in-loop-r
bounds-counts-r-in-loop-r c =
    let items = c.entries-r-items.result.now in
    let x = get_or items c.loop-r.r-index 0 in
    let found = joined-at c.args.arcs.now x (subst (λ us. Contains us x) c.entries-r-items.ensures (Contains-get_or items c.loop-r.r-index 0 c.loop-r-test.true)) in
    omega (arith, c.requires.within found.0 x found.1, c.requires.size)

pub returns : goal.returns
returns c = λ r l.
    let items = c.entries-r-items.result.now in
    let arcs = c.args.arcs.now in
    let end : c.loop-r.r-index ≡ length items = omega (arith, c.loop-r-test.false) in
    let whole = ap (λ k. count_of r (take k items)) end ∙ ap (count_of r) (take-length items ∙ c.entries-r-items.ensures) in
    omega (arith, c.loop-r.invariant r (omega (arith, l, c.requires.size)), whole, all_into-joined arcs r)
