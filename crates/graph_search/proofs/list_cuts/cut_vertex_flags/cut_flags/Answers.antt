use Rattle.std.proofs.Common.{◌≡◌, List, Bool, length, sym, ◌∙◌, subst}
use Rattle.std.proofs.lemmas.List.{take_at}
use Rattle.graph_search.specs.Flags.{AreCutFlags}
use Rattle.graph_search.proofs.FlagLemmas.{AreCutFlags-told}
use Rattle.graph_search.proofs.list_cuts.cut_vertex_flags.cut_flags.Goals as goal

pub returns : goal.returns
returns c =
    let lists = c.args.lists.now in
    let f = c.in_ok-forest.forest in
    let low = c.in_ok-low.low in
    let flags = c.set_flags.new.flags in
    let len : length flags ≡ c.in_ok-flags.flags.len = c.set_flags.auto.flags ∙ c.deref_mut.ensures.len in
    let count : length flags ≡ length lists = len ∙ (c.in_ok-flags.ensures.len ∙ c.len.ensures.is) in
    let told = rw (c.deref.ensures.value, c.deref-2.ensures.value, c.deref-3.ensures.value) at c.set_flags.ensures in
    subst (λ (xs : List Bool). AreCutFlags lists xs) (sym (take_at flags _ c.in_ok-flags.flags.len len))
    (AreCutFlags-told lists c.requires.adjacency f.order.items f.number.items f.last.items f.parent.items low.items c.in_ok-forest.ensures c.in_ok-low.ensures flags count told)
