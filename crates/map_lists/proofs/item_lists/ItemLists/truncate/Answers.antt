use Rattle.std.proofs.Common.{ap, ◌∙◌, length, take, get_or, arith, ◌∷◌, sym}
use Rattle.std.proofs.lemmas.List.{take_all}
use Rattle.map_lists.proofs.CutLemmas.{IsStored-cut, IsStored-cuts, cut_short, length-cut}
use Rattle.map_lists.proofs.item_lists.ItemLists.truncate.Goals as goal

pub invariant_of-self : goal.invariant_of-self
invariant_of-self g c =
    let start = c.start_of.ensures ∙ ap (λ ks. get_or (0 ∷ ks) c.args.count 0) c.deref.ensures.value in
    IsStored-cuts _ _ _ (cut_short c.self.inside.ends.items _ c.self.inside.entries.items _ c.args.count c.self.invariant (omega (arith, c.self.inside.ends.ok.0)) start c.truncate.ensures.items c.truncate-then-count-len.ensures.items)

pub returns-then-count-len : goal.returns-then-count-len
returns-then-count-len g c =
    let start = c.start_of.ensures ∙ ap (λ ks. get_or (0 ∷ ks) c.args.count 0) c.deref.ensures.value in
    IsStored-cut _ _ _ (cut_short c.self.inside.ends.items _ c.self.inside.entries.items _ c.args.count c.self.invariant (omega (arith, c.self.inside.ends.ok.0)) start c.truncate.ensures.items c.truncate-then-count-len.ensures.items)
    ∙ ap (λ lists. take c.args.count lists) c.self.view_is

pub returns-else-count-len : goal.returns-else-count-len
returns-else-count-len g c = sym (take_all c.args.count c.args.self.now (omega (arith, c.self.inside.ends.ok.0, length-cut 0 c.self.inside.ends.items c.self.inside.entries.items, ap length c.self.view_is)))
