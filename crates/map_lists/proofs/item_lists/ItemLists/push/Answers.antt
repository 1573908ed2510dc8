use Rattle.std.proofs.Common.{ap, ◌∙◌, arith, ◌++◌, ◌∷◌, []}
use Rattle.map_lists.proofs.CutLemmas.{IsStored-cuts, IsStored-cut, pushed}
use Rattle.map_lists.proofs.item_lists.ItemLists.push.Goals as goal

pub invariant_of-self-in-Ok : goal.invariant_of-self-in-Ok
invariant_of-self-in-Ok g c =
    IsStored-cuts _ _ _ (pushed c.self.inside.ends.items _ c.self.inside.entries.items _ c.args.list.now c.self.invariant c.in_ok-extend_from_slice.ensures.items c.in-Ok.ensures.items (omega (arith, c.extend_from_slice.new.self.ok.0)))

pub returns-in-Ok-clause-ok : goal.returns-in-Ok-clause-ok
returns-in-Ok-clause-ok g c =
    IsStored-cut _ _ _ (pushed c.self.inside.ends.items _ c.self.inside.entries.items _ c.args.list.now c.self.invariant c.in_ok-extend_from_slice.ensures.items c.in-Ok.ensures.items (omega (arith, c.extend_from_slice.new.self.ok.0)))
    ∙ ap (λ lists. lists ++ c.args.list.now ∷ []) c.self.view_is
