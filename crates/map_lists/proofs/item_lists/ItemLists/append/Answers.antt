use Rattle.std.proofs.Common.{ap, ap₂, ◌∙◌, ◌≡◌, ◌-◌, length, set, arith}
use Rattle.map_lists.proofs.CutLemmas.{IsStored-cut, AreCuts-appended, appended, length-cut}
use Rattle.map_lists.proofs.item_lists.ItemLists.append.Goals as goal

pub invariant_of-self : goal.invariant_of-self
invariant_of-self g c =
    let ends = c.self.inside.ends.items in
    let e : c.len-last.result ≡ length ends = omega (arith, c.self.inside.ends.ok.0) in
    let total : c.len.result ≡ length c.push.new.self.items = omega (arith, c.push.new.self.ok.0) in
    AreCuts-appended ends _ c.self.inside.entries.items _ c.args.item (omega (arith, length-cut 0 ends c.self.inside.entries.items, ap length c.self.view_is)) c.self.invariant c.in-Ok.ensures.items (ap₂ (λ k t. set ends (k - 1) t) e total)

pub returns-in-Ok-clause-ok : goal.returns-in-Ok-clause-ok
returns-in-Ok-clause-ok g c before last split =
    let ends = c.self.inside.ends.items in
    let e : c.len-last.result ≡ length ends = omega (arith, c.self.inside.ends.ok.0) in
    let total : c.len.result ≡ length c.push.new.self.items = omega (arith, c.push.new.self.ok.0) in
    IsStored-cut _ _ _ (appended ends _ c.self.inside.entries.items _ c.args.item before last c.self.invariant (c.self.view_is ∙ split) c.in-Ok.ensures.items (ap₂ (λ k t. set ends (k - 1) t) e total))
