use Rattle.std.proofs.Common.{◌++◌, length, ap, ◌∙◌, arith}
use Rattle.map_lists.proofs.CutLemmas.{IsStored, IsStored-cut, IsStored-cuts, length-cut}
use Rattle.convex_orders.proofs.row_calls.copied.Goals as goal

pub from_parts-requires : goal.from_parts-requires
from_parts-requires c =
    let entries = c.in_ok-extend_from_slice.ensures.items ∙ (ap (λ xs. xs ++ c.entries.result.now) c.clear.ensures.items ∙ c.entries.ensures) in
    let ends = c.in_ok-extend_from_slice-2.ensures.items ∙ (ap (λ xs. xs ++ c.ends.result.now) c.clear-2.ensures.items ∙ c.ends.ensures) in
    let stored : IsStored c.args.lists.now c.extend_from_slice.new.self.items c.extend_from_slice-2.new.self.items = record { entries_are = entries; ends_are = ends } in
    record {
      cuts = IsStored-cuts _ _ _ stored;
      few = omega (arith, c.facts.ensures, ap length (IsStored-cut _ _ _ stored), length-cut 0 c.extend_from_slice-2.new.self.items c.extend_from_slice.new.self.items);
    }

pub returns : goal.returns
returns c =
    let entries = c.in_ok-extend_from_slice.ensures.items ∙ (ap (λ xs. xs ++ c.entries.result.now) c.clear.ensures.items ∙ c.entries.ensures) in
    let ends = c.in_ok-extend_from_slice-2.ensures.items ∙ (ap (λ xs. xs ++ c.ends.result.now) c.clear-2.ensures.items ∙ c.ends.ensures) in
    c.from_parts.ensures ∙ IsStored-cut c.args.lists.now _ _ (record { entries_are = entries; ends_are = ends })
