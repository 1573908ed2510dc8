-- The lists that are given away have all entries.
use Rattle.std.proofs.Common.{length, ap, ◌∙◌, arith}
use Rattle.map_lists.proofs.CutLemmas.{length-cut}
use Rattle.planar_code.proofs.OpenLemmas.{all-cuts}
use Rattle.planar_code.proofs.open_lists.OpenLists.exchange.Goals as goal

pub from_parts-requires : goal.from_parts-requires
from_parts-requires c =
    let w = c.whole.inside in
    record {
      cuts = all-cuts w.ends.items w.entries.items c.whole.invariant
          (ap (λ o. o.last) c.whole.view_is ∙ ap (λ o. o.last) c.replace-whole.ensures.value ∙ c.requires.whole);
      few = omega (arith, c.requires.few, length-cut 0 w.ends.items w.entries.items, ap (λ o. length o.lists) c.whole.view_is, ap (λ o. length o.lists) c.replace-whole.ensures.value);
    }
