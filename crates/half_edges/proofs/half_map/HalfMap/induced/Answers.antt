use Rattle.std.proofs.Common.{◌≡◌, ap, ◌∙◌}
use Rattle.half_edges.specs.Induced.{induced_lists}
use Rattle.half_edges.proofs.InducedLemmas.{IsSimpleMap-induced}
use Rattle.half_edges.proofs.half_map.HalfMap.induced.Goals as goal
use Rattle.half_edges.proofs.half_map.HalfMap.induced.Goals.{In_ok-part}

part_is : (c : In_ok-part) → c.in_ok-part.part ≡ induced_lists c.args.keep.now c.args.self.now.lists
part_is c = c.in_ok-part.ensures ∙ ap (λ lists. induced_lists c.args.keep.now lists) c.in_ok-lists.ensures

pub from_simple-requires : goal.from_simple-requires
from_simple-requires c =
    let e = part_is ((goal.at.from_simple-requires c).In_ok-part) in
    record { simple = rw e (IsSimpleMap-induced c.args.keep.now c.args.self.now.lists c.requires.flags c.args.self.now.known.simple c.requires.some) }
