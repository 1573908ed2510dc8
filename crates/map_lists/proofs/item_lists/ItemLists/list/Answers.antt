use Rattle.std.proofs.Common.{◌≡◌, length, ap, ◌∙◌, arith, get_or, []}
use Rattle.map_lists.specs.Cuts.{cut}
use Rattle.map_lists.proofs.CutLemmas.{length-cut}
use Rattle.map_lists.proofs.item_lists.ItemLists.list.Goals as goal

pub piece-requires : goal.piece-requires
piece-requires g c =
    let ends = c.deref-2.ensures.value in
    let entries = c.deref.ensures.value in
    record {
      in_ends = omega (arith, ap length ends, length-cut 0 c.self.inside.ends.items c.self.inside.entries.items, ap length c.self.view_is);
      cuts = rw (ends, entries) c.self.invariant;
    }

pub returns : goal.returns
returns g c =
    let ends = c.deref-2.ensures.value in
    let entries = c.deref.ensures.value in
    let view : cut 0 c.deref-2.result.now c.deref.result.now ≡ c.args.self.now = rw (ends, entries) c.self.view_is in
    c.piece.ensures ∙ ap (λ lists. get_or lists c.args.i []) view
