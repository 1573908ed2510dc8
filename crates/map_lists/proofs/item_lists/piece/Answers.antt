use Rattle.std.proofs.Common.{length, get_or, slice_range, ap, sym, ◌∙◌, arith}
use Rattle.map_lists.proofs.CutLemmas.{AreCuts-at, get_or-cut}
use Rattle.map_lists.proofs.item_lists.piece.Goals as goal

pub part-requires : goal.part-requires
part-requires g c =
    let bounds = AreCuts-at 0 c.args.ends.now (length c.args.entries.now) c.args.i c.requires.cuts c.requires.in_ends in
    record { order = omega (arith, c.start_of.ensures, bounds.0); within = bounds.1 }

pub returns : goal.returns
returns g c =
    c.part.ensures
    ∙ ap (λ start. slice_range c.args.entries.now start (get_or c.args.ends.now c.args.i 0)) c.start_of.ensures
    ∙ sym (get_or-cut 0 c.args.ends.now c.args.entries.now c.args.i c.requires.in_ends)
