-- The paths are what the arrays have, if they have room for them.
use Rattle.std.proofs.Common.{map, ap, refl, ◌∙◌}
use Rattle.pigale_c.specs.Embedded.{number}
use Rattle.pigale_c.proofs.EmbedLemmas.{written_as, no_room_as}
use Rattle.pigale_c.proofs.witness_paths.put_witness.Goals as goal

pub returns-then-not-put_lists : goal.returns-then-not-put_lists
returns-then-not-put_lists c =
    let vertices = c.deref.ensures.value ∙ c.in_ok-numbers.ensures ∙ ap (map number) c.entries.ensures in
    let put = rw c.if-not-put_lists.true at c.put_lists.ensures in
    (no_room_as _ _ _ _ c.args.ends.now c.args.vertices.now c.ends.ensures vertices put.0, put.1, put.2)

pub returns : goal.returns
returns c =
    let vertices = c.deref.ensures.value ∙ c.in_ok-numbers.ensures ∙ ap (map number) c.entries.ensures in
    let put = rw c.if-not-put_lists.false at c.put_lists.ensures in
    (refl, written_as _ _ _ _ c.args.ends.now c.args.vertices.now c.put_lists.new.ends c.put_lists.new.neighbours c.ends.ensures vertices put)
