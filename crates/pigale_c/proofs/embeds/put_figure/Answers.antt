-- What was found is what the arrays have, if they have room for it.
use Rattle.std.proofs.Common.{refl, inl, inr, ◌∙◌}
use Rattle.pigale_c.specs.Numbers.{outcome_of}
use Rattle.pigale_c.proofs.EmbedLemmas.{written_as, no_room_as, embedded_by_witness}
use Rattle.pigale_c.proofs.embeds.put_figure.Goals as goal

pub returns-then-not-put_lists : goal.returns-then-not-put_lists
returns-then-not-put_lists c =
    let said = c.in_ok-found.ensures in
    let found = rw c.in-Drawn.is at said.figure in
    let put = rw c.if-not-put_lists.true at c.put_lists.ensures in (
      inr (found.0, found.1, inl (c.in-Drawn.lists, found.2.map, no_room_as _ _ _ _ c.args.ends.now c.args.neighbours.now c.ends.ensures c.entries.ensures put.0)),
      put.1,
      put.2,
      refl,
      refl,
    )

pub returns-else-not-put_lists : goal.returns-else-not-put_lists
returns-else-not-put_lists c =
    let said = c.in_ok-found.ensures in
    let found = rw c.in-Drawn.is at said.figure in
    let put = rw c.if-not-put_lists.false at c.put_lists.ensures in (
      said.given,
      said.enough,
      (
        found.0,
        found.1,
        record {
          lists = c.in-Drawn.lists;
          figure = c.in-Drawn.figure;
          drawn = found.2;
          written = written_as _ _ _ _ c.args.ends.now c.args.neighbours.now c.put_lists.new.ends c.put_lists.new.neighbours c.ends.ensures c.entries.ensures put;
          points_are = c.put_points.ensures ∙ c.as_slice.ensures;
        },
      ),
    )

pub returns-in-NotPlanar : goal.returns-in-NotPlanar
returns-in-NotPlanar c =
    let said = c.in_ok-found.ensures in
    let found = rw c.in-NotPlanar.is at said.figure in
    embedded_by_witness c.args.given.now.n c.args.given.now.edges.now found.0 c.in-NotPlanar.witness.kind c.in-NotPlanar.witness.branch c.in-NotPlanar.witness.paths c.args.ends.now c.args.neighbours.now c.put_witness.new.ends c.put_witness.new.vertices c.args.x.now c.args.y.now (outcome_of c.put_witness.result)
    said.given said.enough found.1 found.2 c.put_witness.ensures
