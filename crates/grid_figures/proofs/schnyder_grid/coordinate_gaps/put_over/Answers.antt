use Rattle.std.proofs.Common.{length, arith}
use Rattle.grid_figures.proofs.Writes.{tail_within, tail_distinct, drop_small, rise_small, AreGaps-put}
use Rattle.grid_figures.proofs.schnyder_grid.coordinate_gaps.put_over.Goals as goal

pub cover_interval-span-requires-clause-drops : goal.cover_interval-span-requires-clause-drops
cover_interval-span-requires-clause-drops c =
    let w = c.requires.put in
    tail_within w.0 w.1 w.2 c.args.row.now c.args.v c.args.drops.now c.args.rises.now c.args.spans.now c.args.covers.now w.3 w.4 (length c.args.drops.now) c.requires.within

pub cover_interval-span-requires-clause-distinct : goal.cover_interval-span-requires-clause-distinct
cover_interval-span-requires-clause-distinct c =
    let w = c.requires.put in
    tail_distinct w.0 w.1 w.2 c.args.row.now c.args.v c.args.drops.now c.args.rises.now c.args.spans.now c.args.covers.now w.3 w.4

pub cover_interval-span-requires-clause-drops_room : goal.cover_interval-span-requires-clause-drops_room
cover_interval-span-requires-clause-drops_room c =
    let w = c.requires.put in
    let small = drop_small w.0 w.1 w.2 c.args.row.now c.args.v c.args.drops.now c.args.rises.now c.args.spans.now c.args.covers.now w.3 w.4 in
    let few = c.requires.tables.few in
    let in_v = c.requires.within in
    omega arith

pub cover_interval-span-requires-clause-rises : goal.cover_interval-span-requires-clause-rises
cover_interval-span-requires-clause-rises c =
    let w = c.requires.put in
    let same = c.requires.tables.rises_of_all in
    let in_v = c.requires.within in
    tail_within w.0 w.1 w.2 c.args.row.now c.args.v c.args.drops.now c.args.rises.now c.args.spans.now c.args.covers.now w.3 w.4 (length c.args.rises.now) (omega arith)

pub cover_interval-span-requires-clause-rises_room : goal.cover_interval-span-requires-clause-rises_room
cover_interval-span-requires-clause-rises_room c =
    let w = c.requires.put in
    let small = rise_small w.0 w.1 w.2 c.args.row.now c.args.v c.args.drops.now c.args.rises.now c.args.spans.now c.args.covers.now w.3 w.4 in
    let few = c.requires.tables.few in
    let in_v = c.requires.within in
    omega arith

pub cover_interval-span-requires-clause-covers : goal.cover_interval-span-requires-clause-covers
cover_interval-span-requires-clause-covers c =
    let w = c.requires.put in
    let same = c.requires.tables.covers_of_all in
    let in_v = c.requires.within in
    tail_within w.0 w.1 w.2 c.args.row.now c.args.v c.args.drops.now c.args.rises.now c.args.spans.now c.args.covers.now w.3 w.4 (length c.args.covers.now) (omega arith)

pub returns : goal.returns
returns c = λ g s at put before.
    let same = c.cover_interval-span.auto.drops in
    let same' = c.cover_interval-span.auto.rises in
    let few = c.requires.within in
    let rises = c.requires.tables.rises_of_all in
    let spans = c.requires.tables.spans_of_all in
    AreGaps-put g s at c.args.row.now c.args.v c.args.drops.now c.args.rises.now c.args.spans.now c.args.covers.now put before c.cover_interval-span.result c.cover_interval-span.new.drops c.cover_interval-span.new.rises c.cover_interval-span.new.covers c.cover_interval-span.ensures.far
    c.cover_interval-span.ensures.drops c.cover_interval-span.ensures.rises c.cover_interval-span.ensures.covered (omega arith) (omega arith) (omega arith)
