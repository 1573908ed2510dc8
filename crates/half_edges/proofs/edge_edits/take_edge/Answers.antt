use Rattle.std.proofs.Common.{arith}
use Rattle.half_edges.proofs.TakenLemmas.{d_in, pair, ends_apart, first_within, first_degree, second_within, second_degree, second_vertex, twin_in_two, d_in_two, wired_new, ids_new}
use Rattle.half_edges.proofs.edge_edits.take_edge.Goals as goal

pub ends_of-ends-requires : goal.ends_of-ends-requires
ends_of-ends-requires c = ends_apart _ _ _ _ _ c.requires.wired c.args.d c.requires.live

pub take_out-requires : goal.take_out-requires
take_out-requires c =
    let within = first_within _ _ _ _ _ c.requires.wired c.args.d c.requires.live in
    record {
      d_in = d_in _ _ _ _ _ c.requires.wired c.args.d c.requires.live;
      prev_in = within.prev;
      next_in = within.next;
      vertex_in = within.vertex;
      some = first_degree _ _ _ _ _ c.requires.wired c.args.d c.requires.live;
    }

pub take_out-requires-2 : goal.take_out-requires-2
take_out-requires-2 c =
    let within = second_within _ _ _ _ _ c.requires.wired c.args.d c.requires.live _ _ c.take_out.ensures in
    record {
      d_in = omega (arith, c.take_out.ensures.unspliced.count, (pair _ _ _ _ _ c.requires.wired c.args.d c.requires.live).within);
      prev_in = within.prev;
      next_in = within.next;
      vertex_in = second_vertex _ _ _ _ _ c.requires.wired c.args.d c.requires.live _ _ c.take_out.ensures;
      some = second_degree _ _ _ _ _ c.requires.wired c.args.d c.requires.live _ _ c.take_out.ensures;
    }

pub thread-requires : goal.thread-requires
thread-requires c = record {
  d_in = d_in_two _ _ _ _ _ c.requires.wired c.args.d c.requires.live _ _ c.take_out.ensures _ _ c.take_out-2.ensures;
  twin_in = twin_in_two _ _ _ _ _ c.requires.wired c.args.d c.requires.live _ _ c.take_out.ensures _ _ c.take_out-2.ensures;
}

pub returns-clause-wired : goal.returns-clause-wired
returns-clause-wired c = wired_new _ _ _ _ _ c.requires.wired c.args.d c.requires.live _ _ c.take_out.ensures _ _ c.take_out-2.ensures _ c.thread.ensures

pub returns-clause-ids : goal.returns-clause-ids
returns-clause-ids c = ids_new _ _ _ _ _ c.requires.wired c.args.d c.requires.live _ _ c.take_out.ensures _ _ c.take_out-2.ensures _ c.thread.ensures
