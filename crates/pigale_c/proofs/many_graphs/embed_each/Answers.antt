-- A graph more is embedded.
use Rattle.std.proofs.Common.{◌∙◌, arith}
use Rattle.std.proofs.lemmas.List.{length-set}
use Rattle.pigale_c.specs.ManyGraphs.{EmbedRows, EmbedsEach, rows_in, rows_of_graph}
use Rattle.pigale_c.specs.Numbers.{outcome_of}
use Rattle.pigale_c.proofs.ManyLemmas.{more_answered}
use Rattle.pigale_c.proofs.ManyGraphLemmas.{embeds_as, rows_kept}
use Rattle.pigale_c.proofs.many_graphs.embed_each.Goals as goal

pub loop-i-preserved : goal.loop-i-preserved
loop-i-preserved c =
    let graphs = c.args.graphs.now in
    let i = c.loop-i.i in
    let h = c.loop-i.invariant in
    let call = c.embed_part-call.ensures in
    let new = c.embed_part-call.new in
    let points = c.points_of.ensures in
    let room = c.ends_of.ensures in
    let entries = c.neighbours_of.ensures in
    let old = rows_in c.loop-i.ends c.loop-i.neighbours c.loop-i.x c.loop-i.y in
    let next = rows_in new.ends new.neighbours new.x new.y in (
      more_answered EmbedRows (EmbedsEach graphs.vertex_ends.now graphs.edge_ends.now graphs.edges.now) (rows_of_graph graphs.vertex_ends.now graphs.edge_ends.now (rows_in c.args.ends.now c.args.neighbours.now c.args.x.now c.args.y.now)) (rows_of_graph graphs.vertex_ends.now graphs.edge_ends.now old) (rows_of_graph graphs.vertex_ends.now graphs.edge_ends.now next)
          c.args.statuses.now c.loop-i.statuses c.args.found.now c.loop-i.found i c.report.result c.report.new.found
          h.0 (omega (arith, c.requires.given.answers.statuses, c.loop-i-test.true)) h.1 (omega (arith, c.requires.given.answers.statuses, c.requires.given.answers.found))
          (λ k other l.
          rows_kept graphs.vertex_ends.now graphs.edge_ends.now graphs.edges.now _ _ _ k i _ _ _ _ _ _ old next c.requires.given.given other (omega (arith, c.requires.given.answers.statuses, l)) c.loop-i-test.true
          (record {
            ends = record { from_is = room.from; to_is = room.to; within = call.ends };
            neighbours = record { from_is = entries.from; to_is = entries.to; within = call.neighbours };
            xs = record { from_is = points.from; to_is = points.to; within = call.x };
            ys = record { from_is = points.from; to_is = points.to; within = call.y };
          }))
          (record {
            outcome = outcome_of c.embed_part-call.result;
            right = embeds_as _ _ _ _ _ _ _ _ _ _ _ _ _ _ old next (outcome_of c.embed_part-call.result) c.own_edges.ensures points.from points.to room.from room.to entries.from entries.to call.embeds;
            status_is = c.report.ensures.status;
            numbers_are = c.report.ensures.numbers;
          }),
      record { statuses = length-set c.loop-i.statuses i c.report.result ∙ h.1.statuses; found = length-set c.loop-i.found i c.report.new.found ∙ h.1.found },
      call.ends.long ∙ h.2,
      call.neighbours.long ∙ h.3,
      call.x.long ∙ h.4,
      call.y.long ∙ h.5,
    )
