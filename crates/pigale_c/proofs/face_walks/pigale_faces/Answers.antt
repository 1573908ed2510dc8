-- The walks that were found are what the arrays have, if they have room for them.
use Rattle.std.proofs.Common.{inr, refl}
use Rattle.pigale_c.specs.declared.outcome.Failure.TheVariants.{BadArgument}
use Rattle.pigale_c.specs.declared.outcome.Outcome.TheVariants.{Served, Failed}
use Rattle.pigale_c.proofs.EmbedLemmas.{written_as, no_room_as}
use Rattle.pigale_c.proofs.WalkLemmas.{faced_not}
use Rattle.pigale_c.proofs.face_walks.pigale_faces.Goals as goal

pub returns-then-not-put_lists : goal.returns-then-not-put_lists
returns-then-not-put_lists c =
    let put = rw c.if-not-put_lists.true at c.put_lists.ensures in
    record {
      outcome = Failed BadArgument;
      right = (inr (c.in-Ok.rows, c.in-Ok.ensures.walks, no_room_as _ _ _ _ c.args.face_ends.now c.args.walk.now c.ends.ensures c.entries.ensures put.0), put.1, put.2, refl);
      status_is = c.report.ensures.status;
      numbers_are = c.report.ensures.numbers;
    }

pub returns-else-not-put_lists : goal.returns-else-not-put_lists
returns-else-not-put_lists c =
    let put = rw c.if-not-put_lists.false at c.put_lists.ensures in
    record {
      outcome = Served;
      right = (c.in-Ok.ensures.given, c.in-Ok.rows, c.in-Ok.ensures.walks, written_as _ _ _ _ c.args.face_ends.now c.args.walk.now c.put_lists.new.ends c.put_lists.new.neighbours c.ends.ensures c.entries.ensures put, c.len.ensures);
      status_is = c.report-in-Ok.ensures.status;
      numbers_are = c.report-in-Ok.ensures.numbers;
    }

pub returns-in-Err : goal.returns-in-Err
returns-in-Err c = record {
  outcome = Failed c.in-Err.failure;
  right = faced_not c.args.ends.now c.args.neighbours.now c.args.face_ends.now c.args.walk.now c.args.face_count.now c.in-Err.failure c.in-Err.ensures.failed;
  status_is = c.report-in-Err.ensures.status;
  numbers_are = c.report-in-Err.ensures.numbers;
}
