-- The number of a byte joins the lists, and closes the last of them only where the loop is left.
use Rattle.std.proofs.Common.{◌∙◌, arith}
use Rattle.planar_code.proofs.GatherLemmas.{narrow-gathers, still-some}
use Rattle.planar_code.proofs.number_gathering.narrow_numbers.Goals as goal

pub bytes-preserved : goal.bytes-preserved
bytes-preserved c =
    let k = c.bytes.k in
    let piece = c.args.piece.now in
    let h = c.bytes.invariant in
    record {
      within = omega (arith, h.within);
      gathers = narrow-gathers c.args.count k c.from.result piece c.args.gathered.now c.bytes.gathered c.collect.new.self (omega arith) c.from.ensures (omega arith) h.some_left h.gathers c.collect.ensures.collects c.collect.ensures.room c.collect.ensures.most;
      some_left = still-some c.args.count c.from.result c.bytes.gathered c.collect.new.self h.some_left c.collect.ensures.collects (λ e all. c.if-closed-count.false (c.closed.ensures ∙ all));
    }
