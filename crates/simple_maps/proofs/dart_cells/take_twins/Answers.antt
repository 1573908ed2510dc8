-- One dart more is tried.
use Rattle.std.proofs.Common.{get_or, refl, ap, ◌∙◌, arith, length-set}
use Rattle.simple_maps.proofs.CellLemmas.{tried-more}
use Rattle.simple_maps.proofs.dart_cells.take_twins.Goals as goal

pub loop-d-preserved : goal.loop-d-preserved
loop-d-preserved c =
    let entries = c.args.entries.now in
    let tails = c.args.tails.now in
    let cells = c.args.cells.now in
    let h = c.loop-d.invariant in
    let d = c.loop-d.d in
    record {
      twins = length-set c.loop-d.twins d _ ∙ h.twins;
      tried = tried-more entries tails c.loop-d.twins cells c.args.n d c.loop-d.wrong (get_or cells c.cell_of-in-loop-d.result 0) (get_or entries c.min-twin.result 0) (get_or tails c.min-twin.result 0) c.min-twin.result
          c.from-wrong.result c.from-wrong-in-loop-d.result _ refl c.from-wrong.ensures c.from-wrong-in-loop-d.ensures h.tried (ap (λ k. get_or cells k 0) c.cell_of-in-loop-d.ensures.is) refl refl
          (omega (arith, c.min-twin.ensures, c.requires.some_dart)) (omega (arith, h.twins, c.loop-d-test.true));
    }
