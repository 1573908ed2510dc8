use Rattle.std.proofs.Common.{◌++◌, ◌∷◌, [], List, length, ap, ◌∙◌, arith}
use Rattle.plane_laws.specs.WithEdge.{row_with_edge}
use Rattle.plane_laws.proofs.EdgeRows.{length-with_edge, one_row, all_rows}
use Rattle.plane_laws.proofs.edge_insertion.with_edge_after.Goals as goal

pub loop-w-preserved : goal.loop-w-preserved
loop-w-preserved c =
    let us = c.list.result.now in
    c.in_ok-push_row.ensures
    ∙ (ap (λ (ls : List (List _)). ls ++ row_with_edge c.args.u c.args.a c.args.v c.args.c c.loop-w.w us ∷ []) c.loop-w.invariant
    ∙ one_row c.args.lists.now c.args.u c.args.a c.args.v c.args.c c.loop-w.w us (omega (arith, c.loop-w-test.true)) c.list.ensures)

pub from_lists-requires : goal.from_lists-requires
from_lists-requires c =
    let all = c.loop-w.invariant ∙ all_rows c.args.lists.now c.args.u c.args.a c.args.v c.args.c c.loop-w.w (omega (arith, c.loop-w-test.false)) in
    omega (arith, ap length all, length-with_edge c.args.lists.now c.args.u c.args.a c.args.v c.args.c)

pub returns : goal.returns
returns c = c.from_lists.ensures ∙ c.loop-w.invariant ∙ all_rows c.args.lists.now c.args.u c.args.a c.args.v c.args.c c.loop-w.w (omega (arith, c.loop-w-test.false))
