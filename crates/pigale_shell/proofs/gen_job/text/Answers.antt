use Rattle.std.proofs.Common.{length, ap, arith}
use Rattle.map_gen.specs.Stacked.{stacked}
use Rattle.pigale_shell.proofs.gen_job.text.Goals as goal

pub block-requires-clause-some_list : goal.block-requires-clause-some_list
block-requires-clause-some_list c =
    let count = (c.stacked_is_triangulation.ensures c.args.size c.args.number c.requires.some).1 in
    let is = ap (length {A = _}) c.in_ok-lists.ensures in
    omega (arith, c.requires.some)

pub block-requires-clause-served : goal.block-requires-clause-served
block-requires-clause-served c =
    let made = c.stacked_is_triangulation.ensures c.args.size c.args.number c.requires.some in
    let is = c.no_refusal_is_plane.ensures 3 (stacked c.args.size c.args.number) in
    rw c.in_ok-lists.ensures ((is (omega (arith, c.requires.some, made.1))).1 (made.0.simple, made.0.plane, made.0.some))
