-- The bars of the figure are what the arrays have.
use Rattle.std.proofs.Common.{◌∙◌}
use Rattle.pigale_c.proofs.bars.put_bars.Goals as goal

pub returns : goal.returns
returns c =
    let said = c.in_ok-fig.ensures in
    let y = c.copy_from_slice.ensures.after ∙ c.as_slice.ensures in
    let x1 = c.copy_from_slice-2.ensures.after ∙ c.as_slice-2.ensures in
    let x2 = c.copy_from_slice-3.ensures.after ∙ c.as_slice-3.ensures in
    let column = c.copy_from_slice-4.ensures.after ∙ c.as_slice-4.ensures in
    (said.given, said.served, rw (y, x1, x2, column) said.figure)
