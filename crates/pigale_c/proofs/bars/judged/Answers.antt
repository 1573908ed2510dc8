-- The map and the bars are those of the arrays.
use Rattle.std.proofs.Common.{rules, w32, FitsSigned}
use Rattle.std.proofs.lemmas.Int.{to_z-of_z}
use Rattle.pigale_c.proofs.bars.judged.Goals as goal

pub returns : goal.returns
returns c =
    let wide : FitsSigned w32 c.args.width = search rules in (
      record { map = c.in_ok-lists.ensures.given; bars = c.are_for.ensures.0 c.if-not-are_for.false },
      rw c.in_ok-lists.ensures.lists at c.in_ok-map.ensures.simple,
      rw (to_z-of_z w32 c.args.width wide, c.in_ok-map.ensures.lists, c.in_ok-lists.ensures.lists, c.in_ok-fig.ensures) at c.check_bars-verdict.ensures,
    )
