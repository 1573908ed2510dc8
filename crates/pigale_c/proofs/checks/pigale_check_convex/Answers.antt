-- The outcome is right in this grid.
use Rattle.std.proofs.Common.{rules, w32, FitsSigned}
use Rattle.std.proofs.lemmas.Int.{to_z-of_z}
use Rattle.pigale_c.specs.Numbers.{outcome_of}
use Rattle.pigale_c.proofs.checks.pigale_check_convex.Goals as goal

pub returns : goal.returns
returns c =
    let wide : FitsSigned w32 c.args.width = search rules in
    let high : FitsSigned w32 c.args.height = search rules in
    record {
      outcome = outcome_of c.judged_convex.result;
      right = rw (to_z-of_z w32 c.args.width wide, to_z-of_z w32 c.args.height high) at c.judged_convex.ensures;
      status_is = c.report.ensures.status;
      numbers_are = c.report.ensures.numbers;
    }
