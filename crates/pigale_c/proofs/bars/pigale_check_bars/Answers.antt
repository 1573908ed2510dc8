-- The outcome is right within this width.
use Rattle.std.proofs.Common.{rules, w32, FitsSigned}
use Rattle.std.proofs.lemmas.Int.{to_z-of_z}
use Rattle.pigale_c.specs.Numbers.{outcome_of}
use Rattle.pigale_c.proofs.bars.pigale_check_bars.Goals as goal

pub returns : goal.returns
returns c =
    let wide : FitsSigned w32 c.args.width = search rules in
    record {
      outcome = outcome_of c.judged.result;
      right = rw (to_z-of_z w32 c.args.width wide) at c.judged.ensures;
      status_is = c.report.ensures.status;
      numbers_are = c.report.ensures.numbers;
    }
