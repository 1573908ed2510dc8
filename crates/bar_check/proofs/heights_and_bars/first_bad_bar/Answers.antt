use Rattle.std.proofs.Common.{rules, w32, FitsSigned}
use Rattle.std.proofs.lemmas.Int.{to_z-of_z}
use Rattle.bar_check.proofs.heights_and_bars.first_bad_bar.Goals as goal

pub returns-then-not-is_bar : goal.returns-then-not-is_bar
returns-then-not-is_bar c =
    let f : FitsSigned w32 c.args.width = search rules in
    let before = simp to_z-of_z at c.loop-v.invariant in
    record {
      here = record { vertex = search rules; bad = search rules };
      before = λ u l wrong. wrong.bad (before u l);
    }
