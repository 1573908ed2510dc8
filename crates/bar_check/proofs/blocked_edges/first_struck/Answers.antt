use Rattle.std.proofs.Common.{rules, w32, FitsSigned}
use Rattle.std.proofs.lemmas.Int.{to_z-of_z}
use Rattle.bar_check.proofs.blocked_edges.first_struck.Goals as goal

pub returns-then-is_struck : goal.returns-then-is_struck
returns-then-is_struck c =
    let f : FitsSigned w32 c.args.x = search rules in
    let before = simp to_z-of_z at c.loop-v.invariant in
    record {
      here = (search rules, search rules);
      before = λ u l struck. before u l struck.1;
    }
