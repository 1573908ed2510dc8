use Rattle.std.proofs.Common.{set, ap, rules, w32, FitsSigned}
use Rattle.std.proofs.lemmas.Int.{to_z-of_z}
use Rattle.visibility.proofs.column_pass.put_end.Goals as goal

pub returns : goal.returns
returns c =
    let fits : FitsSigned w32 c.coordinate.result = search rules in
    simp to_z-of_z (ap (set c.args.ends.now c.args.b) c.coordinate.ensures)
