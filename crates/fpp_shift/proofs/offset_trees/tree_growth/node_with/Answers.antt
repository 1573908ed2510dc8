use Rattle.std.proofs.Common.{SFits, rules, refl}
use Rattle.std.specs.Int.{w32}
use Rattle.std.proofs.lemmas.Int.{to_z-of_z}
use Rattle.fpp_shift.proofs.offset_trees.tree_growth.node_with.Goals as goal

pub returns : goal.returns
returns c =
    let x : SFits w32 c.args.place.0 = search rules in
    let y : SFits w32 c.args.place.1 = search rules in
    rw (to_z-of_z w32 c.args.place.0 x, to_z-of_z w32 c.args.place.1 y) refl
