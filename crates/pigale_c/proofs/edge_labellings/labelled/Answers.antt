-- There are as many labels as darts.
use Rattle.std.proofs.Common.{ℕ, List, length, sym, ap, ◌∙◌, arith}
use Rattle.map_theory.specs.Maps.{dart_count}
use Rattle.pigale_c.proofs.edge_labellings.labelled.Goals as goal

pub copy_from_slice-requires : goal.copy_from_slice-requires
copy_from_slice-requires c =
    let lists = c.in_ok-map.ensures.lists ∙ sym c.in_ok-lists.ensures.lists in
    let count = c.in_ok-made.ensures.count ∙ ap dart_count lists in
    omega (arith, count, c.total-size.ensures, c.if-row-size.false, ap (λ (us : List ℕ). length us) c.deref.ensures.value)
