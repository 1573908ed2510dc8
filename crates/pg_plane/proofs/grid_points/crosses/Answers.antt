use Rattle.std.proofs.Common.{rules, w64, FitsSigned, sym, ◌∙◌}
use Rattle.std.proofs.lemmas.Int.{to_z-of_z}
use Rattle.std.proofs.lemmas.Bool.{true≢false}
use Rattle.pg_plane.proofs.grid_points.crosses.Goals as goal

pub returns-then-are_opposite : goal.returns-then-are_opposite
returns-then-are_opposite c =
    let f1 : FitsSigned w64 c.area2.result = search rules in
    let f2 : FitsSigned w64 c.area2-2.result = search rules in
    let f3 : FitsSigned w64 c.area2-then-are_opposite.result = search rules in
    let f4 : FitsSigned w64 c.area2-then-are_opposite-2.result = search rules in
    let second = rw (c.area2.ensures, c.area2-2.ensures) at (simp to_z-of_z at c.are_opposite.ensures) in
    let first = rw (c.area2-then-are_opposite.ensures, c.area2-then-are_opposite-2.ensures) at (simp to_z-of_z at c.are_opposite-then-are_opposite.ensures) in
    (λ t. record { ends_of_second = second.0 c.if-are_opposite.true; ends_of_first = first.0 t }, λ d. first.1 d.ends_of_first)

pub returns-else-are_opposite : goal.returns-else-are_opposite
returns-else-are_opposite c =
    let f1 : FitsSigned w64 c.area2.result = search rules in
    let f2 : FitsSigned w64 c.area2-2.result = search rules in
    let second = rw (c.area2.ensures, c.area2-2.ensures) at (simp to_z-of_z at c.are_opposite.ensures) in
    (λ t. absurd (true≢false (sym t ∙ c.if-are_opposite.false)), λ d. second.1 d.ends_of_second)
