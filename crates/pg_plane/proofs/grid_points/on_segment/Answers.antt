use Rattle.std.proofs.Common.{◌≡◌, pos, arith, rules, w64, FitsSigned, sym, ◌∙◌, ap, eqb-true, of_z}
use Rattle.std.proofs.lemmas.Int.{ints}
use Rattle.pg_plane.proofs.grid_points.on_segment.Goals as goal

pub returns-then-area2-eq0 : goal.returns-then-area2-eq0
returns-then-area2-eq0 c =
    let f : FitsSigned w64 c.area2.result = search rules in
    let zero : c.area2.result ≡ pos 0 = omega (arith, ints) in (
      λ t. let b = c.is_in_box.ensures.0 t in record { on_line = sym c.area2.ensures ∙ zero; between_x = b.0; between_y = b.1 },
      λ s. c.is_in_box.ensures.1 (s.between_x, s.between_y),
    )

pub returns-else-area2-eq0 : goal.returns-else-area2-eq0
returns-else-area2-eq0 c =
    let f : FitsSigned w64 c.area2.result = search rules in (
      λ t. absurd (c.if-area2-eq0.false (eqb-true (of_z w64 c.area2.result) 0 t)),
      λ s. let zero : c.area2.result ≡ pos 0 = c.area2.ensures ∙ s.on_line in absurd (c.if-area2-eq0.false (ap (λ z. of_z w64 z) zero)),
    )
