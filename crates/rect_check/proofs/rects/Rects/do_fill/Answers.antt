use Rattle.std.proofs.Common.{ℤ, ◌*ℤ◌, FitsSigned, w64, to_z, of_z, to_z-of_z, eqb-true, eq-eqb, sym, ap, ap₂, ◌∙◌, rules}
use Rattle.rect_check.proofs.AreaLemmas.{product-fits}
use Rattle.rect_check.proofs.rects.Rects.do_fill.Goals as goal

pub overflow_mul-span : goal.overflow_mul-span
overflow_mul-span c = (product-fits c.greatest.result c.greatest-2.result c.from.result c.from-2.result (search rules) (search rules) c.from.ensures c.from-2.ensures).0

pub returns : goal.returns
returns c =
    let p = product-fits c.greatest.result c.greatest-2.result c.from.result c.from-2.result (search rules) (search rules) c.from.ensures c.from-2.ensures in
    let span = p.1 ∙ ap₂ (λ (x y : ℤ). x *ℤ y) c.greatest.ensures c.greatest-2.ensures in
    let total : FitsSigned w64 c.total_area.result = search rules in
    (λ e. sym c.total_area.ensures ∙ (sym (to_z-of_z total) ∙ (ap (to_z w64) (eqb-true _ _ e) ∙ (to_z-of_z p.0 ∙ span))), λ h. eq-eqb _ _ (ap (of_z w64) (c.total_area.ensures ∙ (h ∙ sym span))))
