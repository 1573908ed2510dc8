use Rattle.std.proofs.Common.{◌≡◌, ◌==◌, false, ℕ, true, length, replicate, get_or, ap, ◌∙◌, get_or-set_same, get_or-set_other, arith}
use Rattle.std.proofs.lemmas.List.{length-replicate, get_or-replicate}
use Rattle.rect_dual.proofs.SideLemmas.{IsSideState-begin}
use Rattle.rect_dual.proofs.side_lines.SideLines.new.Goals as goal

pub returns-clause-state : goal.returns-clause-state
returns-clause-state c = λ steps m.
    let n = c.args.n in
    let lines = c.in_ok-lines.lines.items in
    let links = c.in_ok-links.links.items in
    let leads = c.in_ok-leads.leads.items in
    let second = c.second_line-second.result in
    let many = c.requires.base in
    let e_lines : lines ≡ replicate n 0 = c.in_ok-lines.ensures.items_if_clones_equal (λ y e. e) in
    let e_next : c.in_ok-next.next.items ≡ replicate n 0 = c.in_ok-next.ensures.items_if_clones_equal (λ y e. e) in
    let e_links : links ≡ replicate n second = c.in_ok-links.ensures.items_if_clones_equal (λ y e. e) in
    let e_leads : leads ≡ replicate n true = c.in_ok-leads.ensures.items_if_clones_equal (λ y e. e) in
    IsSideState-begin c.args.side steps m second _ c.in_ok-next.next.items links _ c.second_line-second.ensures.line
    (get_or-set_other lines 1 0 second 0 (λ e. omega (arith, e)) ∙ (ap (λ l. get_or l 0 0) e_lines ∙ get_or-replicate {A = ℕ} n 0 0 0 (omega (arith, many))))
    (get_or-set_same lines 1 second 0 (omega (arith, many, ap length e_lines, length-replicate {A = ℕ} n 0)))
    (omega (arith, many, ap length e_next, length-replicate {A = ℕ} n 0))
    (λ i d b. ap (λ l. get_or l i d) e_next ∙ get_or-replicate {A = ℕ} n i 0 d (omega (arith, b, ap length e_next, length-replicate {A = ℕ} n 0)))
    (omega (arith, many, ap length e_links, length-replicate n second))
    (λ i d b. ap (λ l. get_or l i d) e_links ∙ get_or-replicate n i second d (omega (arith, b, ap length e_links, length-replicate n second)))
    (get_or-set_other leads 1 0 (second == 1) false (λ e. omega (arith, e)) ∙ (ap (λ l. get_or l 0 false) e_leads ∙ get_or-replicate n 0 true false (omega (arith, many))))
    (get_or-set_same leads 1 (second == 1) false (omega (arith, many, ap length e_leads, length-replicate n true)))
