use Rattle.std.proofs.Common.{◌≡◌, ◌+◌, ◌-◌, ℕ, suc, sym, ap, ◌∙◌, eqb-true, eq-eqb, subst, arith}
use Rattle.convex_orders.specs.Contours.{number_at}
use Rattle.convex_orders.proofs.CutLemmas.{IsCutTo, cuts_more, cuts_last}
use Rattle.convex_orders.proofs.interval_cuts.put_cuts.Goals as goal

pub loop-p-preserved : goal.loop-p-preserved
loop-p-preserved c =
    let p = c.loop-p.p in
    let q : ℕ = p - 1 in
    let first = c.args.stretch.now.first in
    let number = number_at c.args.outer.now c.args.stretch.now.ws.now in
    let before : suc q ≡ p = omega (arith, c.loop-p.auto.p) in
    let here : c.loop-p.number ≡ number q = c.loop-p.invariant.number q before in
    let z : suc p ≡ p + 1 = omega arith in
    record {
      number = λ k e. (let y : p ≡ k = omega (arith, e) in ap number y);
      cuts = λ faces cut are.
          subst (λ k. IsCutTo c.push_unless.new.row.items first k faces cut) z
          (cuts_more number first c.args.stretch.now.last faces cut are c.loop-p.row.items c.push_unless.new.row.items p q _ before c.loop-p-test.true
          (λ t. sym here ∙ (eqb-true _ _ t ∙ ap number (sym before)))
          (λ e. eq-eqb _ _ (here ∙ (e ∙ ap number before)))
          (p - first) (omega (arith, c.loop-p.auto.p)) c.in_ok-push_unless.ensures (c.loop-p.invariant.cuts faces cut are));
    }

pub returns : goal.returns
returns c = λ faces cut are.
    let first = c.args.stretch.now.first in
    let last = c.args.stretch.now.last in
    let end : c.loop-p.p ≡ last = omega (arith, c.loop-p-test.false, c.loop-p.auto.p-end, c.args.stretch.now.order) in
    cuts_last (number_at c.args.outer.now c.args.stretch.now.ws.now) first last faces cut are c.loop-p.row.items c.push-2.new.self.items (last - first) (omega (arith, c.args.stretch.now.order)) c.in_ok-push-2.ensures.items (subst (λ z. IsCutTo c.loop-p.row.items first z faces cut) end (c.loop-p.invariant.cuts faces cut are))
