use Rattle.std.proofs.Common.{◌≡◌, ℕ, List, length, sym, ap, ◌∙◌, subst, arith}
use Rattle.map_lists.proofs.CutLemmas.{length-cut}
use Rattle.bipolar.specs.FaceArcs.{AreFaceArcs}
use Rattle.bipolar.proofs.CutRows.{AreRowsCut-none, AreRowsCut-more}
use Rattle.bipolar.proofs.dual_orders.dual_arcs.face_arcs.Goals as goal

pub loop-f-init : goal.loop-f-init
loop-f-init c = AreRowsCut-none _ c.in_ok-ends.ends.items c.in_ok-entries.entries.items c.in_ok-ends.ensures.items c.in_ok-entries.ensures.items

pub loop-f-preserved : goal.loop-f-preserved
loop-f-preserved c =
    let put = c.in_ok-put_walk.ensures in
    AreRowsCut-more _ c.loop-f.f _ c.loop-f.ends.items _ c.loop-f.entries.items c.put_walk.new.entries.items put.row c.loop-f.invariant put.grown c.in_ok-push.ensures.items (omega (arith, c.len.ensures)) put.faces

pub returns-clause-arcs : goal.returns-clause-arcs
returns-clause-arcs c =
    let h = c.loop-f.invariant in
    let all : c.loop-f.f ≡ length c.args.faces.now = omega (arith, c.loop-f-test.false, c.loop-f.auto.f-end, c.count-f-end.ensures) in
    subst (AreFaceArcs c.args.map.now c.args.faces.now c.args.rank.now) (sym c.from_parts.ensures) (record {
      count = length-cut 0 c.loop-f.ends.items c.loop-f.entries.items ∙ (h.number ∙ all);
      rows = λ f l. h.each f (omega (arith, l, all));
    })

pub returns-clause-few : goal.returns-clause-few
returns-clause-few c =
    let h = c.loop-f.invariant in
    omega (arith, ap (λ (ls : List (List ℕ)). length ls) c.from_parts.ensures, length-cut 0 c.loop-f.ends.items c.loop-f.entries.items, h.number, c.loop-f.auto.f-end)
