use Rattle.std.proofs.Common.{◌≡◌, length, sym, ◌∙◌, subst, arith}
use Rattle.map_lists.proofs.CutLemmas.{length-cut}
use Rattle.bipolar.specs.FaceArcs.{AreNumberRows}
use Rattle.bipolar.proofs.CutRows.{AreRowsCut-none, AreRowsCut-more}
use Rattle.bipolar.proofs.dual_orders.left_face_rows.NumberedMap.number_rows.Goals as goal

pub loop-v-init : goal.loop-v-init
loop-v-init c = AreRowsCut-none _ c.in_ok-ends.ends.items c.in_ok-entries.entries.items c.in_ok-ends.ensures.items c.in_ok-entries.ensures.items

pub loop-v-preserved : goal.loop-v-preserved
loop-v-preserved c =
    let put = c.in_ok-put_vertex.ensures in
    AreRowsCut-more _ c.loop-v.v _ c.loop-v.ends.items _ c.loop-v.entries.items c.put_vertex.new.entries.items put.row c.loop-v.invariant put.grown c.in_ok-push.ensures.items (omega (arith, c.len.ensures)) (put.size, put.left)

pub returns : goal.returns
returns c =
    let map = c.args.self.now.map.now in
    let h = c.loop-v.invariant in
    let all : c.loop-v.v ≡ length map.lists = omega (arith, c.loop-v-test.false, c.loop-v.auto.v-end, c.n-v-end.ensures) in
    subst (AreNumberRows map c.args.self.now.faces.now c.args.self.now.rank.now c.args.self.now.numbers.now) (sym c.from_parts.ensures) (record {
      count = length-cut 0 c.loop-v.ends.items c.loop-v.entries.items ∙ (h.number ∙ all);
      sizes = λ v l. (h.each v (omega (arith, l, all))).0;
      each = λ v l. (h.each v (omega (arith, l, all))).1;
    })
