use Rattle.std.proofs.Common.{◌≡◌, [], ◌∷◌, length, sym, ap, ◌∙◌, subst, arith}
use Rattle.std.proofs.lemmas.List.{length-append}
use Rattle.map_lists.specs.Cuts.{cut, AreCuts}
use Rattle.map_lists.proofs.CutLemmas.{IsStored-cut, IsStored-cuts, length-cut, pushed}
use Rattle.map_theory.specs.Maps.{list_of}
use Rattle.convex_orders.specs.FaceNumbers.{AreOwn, AreOther}
use Rattle.convex_orders.proofs.FaceNumbersRows.{each_more, tables}
use Rattle.convex_orders.proofs.face_numbers.numbers_of_faces.Goals as goal

pub loop-v-init : goal.loop-v-init
loop-v-init c =
    let own : c.in_ok-own.own.items ≡ [] = c.in_ok-own.ensures.items in
    let own_ends : c.in_ok-own_ends.own_ends.items ≡ [] = c.in_ok-own_ends.ensures.items in
    let other : c.in_ok-other.other.items ≡ [] = c.in_ok-other.ensures.items in
    let other_ends : c.in_ok-other_ends.other_ends.items ≡ [] = c.in_ok-other_ends.ensures.items in
    record {
      own_cuts = subst (λ ends. AreCuts 0 ends (length c.in_ok-own.own.items)) (sym own_ends) (sym (ap length own));
      other_cuts = subst (λ ends. AreCuts 0 ends (length c.in_ok-other.other.items)) (sym other_ends) (sym (ap length other));
      own_count = length-cut 0 c.in_ok-own_ends.own_ends.items c.in_ok-own.own.items ∙ ap length own_ends;
      other_count = length-cut 0 c.in_ok-other_ends.other_ends.items c.in_ok-other.other.items ∙ ap length other_ends;
      own_sizes = λ u l. absurd (omega arith);
      other_sizes = λ u l. absurd (omega arith);
      own_each = λ u l. absurd (omega arith);
      other_each = λ u l. absurd (omega arith);
    }

pub loop-v-preserved : goal.loop-v-preserved
loop-v-preserved c =
    let map = c.args.map.now in
    let walks = c.args.faces.now in
    let h = c.loop-v.invariant in
    let v = c.loop-v.v in
    let put = c.in_ok-put_vertex.ensures.own in
    let put' = c.in_ok-put_vertex.ensures.other in
    let own = cut 0 c.loop-v.own_ends.items c.loop-v.own.items in
    let other = cut 0 c.loop-v.other_ends.items c.loop-v.other.items in
    let stored = pushed _ _ _ _ _ h.own_cuts put.grown c.in_ok-push.ensures.items (omega (arith, c.len.ensures, c.put_vertex.new.own.ok.0)) in
    let stored' = pushed _ _ _ _ _ h.other_cuts put'.grown c.in_ok-push-2.ensures.items (omega (arith, c.len-in-loop-v.ensures, c.put_vertex.new.other.ok.0)) in
    let grown = IsStored-cut _ _ _ stored in
    let grown' = IsStored-cut _ _ _ stored' in
    record {
      own_cuts = IsStored-cuts _ _ _ stored;
      other_cuts = IsStored-cuts _ _ _ stored';
      own_count = omega (arith, ap length grown, length-append own (put.row ∷ []), h.own_count);
      other_count = omega (arith, ap length grown', length-append other (put'.row ∷ []), h.other_count);
      own_sizes = each_more (λ u us. length us ≡ length (list_of map.lists u)) own _ put.row v h.own_count grown h.own_sizes put.long;
      other_sizes = each_more (λ u us. length us ≡ length (list_of map.lists u)) other _ put'.row v h.other_count grown' h.other_sizes put'.long;
      own_each = each_more (AreOwn map walks) own _ put.row v h.own_count grown h.own_each put.is;
      other_each = each_more (AreOther map walks) other _ put'.row v h.other_count grown' h.other_each put'.is;
    }

pub returns : goal.returns
returns c =
    let map = c.args.map.now in
    let h = c.loop-v.invariant in
    let n : c.loop-v.v ≡ length map.lists = omega (arith, c.loop-v-test.false, c.loop-v.auto.v-end, c.n-v-end.ensures.count) in
    rw (c.from_parts.ensures, c.from_parts-2.ensures, c.count-count.ensures) (tables map c.args.map.now.known c.args.faces.now c.requires.faces (cut 0 c.loop-v.own_ends.items c.loop-v.own.items) (cut 0 c.loop-v.other_ends.items c.loop-v.other.items) (h.own_count ∙ n) (h.other_count ∙ n)
    (λ u l. h.own_sizes u (omega arith)) (λ u l. h.other_sizes u (omega arith)) (λ u l. h.own_each u (omega arith)) (λ u l. h.other_each u (omega arith)))
