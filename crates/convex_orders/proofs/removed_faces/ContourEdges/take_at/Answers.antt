use Rattle.std.proofs.Common.{◌≡◌, ◌↔◌, ◌-◌, ◌<◌, ℕ, suc, List, true, length, get_or, Contains, refl, sym, ap, ◌∙◌, subst, arith}
use Rattle.std.proofs.lemmas.Bool.{true≢false}
use Rattle.std.proofs.lemmas.List.{get_or_default}
use Rattle.map_theory.specs.Maps.{list_of}
use Rattle.convex_orders.specs.Contours.{vertices_of, number_at}
use Rattle.convex_orders.specs.Shown.{is_set}
use Rattle.convex_orders.proofs.CountLemmas.{AreInner-below}
use Rattle.convex_orders.proofs.Known.{based, AreInner-known}
use Rattle.convex_orders.proofs.Moves.{contour_left}
use Rattle.convex_orders.proofs.TakenAt.{goes_right, goes_left, goes_only}
use Rattle.convex_orders.proofs.removed_faces.ContourEdges.take_at.Goals as goal

pub is_same-requires : goal.is_same-requires
is_same-requires c =
    let j : ℕ = c.len-j.result - 1 in
    let go = c.requires.place j (omega (arith, c.args.self.now.some, c.len-j.ensures)) in
    omega (arith, go.place.before, c.len-j.ensures)

pub clear_face-requires : goal.clear_face-requires
clear_face-requires c =
    let t = c.args.self.now.tables.now in
    let j : ℕ = c.len-j.result - 1 in
    let go = c.requires.place j (omega (arith, c.args.self.now.some, c.len-j.ensures)) in
    let l = AreInner-below t.lists t.faces.own t.faces.count (vertices_of c.args.self.now.contour.now) c.args.self.now.inner.now t.numbers.own_table (AreInner-known _ _ _ _ c.args.self.now.numbered) j go.place.before in
    record { within = omega (arith, l, c.number.ensures, go.marks_long) }

pub clear_face-requires-then-has_left : goal.clear_face-requires-then-has_left
clear_face-requires-then-has_left c =
    let t = c.args.self.now.tables.now in
    let j : ℕ = c.len-j.result - 1 in
    let go = c.requires.place j (omega (arith, c.args.self.now.some, c.len-j.ensures)) in
    let l = AreInner-below t.lists t.faces.own t.faces.count (vertices_of c.args.self.now.contour.now) c.args.self.now.inner.now t.numbers.own_table (AreInner-known _ _ _ _ c.args.self.now.numbered) (j - 1) (omega (arith, go.place.before, go.place.after)) in
    record { within = omega (arith, l, c.number-then-has_left.ensures, go.marks_long) }

pub clear_faces-requires : goal.clear_faces-requires
clear_faces-requires c =
    let t = c.args.self.now.tables.now in
    let left = c.args.self.now.contour.now.left.items in
    let j : ℕ = c.len-j.result - 1 in
    let inside : j < length left = omega (arith, c.args.self.now.some, c.len-j.ensures) in
    let go = c.requires.place j (omega (arith, c.args.self.now.some, c.len-j.ensures)) in
    let v = c.index-v.result.now in
    let at : v ≡ get_or (vertices_of c.args.self.now.contour.now) j 0 = c.index-v.ensures ∙ (get_or_default left j v 0 inside ∙ sym (contour_left left c.args.self.now.contour.now.right.items j inside)) in
    let l : v < length t.lists = omega (arith, (AreInner-known _ _ _ _ c.args.self.now.numbered).vertices j (omega (arith, go.place.before)), at) in
    record { within = subst (λ (z : List ℕ). (k : ℕ) → k < length z → get_or z k 0 < length c.args.marks.now) (sym c.list.ensures) (λ k m. omega (arith, t.numbers.own_table.below v k l m, go.marks_long)) }

pub returns-then-is_same-clause-goes : goal.returns-then-is_same-clause-goes
returns-then-is_same-clause-goes c = λ alive w r j e choice.
    let t = c.args.self.now.tables.now in
    let ws = vertices_of c.args.self.now.contour.now in
    let inner = c.args.self.now.inner.now in
    let go = c.requires.place j e in
    let z : c.len-j.result - 1 ≡ j = omega (arith, e, c.len-j.ensures) in
    let right = subst (λ k. (suc (suc k) < length ws) × (number_at inner ws k ≡ number_at inner ws (suc k))) z (c.is_same.ensures.0 c.if-is_same.true) in
    goes_right t.lists t.faces.own t.faces.other t.faces.count t.tail t.head (based t) t.numbers c.args.marks.now c.clear_face.new.marks ws go.places go.edges go.counts go.marks_long inner (AreInner-known _ _ _ _ c.args.self.now.numbered) j go.place alive w r choice
    (length ws) refl right c.number.result (c.number.ensures ∙ ap (number_at inner ws) z) c.clear_face.ensures

pub returns-then-has_left-clause-goes : goal.returns-then-has_left-clause-goes
returns-then-has_left-clause-goes c = λ alive w r j e choice.
    let t = c.args.self.now.tables.now in
    let ws = vertices_of c.args.self.now.contour.now in
    let inner = c.args.self.now.inner.now in
    let go = c.requires.place j e in
    let z : c.len-j.result - 1 ≡ j = omega (arith, e, c.len-j.ensures) in
    let left = c.has_left.ensures.yes c.if-has_left.true in
    goes_left t.lists t.faces.own t.faces.other t.faces.count t.tail t.head (based t) t.numbers c.args.marks.now c.clear_face-then-has_left.new.marks ws go.places go.edges go.counts go.marks_long inner (AreInner-known _ _ _ _ c.args.self.now.numbered) j go.place alive w r choice
    left.0 (left.1 ∙ z) left.2 c.number-then-has_left.result (c.number-then-has_left.ensures ∙ ap (λ k. number_at inner ws (k - 1)) z) c.clear_face-then-has_left.ensures

pub returns-else-has_left-clause-goes : goal.returns-else-has_left-clause-goes
returns-else-has_left-clause-goes c = λ alive w r j e choice.
    let t = c.args.self.now.tables.now in
    let marks = c.args.marks.now in
    let new = c.clear_faces.new.marks in
    let left = c.args.self.now.contour.now.left.items in
    let ws = vertices_of c.args.self.now.contour.now in
    let inner = c.args.self.now.inner.now in
    let go = c.requires.place j e in
    let z : c.len-j.result - 1 ≡ j = omega (arith, e, c.len-j.ensures) in
    let inside : c.len-j.result - 1 < length left = omega (arith, c.args.self.now.some, c.len-j.ensures) in
    let at : c.index-v.result.now ≡ get_or ws j 0 = c.index-v.ensures ∙ (get_or_default left (c.len-j.result - 1) c.index-v.result.now 0 inside ∙ (ap (λ k. get_or left k 0) z ∙ sym (contour_left left c.args.self.now.contour.now.right.items j (omega arith)))) in
    goes_only t.lists t.faces.own t.faces.other t.faces.count t.tail t.head (based t) t.numbers marks new ws go.places go.edges go.counts go.marks_long inner (AreInner-known _ _ _ _ c.args.self.now.numbered) j go.place alive w r choice
    (length ws) refl
    (λ h. true≢false (sym (c.is_same.ensures.1 (subst (λ k. (suc (suc k) < length ws) × (number_at inner ws k ≡ number_at inner ws (suc k))) (sym z) h)) ∙ c.if-is_same.false))
    (λ h y q. true≢false (sym (c.has_left.ensures.no h (y ∙ sym z) q) ∙ c.if-has_left.false))
    (subst (λ (row : List ℕ). (f : ℕ) → (is_set new f ≡ true) ↔ ((is_set marks f ≡ true) × (¬ Contains row f))) (c.list.ensures ∙ ap (list_of t.faces.own) at) c.clear_faces.ensures.set)
